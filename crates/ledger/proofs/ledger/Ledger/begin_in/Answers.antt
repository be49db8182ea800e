use Rattle.ledger.proofs.ledger.Ledger.begin_in.Goals as goal
use Rattle.soundness.proofs.States.{sound_begun}

pub give_back-requires : goal.give_back-requires
give_back-requires c =
    record {
      sound_tables =
          sound_begun _ _ c.take-tables.ensures.sound c.args.class c.args.row (rw (← c.take-tables.ensures.taken) at c.requires.tickets_left)
          (rw (← c.take-tables.ensures.taken) at c.requires.row_free) (cc);
    }
