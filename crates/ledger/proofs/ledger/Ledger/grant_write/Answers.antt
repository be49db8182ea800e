use Rattle.ledger.proofs.ledger.Ledger.grant_write.Goals as goal
use Rattle.soundness.proofs.States.{sound_writing}

pub give_back-requires : goal.give_back-requires
give_back-requires c =
    record {
      sound_tables =
          sound_writing _ _ c.take-tables.ensures.sound c.args.cell c.args.seated (rw (← c.take-tables.ensures.taken) at c.requires.job_there)
          (rw (← c.take-tables.ensures.taken) at c.requires.readers_earlier) (cc);
    }
