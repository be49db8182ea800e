use Rattle.ledger.proofs.ledger.Ledger.close.Goals as goal
use Rattle.soundness.proofs.States.{room_to_close, sound_closed}

pub left-tables-requires : goal.left-tables-requires
left-tables-requires c =
    assumption (room_to_close c.take-tables.ensures.sound c.args.row c.args.ticket (rw (← c.take-tables.ensures.taken) at c.requires.in_row))

pub give_back-requires : goal.give_back-requires
give_back-requires c =
    record {
      sound_tables =
          sound_closed _ _ c.take-tables.ensures.sound c.args.row c.args.ticket
          (rw (← c.take-tables.ensures.taken) at c.requires.in_row) c.args.how (cc);
    }
