use Rattle.ledger.proofs.ledger.Ledger.set_wait.Goals as goal
use Rattle.soundness.proofs.States.{sound_waiting}

pub give_back-requires : goal.give_back-requires
give_back-requires c = record { sound_tables = sound_waiting _ _ c.take-tables.ensures.sound c.args.row c.args.wait (cc) }
