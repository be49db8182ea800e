use Rattle.ledger.proofs.ledger.Ledger.fresh.Goals as goal
use Rattle.soundness.proofs.States.{sound_fresh}

pub invariant_of-result : goal.invariant_of-result
invariant_of-result c = sound_fresh _ c.in_ok-jobs.ensures.made c.in_ok-cells.ensures.made

pub returns-clause-sound : goal.returns-clause-sound
returns-clause-sound c = sound_fresh _ c.in_ok-jobs.ensures.made c.in_ok-cells.ensures.made
