use Rattle.std.proofs.Common.{arith, length-set}
use Rattle.engine.proofs.engine.Engine.read.Goals as goal
use Rattle.engine.proofs.Promising.{step_promises}
use Rattle.schedule.specs.declared.cell.CellRecord.{CellRecord}
use Rattle.std.proofs.lemmas.List.{length-map}

pub invariant_of-self : goal.invariant_of-self
invariant_of-self g c = grind (arith, length-set {A = CellRecord}, length-map {A = CellRecord} {B = CellRecord})

pub returns-clause-promises_kept : goal.returns-clause-promises_kept
returns-clause-promises_kept g c = grind (arith, step_promises)
