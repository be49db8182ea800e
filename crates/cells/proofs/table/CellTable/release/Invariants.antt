use Rattle.std.proofs.Common.{◌≡◌, ◌++◌, take, drop}
use Rattle.schedule.specs.Cells.{all_released}
use Rattle.cells.proofs.table.CellTable.release.Given as goal

abbrev pub invariant-loop-record : goal.invariant-loop-record
invariant-loop-record l =
    l.record-items ≡ all_released (take l.record-index l.initial.record-items) l.row ++ drop l.record-index l.initial.record-items
