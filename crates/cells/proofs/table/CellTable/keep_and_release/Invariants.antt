use Rattle.std.proofs.Common.{◌≡◌, ◌++◌, take, drop}
use Rattle.schedule.specs.Cells.{all_released, all_stamped}
use Rattle.cells.proofs.table.CellTable.keep_and_release.Given as goal

abbrev pub invariant-loop-kept : goal.invariant-loop-kept
invariant-loop-kept l =
    l.kept-items ≡ all_released (all_stamped (take l.kept-index l.initial.kept-items) l.row l.group) l.row ++ drop l.kept-index l.initial.kept-items
