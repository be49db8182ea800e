use Rattle.std.proofs.Common.{◌≡◌, ◌++◌, map, take, drop}
use Rattle.schedule.specs.Jobs.{wait_lifted}
use Rattle.std.specs.Option.{option_map}
use Rattle.roster.proofs.rows.JobRows.close.Given as goal

abbrev pub invariant-loop-place : goal.invariant-loop-place
invariant-loop-place l =
    l.place-items ≡ map (option_map (wait_lifted l.ticket)) (take l.place-index l.initial.place-items) ++ drop l.place-index l.initial.place-items
