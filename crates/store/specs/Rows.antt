-- What get and put answer over a row.
use Rattle.std.specs.Prelude.{ℕ, List, length, Ok, Err, Result, nat_lt, if◌then◌else◌}
use Rattle.std.specs.List.{slice_get}
use Rattle.std.specs.Option.{ok_or}
use Rattle.store.specs.declared.row.Outside.{Outside}

-- its one value
abbrev pub outside : Outside
outside = record {}

-- the cell at a number below the length, else 'outside'
abbrev pub cell_at : {C : Type 0} → List C → ℕ → Result C Outside
cell_at row i = ok_or (slice_get row i) outside

-- a put succeeds at a number below the length, else it says 'outside'
abbrev pub put_answer : {C : Type 0} → List C → ℕ → Result (Unit {0}) Outside
put_answer row i = if nat_lt i (length row) then Ok tt else Err outside
