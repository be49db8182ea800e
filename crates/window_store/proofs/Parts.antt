-- A cell replaced in a part of a row.
use Rattle.std.proofs.Common.{◌≡◌, ℕ, ◌+◌, ◌<◌, List, length, take, drop, set, ap, ◌∙◌, arith, length-take}
use Rattle.std.proofs.lemmas.List.{drop-set-add}
use Rattle.std.proofs.Math.Seq.{take-set-lt}

pub part_set : {C : Type 0} (count start i : ℕ) (row : List C) (cell : C) → i < length (take count (drop start row))
    → take count (drop start (set row (start + i) cell)) ≡ set (take count (drop start row)) i cell
part_set count start i row cell within =
    let below : i < count = omega (arith, length-take count (drop start row)) in
    ap (take count) (drop-set-add start row i cell) ∙ take-set-lt count (drop start row) i cell below
