-- No request changes how many records or cells there are, so a reachable book has as many records as its size says.
use Rattle.std.proofs.Common.{◌≡◌, ℕ, zero, suc, List, [], ◌∷◌, length, refl, ap, arith, length-set}
use lib.ListN.{length-replicate}
use Rattle.schedule.specs.Books.{Book, carried, size_over}
use Rattle.schedule.specs.Cells.{fresh_record}
use Rattle.schedule.specs.declared.cell.CellRecord.{CellRecord}
use Rattle.schedule.specs.declared.request.Request.{Request}
use Rattle.schedule.specs.declared.request.Request.TheVariants as request
use Rattle.schedule.specs.Verdicts.{May}
use Rattle.schedule.specs.Reachable.{Reachable, Sized, after, later, opened}
use Rattle.std.proofs.lemmas.List.{length-map}

-- an end leaves as many cells in the main row
carried_length : {C : Type 0} (n : ℕ) (cells : List CellRecord) (row : ℕ) (main draft : List C) → length (carried n cells row main draft) ≡ length main
carried_length zero cells row main draft = refl
carried_length (suc n) [] row main draft = refl
carried_length (suc n) (r ∷ cells) row [] draft = refl
carried_length (suc n) (r ∷ cells) row (m ∷ main) [] = refl
carried_length (suc n) (r ∷ cells) row (m ∷ main) (d ∷ draft) = ap suc (carried_length n cells row main draft)

module _ {C : Type 0} (may : May) where
  pub sized_after : (b : Book C) (q : Request C) → Sized b → Sized (after may b q)
  sized_after b (request.Begin class) h = grind arith
  sized_after b (request.Read ticket cell) h = grind (arith, length-set {A = CellRecord}, length-map {A = CellRecord} {B = CellRecord})
  sized_after b (request.Write ticket cell c) h =
      grind (arith, length-set {A = CellRecord}, length-map {A = CellRecord} {B = CellRecord}, length-set {A = C})
  sized_after b (request.End ticket) h = grind (arith, length-map {A = CellRecord} {B = CellRecord}, carried_length {C = C})
  sized_after b (request.GiveUp ticket) h = grind (arith, length-map {A = CellRecord} {B = CellRecord})
  sized_after b (request.GroupSize size) h = grind arith

  pub reachable_sized : (b : Book C) → Reachable may b → Sized b
  reachable_sized b (opened main draft) = length-replicate (size_over main draft) fresh_record
  reachable_sized b (later r q) = sized_after _ q (reachable_sized _ r)
