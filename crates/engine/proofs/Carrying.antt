-- One turn of the loop that carries draft cells into the main store: `carried` at one cell more.
use Rattle.std.proofs.Common.{◌≡◌, ℕ, zero, suc, ◌+◌, Bool, true, false, cond, List, [], ◌∷◌, set, Some, None, Option, refl, ap, ◌∙◌, arith}
use Rattle.schedule.specs.Books.{carried}
use Rattle.schedule.specs.Cells.{is_writer, record_of}
use Rattle.schedule.specs.declared.cell.CellRecord.{CellRecord}
use Rattle.std.specs.List.{slice_get}

-- the main row after a turn at this cell: whether the job is its writer, and what the draft store has there
abbrev pub turn : {C : Type 0} → List C → ℕ → Bool → Option C → List C
turn main cell writes None = main
turn main cell writes (Some c) = cond writes (set main cell c) main

first : {C : Type 0} (m d : C) (main : List C) (writes : Bool) → cond writes d m ∷ main ≡ turn (m ∷ main) 0 writes (Some d)
first m d main true = refl
first m d main false = refl

behind : {C : Type 0} (m : C) (main : List C) (cell : ℕ) (writes : Bool) (o : Option C) → m ∷ turn main cell writes o ≡ turn (m ∷ main) (suc cell) writes o
behind m main cell writes None = refl
behind m main cell true (Some c) = refl
behind m main cell false (Some c) = refl

untouched : {C : Type 0} (main : List C) (cell : ℕ) (o : Option C) → main ≡ turn main cell false o
untouched main cell None = refl
untouched main cell (Some c) = refl

nowhere : {C : Type 0} (cell : ℕ) (writes : Bool) (o : Option C) → [] ≡ turn [] cell writes o
nowhere cell writes None = refl
nowhere cell true (Some c) = refl
nowhere cell false (Some c) = refl

by_one : {C : Type 0} (i : ℕ) (cells : List CellRecord) (row : ℕ) (main draft : List C)
    → carried (suc i) cells row main draft ≡ turn (carried i cells row main draft) i (is_writer (record_of cells i).writer row) (slice_get draft i)
by_one zero [] row main draft = untouched main 0 (slice_get draft 0)
by_one (suc i) [] row main draft = untouched main (suc i) (slice_get draft (suc i))
by_one zero (r ∷ cells) row [] draft = nowhere 0 _ (slice_get draft 0)
by_one (suc i) (r ∷ cells) row [] draft = nowhere (suc i) _ (slice_get draft (suc i))
by_one zero (r ∷ cells) row (m ∷ main) [] = refl
by_one (suc i) (r ∷ cells) row (m ∷ main) [] = refl
by_one zero (r ∷ cells) row (m ∷ main) (d ∷ draft) = first m d main _
by_one (suc i) (r ∷ cells) row (m ∷ main) (d ∷ draft) =
    ap (λ l. cond (is_writer r.writer row) d m ∷ l) (by_one i cells row main draft) ∙ behind _ _ i _ _

pub one_more : {C : Type 0} (i : ℕ) (cells : List CellRecord) (row : ℕ) (main draft : List C)
    → carried (i + 1) cells row main draft ≡ turn (carried i cells row main draft) i (is_writer (record_of cells i).writer row) (slice_get draft i)
one_more i cells row main draft = let e : i + 1 ≡ suc i = omega arith in ap (λ n. carried n cells row main draft) e ∙ by_one i cells row main draft
