-- Accesses carried out on a row of cells: what row they finish with, and whether each read gives the cell that it gave.
use Rattle.std.proofs.Common.{◌≡◌, ℕ, suc, ◌<◌, Bool, true, false, ◌||◌, eqb, ◌⊎◌, List, [], ◌∷◌, ◌++◌, length, set, Some, None, sym, refl, ◌∙◌, inr, arith, length-set}
use Rattle.std.proofs.lemmas.Bool.{eq-eqb, or_right}
use Rattle.std.proofs.lemmas.Grind.{common_steps}
use Rattle.std.proofs.lemmas.Option.{gets}
use Rattle.std.specs.List.{slice_get}
use Rattle.theorem.specs.Histories.{Access, read_gave, wrote}
use Rattle.theorem.specs.Theorem.{Executes}

module _ {C : Type 0} where
  -- the row with which the accesses finish
  abbrev pub row_after : List C → List (Access C) → List C
  row_after row [] = row
  row_after row (read_gave cell c ∷ xs) = row_after row xs
  row_after row (wrote cell c ∷ xs) = row_after (set row cell c) xs

  -- carried out on the row, each read gives the cell that it gave
  abbrev pub ReadsRight : List C → List (Access C) → Type 0
  ReadsRight row [] = Unit {0}
  ReadsRight row (read_gave cell c ∷ xs) = (slice_get row cell ≡ Some c) × ReadsRight row xs
  ReadsRight row (wrote cell c ∷ xs) = ReadsRight (set row cell c) xs

  abbrev pub cell_of : Access C → ℕ
  cell_of (read_gave cell c) = cell
  cell_of (wrote cell c) = cell

  -- one of the accesses is of this cell
  abbrev pub touches : List (Access C) → ℕ → Bool
  touches [] q = false
  touches (a ∷ xs) q = eqb (cell_of a) q || touches xs q

  pub executes : (xs : List (Access C)) (row row' : List C) → ReadsRight row xs → row_after row xs ≡ row' → Executes row xs row'
  executes [] row row' r e = e
  executes (read_gave cell c ∷ xs) row row' r e = (r.0, executes xs row row' r.1 e)
  executes (wrote cell c ∷ xs) row row' r e = executes xs (set row cell c) row' r e

  pub row_after_append : (xs ys : List (Access C)) (row : List C) → row_after row (xs ++ ys) ≡ row_after (row_after row xs) ys
  row_after_append [] ys row = refl
  row_after_append (read_gave cell c ∷ xs) ys row = row_after_append xs ys row
  row_after_append (wrote cell c ∷ xs) ys row = row_after_append xs ys (set row cell c)

  pub length_row_after : (xs : List (Access C)) (row : List C) → length (row_after row xs) ≡ length row
  length_row_after [] row = refl
  length_row_after (read_gave cell c ∷ xs) row = length_row_after xs row
  length_row_after (wrote cell c ∷ xs) row = length_row_after xs (set row cell c) ∙ length-set row cell c

  pub right_append : (xs ys : List (Access C)) (row : List C) → ReadsRight row xs → ReadsRight (row_after row xs) ys
      → ReadsRight row (xs ++ ys)
  right_append [] ys row r s = s
  right_append (read_gave cell c ∷ xs) ys row r s = (r.0, right_append xs ys row r.1 s)
  right_append (wrote cell c ∷ xs) ys row r s = right_append xs ys (set row cell c) r s

  -- of accesses whose reads are right, those at the front have right reads
  pub right_front : (xs ys : List (Access C)) (row : List C) → ReadsRight row (xs ++ ys) → ReadsRight row xs
  right_front [] ys row r = tt
  right_front (read_gave cell c ∷ xs) ys row r = (r.0, right_front xs ys row r.1)
  right_front (wrote cell c ∷ xs) ys row r = right_front xs ys (set row cell c) r

  pub right_back : (xs ys : List (Access C)) (row : List C) → ReadsRight row (xs ++ ys) → ReadsRight (row_after row xs) ys
  right_back [] ys row r = r
  right_back (read_gave cell c ∷ xs) ys row r = right_back xs ys row r.1
  right_back (wrote cell c ∷ xs) ys row r = right_back xs ys (set row cell c) r

  -- ---- cell by cell ----

  pub nth_set_same : (row : List C) (cell : ℕ) (c : C) → cell < length row → slice_get (set row cell c) cell ≡ Some c
  nth_set_same row cell c h = grind (arith, gets, common_steps)

  pub nth_set_other : (row : List C) (cell : ℕ) (c : C) (q : ℕ) → (q ≡ cell → ⊥) → slice_get (set row cell c) q ≡ slice_get row q
  nth_set_other row cell c q h = grind (arith, gets, common_steps)

  -- two rows alike at q stay so
  set_alike : (row row' : List C) (cell : ℕ) (c : C) (q : ℕ) → slice_get row q ≡ slice_get row' q → slice_get (set row cell c) q ≡ slice_get (set row' cell c) q
  set_alike row row' cell c q e = grind (arith, gets, common_steps)

  pub row_after_alike : (xs : List (Access C)) (row row' : List C) (q : ℕ) → slice_get row q ≡ slice_get row' q
      → slice_get (row_after row xs) q ≡ slice_get (row_after row' xs) q
  row_after_alike [] row row' q e = e
  row_after_alike (read_gave cell c ∷ xs) row row' q e = row_after_alike xs row row' q e
  row_after_alike (wrote cell c ∷ xs) row row' q e = row_after_alike xs (set row cell c) (set row' cell c) q (set_alike row row' cell c q e)

  -- a cell that none of the accesses is of stays as it was
  pub row_after_untouched : (xs : List (Access C)) (row : List C) (q : ℕ) → touches xs q ≡ false → slice_get (row_after row xs) q ≡ slice_get row q
  row_after_untouched [] row q e = refl
  row_after_untouched (read_gave cell c ∷ xs) row q e = grind (arith, row_after_untouched xs row q)
  row_after_untouched (wrote cell c ∷ xs) row q e = grind (arith, nth_set_other, row_after_untouched xs (set row cell c) q)

  -- reads are as right on another row that is alike wherever the accesses touch
  pub right_alike : (xs : List (Access C)) (row row' : List C) → ((q : ℕ) → touches xs q ≡ true → slice_get row q ≡ slice_get row' q)
      → ReadsRight row xs → ReadsRight row' xs
  right_alike [] row row' h r = tt
  right_alike (read_gave cell c ∷ xs) row row' h r = (
    sym (h cell (rw (eq-eqb cell cell refl))) ∙ r.0,
    right_alike xs row row' (λ q e. h q (or_right (eqb cell q) (touches xs q) e)) r.1,
  )
  right_alike (wrote cell c ∷ xs) row row' h r =
      right_alike xs (set row cell c) (set row' cell c) (λ q e. set_alike row row' cell c q (h q (or_right (eqb cell q) (touches xs q) e))) r

  pub nth_ext : (xs ys : List C) → ((q : ℕ) → slice_get xs q ≡ slice_get ys q) → xs ≡ ys
  nth_ext [] [] h = refl
  nth_ext [] (y ∷ ys) h = let e : None ≡ Some y = h 0 in cc
  nth_ext (x ∷ xs) [] h = let e : Some x ≡ None = h 0 in cc
  nth_ext (x ∷ xs) (y ∷ ys) h = let e : Some x ≡ Some y = h 0 in let t : xs ≡ ys = nth_ext xs ys (λ q. h (suc q)) in cc

  pub touches_append : (xs ys : List (Access C)) (q : ℕ) → touches (xs ++ ys) q ≡ true → (touches xs q ≡ true) ⊎ (touches ys q ≡ true)
  touches_append [] ys q e = inr e
  touches_append (a ∷ xs) ys q e = let h = touches_append xs ys q in grind arith
