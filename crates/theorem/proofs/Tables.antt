-- What a look at the rows of jobs and at the records of the cells finds, also after each change.
use Rattle.std.proofs.Common.{◌≡◌, ℕ, zero, suc, ◌<◌, Bool, true, false, cond, List, [], ◌∷◌, length, get_or, set, Some, None, Option, ap, ◌∙◌, refl, arith, length-set}
use Rattle.schedule.specs.Books.{carried}
use Rattle.schedule.specs.Cells.{is_reader, is_writer, other_writer, record_of, released}
use Rattle.schedule.specs.declared.cell.CellRecord.{CellRecord}
use Rattle.schedule.specs.declared.job.Job.{Job}
use Rattle.schedule.specs.declared.job.Wait.{Wait}
use Rattle.schedule.specs.Jobs.{closed_rows, find, holds, job_in, vacant, wait_lifted, wait_set, with_wait}
use Rattle.std.proofs.lemmas.List.{get_or-set_other, length-map}
use Rattle.std.proofs.lemmas.Bool.Decides.{nat_tests}
use Rattle.std.proofs.lemmas.Grind.{common_steps}
use Rattle.std.proofs.Math.ListN.{get_or-map}
use Rattle.std.specs.List.{slice_get}
use Rattle.std.specs.Option.{option_map}
use Rattle.theorem.proofs.Invariant.{bare}

-- ---- what is found ----

found : {X : Type 0} (p : X → Bool) (d : X) (xs : List X) (i : ℕ) → find p xs ≡ Some i → (i < length xs) × (p (get_or xs i d) ≡ true)
found p d [] i e = cc
found p d (x ∷ xs) i e = go (find p xs) (found p d xs) e
  where
    go : (o : Option ℕ) → ((k : ℕ) → o ≡ Some k → (k < length xs) × (p (get_or xs k d) ≡ true))
        → cond (p x) (Some 0) (option_map (λ n. suc n) o) ≡ Some i → (i < length (x ∷ xs)) × (p (get_or (x ∷ xs) i d) ≡ true)
    go None later e = grind arith
    go (Some k) later e = let h = later k refl in grind arith

-- the row found for a ticket holds a job with this ticket
pub found_job : (rows : List (Option Job)) (ticket row : ℕ) → find (holds ticket) rows ≡ Some row
    → (j : Job) × (job_in rows row ≡ Some j) × (j.ticket ≡ ticket)
found_job rows ticket row e = let f = found (holds ticket) None rows row e in grind (arith, nat_tests)

pub found_ticket : (rows : List (Option Job)) (ticket row : ℕ) (j : Job) → find (holds ticket) rows ≡ Some row → job_in rows row ≡ Some j
    → j.ticket ≡ ticket
found_ticket rows ticket row j e h = let f = found_job rows ticket row e in grind arith

-- the free row found is a row, and is free
pub found_vacant : (rows : List (Option Job)) (row : ℕ) → find vacant rows ≡ Some row → (row < length rows) × (job_in rows row ≡ None)
found_vacant rows row e = let f = found vacant None rows row e in grind arith

-- a row that holds a job is a row
pub within : {X : Type 0} (xs : List (Option X)) (i : ℕ) (x : X) → get_or xs i None ≡ Some x → i < length xs
within xs i x e = grind (arith, common_steps)

-- ---- the rows of jobs ----

-- a wait put on or taken off changes nothing of what the proof sees
pub bare_wait_set : (rows : List (Option Job)) (row : ℕ) (w : Option Wait) (k : ℕ)
    → bare (job_in (wait_set rows row w) k) ≡ bare (job_in rows k)
bare_wait_set rows row w k = grind (arith, common_steps)

module _ (rows : List (Option Job)) (row ticket : ℕ) where
  pub freed : job_in (closed_rows rows row ticket) row ≡ None
  freed = grind (arith, common_steps)

  pub closed_else : (k : ℕ) → (k ≡ row → ⊥) → bare (job_in (closed_rows rows row ticket) k) ≡ bare (job_in rows k)
  closed_else k n = grind (arith, get_or-set_other, get_or-map (option_map (wait_lifted ticket)) rows k None)

  pub closed_length : length (closed_rows rows row ticket) ≡ length rows
  closed_length = simp (length-set, length-map)

-- a job seen without its wait
pub bare_some : (o : Option Job) (j : Job) → bare o ≡ Some j → (x : Job) × (o ≡ Some x) × (with_wait None x ≡ j)
bare_some o j e = grind arith

-- ---- writers and readers ----

pub writer_is : (o : Option ℕ) (i : ℕ) → is_writer o i ≡ true → o ≡ Some i
writer_is o i e = grind (arith, nat_tests)

pub is_writer_from : (o : Option ℕ) (i : ℕ) → o ≡ Some i → is_writer o i ≡ true
is_writer_from o i e = grind (arith, nat_tests)

pub is_writer_not : (o : Option ℕ) (i : ℕ) → (o ≡ Some i → ⊥) → is_writer o i ≡ false
is_writer_not o i n = grind (arith, nat_tests)

pub other_writer_was : (i : ℕ) (o : Option ℕ) (x : ℕ) → other_writer i o ≡ Some x → (o ≡ Some x) × (x ≡ i → ⊥)
other_writer_was i o x e = grind (arith, nat_tests)

pub other_writer_is : (i : ℕ) (o : Option ℕ) (x : ℕ) → o ≡ Some x → (x ≡ i → ⊥) → other_writer i o ≡ Some x
other_writer_is i o x e n = grind (arith, nat_tests)

pub released_reader_was : (i : ℕ) (r : CellRecord) (x : ℕ) → is_reader (released i r) x ≡ true → (is_reader r x ≡ true) × (x ≡ i → ⊥)
released_reader_was i r x e = grind (arith, common_steps)

pub released_reader_is : (i : ℕ) (r : CellRecord) (x : ℕ) → is_reader r x ≡ true → (x ≡ i → ⊥) → is_reader (released i r) x ≡ true
released_reader_is i r x e n = get_or-set_other r.readers i x false false n ∙ e

-- a change of one record that keeps a part of it keeps that part everywhere
pub kept_part : {X : Type 0} (f : CellRecord → X) (cells : List CellRecord) (cell : ℕ) (r : CellRecord) → f r ≡ f (record_of cells cell)
    → (q : ℕ) → f (record_of cells q) ≡ f (record_of (set cells cell r) q)
kept_part f cells cell r e q = grind (arith, common_steps)

-- ---- the main row after an end ----

module _ {C : Type 0} (row : ℕ) where
  pub carried_mine : (cells : List CellRecord) (main draft : List C) (cell : ℕ) → is_writer (record_of cells cell).writer row ≡ true
      → cell < length main → cell < length draft → slice_get (carried (length cells) cells row main draft) cell ≡ slice_get draft cell
  carried_mine [] main draft cell w l m = cc
  carried_mine (r ∷ cells) [] draft cell w l m = absurd (omega arith)
  carried_mine (r ∷ cells) (x ∷ main) [] cell w l m = absurd (omega arith)
  carried_mine (r ∷ cells) (x ∷ main) (d ∷ draft) zero w l m = grind arith
  carried_mine (r ∷ cells) (x ∷ main) (d ∷ draft) (suc cell) w l m = carried_mine cells main draft cell w (omega arith) (omega arith)

  pub carried_else : (cells : List CellRecord) (main draft : List C) (cell : ℕ) → is_writer (record_of cells cell).writer row ≡ false
      → slice_get (carried (length cells) cells row main draft) cell ≡ slice_get main cell
  carried_else [] main draft cell w = refl
  carried_else (r ∷ cells) [] draft cell w = refl
  carried_else (r ∷ cells) (x ∷ main) [] cell w = refl
  carried_else (r ∷ cells) (x ∷ main) (d ∷ draft) zero w = grind arith
  carried_else (r ∷ cells) (x ∷ main) (d ∷ draft) (suc cell) w = carried_else cells main draft cell w

  pub carried_long : (cells : List CellRecord) (main draft : List C) → length (carried (length cells) cells row main draft) ≡ length main
  carried_long [] main draft = refl
  carried_long (r ∷ cells) [] draft = refl
  carried_long (r ∷ cells) (x ∷ main) [] = refl
  carried_long (r ∷ cells) (x ∷ main) (d ∷ draft) = ap suc (carried_long cells main draft)
