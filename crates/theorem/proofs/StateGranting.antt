-- The state's own changes by a wait, a granted read and a granted write keep its sizes and the invariant.
use Rattle.std.proofs.Common.{◌≡◌, ℕ, ◌<◌, ◌≤◌, max, true, ◌⊎◌, List, ◌∷◌, length, set, Some, None, Option, sym, refl, ap, ◌∙◌, subst, inl, inr, arith, length-set}
use Rattle.schedule.specs.Cells.{is_reader, no_record, read_noted, record_of, with_reader, with_writer}
use Rattle.schedule.specs.declared.cell.CellRecord.{CellRecord}
use Rattle.schedule.specs.declared.job.Job.{Job}
use Rattle.schedule.specs.declared.job.Wait.{Wait}
use Rattle.schedule.specs.Jobs.{job_in, with_wait}
use Rattle.schedule.specs.States.{State, reading, waiting, writing}
use Rattle.schedule.specs.Verdicts.{May}
use Rattle.std.proofs.lemmas.List.{get_or-set_other, get_or-set_same}
use Rattle.std.proofs.lemmas.Bool.Decides.{nat_tests}
use Rattle.std.proofs.lemmas.Grind.{common_steps}
use Rattle.std.specs.List.{slice_get}
use Rattle.theorem.proofs.Granting.{cell_drafted, cell_seen, read_kept, waits_kept, write_kept}
use Rattle.theorem.proofs.Invariant.{Invariant, View, bare, below, view}
use Rattle.theorem.proofs.Shapes.{Shape, alike}
use Rattle.theorem.proofs.Soundness.{after_read, after_write, by_cell, read_sound, write_sound}
use Rattle.theorem.proofs.Tables.{bare_wait_set, kept_part, within}
use Rattle.theorem.specs.Histories.{Effect, accesses, read_gave, waits, wrote}

-- ---- the record of a cell after a granted read ----

module _ (cells : List CellRecord) (cell i group : ℕ) (inside : cell < length cells) where
  abbrev cells₁ : List CellRecord
  cells₁ = read_noted cells cell i group

  mark_now : (record_of cells₁ cell).read_mark ≡ max (record_of cells cell).read_mark group
  mark_now = grind (arith, nat_tests, common_steps)

  mark_else : (q : ℕ) → (q ≡ cell → ⊥) → (record_of cells₁ q).read_mark ≡ (record_of cells q).read_mark
  mark_else q n = grind (arith, common_steps)

  reader_was : (q x : ℕ) → is_reader (record_of cells₁ q) x ≡ true → (is_reader (record_of cells q) x ≡ true) ⊎ ((q ≡ cell) × (x ≡ i))
  reader_was q x r = grind (arith, common_steps)

  module _ (row : i < length (record_of cells cell).readers) where
    reader_now : is_reader (record_of cells₁ cell) i ≡ true
    reader_now = grind (arith, common_steps)

    reader_up : (q x : ℕ) → is_reader (record_of cells q) x ≡ true → is_reader (record_of cells₁ q) x ≡ true
    reader_up q x r = grind (arith, common_steps)

module _ {C : Type 0} (may : May) (first : List C) (E : List (Effect C)) (s : State) (main draft : List C) (S : Shape s) (I : Invariant may first E (view s) main draft) where
  -- the job j lies in row i, and has the ticket t
  module _ (i : ℕ) (j : Job) (at : job_in s.jobs i ≡ Some j) (t : ℕ) (ticket : j.ticket ≡ t) where
    here : (view s).job i ≡ Some (with_wait None j)
    here = ap bare at

    rows_same : (w : Option Wait) (k : ℕ) → (view s).job k ≡ (view (waiting s i w)).job k
    rows_same w k = sym (bare_wait_set s.jobs i w k)

    rows_long : (w : Option Wait) → length (waiting s i w).jobs ≡ 32
    rows_long w = length-set s.jobs i _ ∙ S.rows

    waiting_shape : (w : Option Wait) → Shape (waiting s i w)
    waiting_shape w = record { rows = rows_long w; readers = S.readers }

    waiting_view : (w : Option Wait) → view s ≡ view (waiting s i w)
    waiting_view w = alike (view s) (view (waiting s i w)) (rows_same w) (λ cell. refl) (λ cell. refl) (λ cell. refl) (λ cell k. refl) refl refl

    -- ---- a wait ----

    pub wait_kept : (w : Option Wait) (k : ℕ) (o : Job) → job_in s.jobs k ≡ Some o → below may j o ≡ true
        → Shape (waiting s i w) × Invariant may first (waits t o.ticket ∷ E) (view (waiting s i w)) main draft
    wait_kept w k o there b = (
      waiting_shape w,
      subst (λ (V : View). Invariant may first (waits t o.ticket ∷ E) V main draft) (waiting_view w)
          (rw ticket at
          (waits_kept may first E (view s) main draft I i (with_wait None j) here k (with_wait None o) (ap bare there) b)),
    )

    -- ---- a read of the draft cell ----

    pub own_read_kept : (cell : ℕ) (c : C) → (record_of s.cells cell).writer ≡ Some i → slice_get draft cell ≡ Some c
        → Shape (waiting s i None) × Invariant may first (accesses t (read_gave cell c) ∷ E) (view (waiting s i None)) main draft
    own_read_kept cell c w e = (
      waiting_shape None,
      subst (λ (V : View). Invariant may first (accesses t (read_gave cell c) ∷ E) V main draft) (waiting_view None)
          (rw ticket at
          (read_kept may first E (view s) main draft I i (with_wait None j) here cell c (view s).read_mark (view s).reader
          (cell_drafted may first E (view s) main draft I cell i (with_wait None j) here w ∙ e) (inl w)
          (λ q. omega arith) (λ q k r. r) I.sound)),
    )

    -- ---- a read of the main cell ----

    module _ (cell : ℕ) (inside : cell < length s.cells) where
      abbrev old : CellRecord
      old = record_of s.cells cell

      module _ (c : C) (value : slice_get main cell ≡ Some c) (not_mine : (view s).writer cell ≡ Some i → ⊥)
          (write_mark_low : (view s).write_mark cell ≤ j.group)
          (later : (k : ℕ) (o : Job) → (view s).writer cell ≡ Some k → (view s).job k ≡ Some o → j.group < o.group) where
        abbrev read : CellRecord
        read = with_reader old i j.group

        abbrev s₁ : State
        s₁ = reading s i cell j.group

        row : i < length old.readers
        row = let m = S.readers cell inside in let n = S.rows in let l = within s.jobs i j at in omega arith

        read_mark_up : (q : ℕ) → (view s).read_mark q ≤ (view s₁).read_mark q
        read_mark_up = by_cell cell (λ q. (view s).read_mark q ≤ (view s₁).read_mark q)
            (let e = mark_now s.cells cell i j.group inside in omega arith)
            (λ q n. let e = mark_else s.cells cell i j.group inside q n in omega arith)

        main_read_shape : Shape s₁
        main_read_shape =
            record {
              rows = rows_long None;
              readers = λ q l. let m = length-set s.cells cell read in
                  sym (kept_part (λ (x : CellRecord). length x.readers) s.cells cell read (length-set old.readers i true) q) ∙ S.readers q (omega arith);
            }

        pub main_read_kept : Shape s₁ × Invariant may first (accesses t (read_gave cell c) ∷ E) (view s₁) main draft
        main_read_kept = (
          main_read_shape,
          subst (λ (V : View). Invariant may first (accesses t (read_gave cell c) ∷ E) V main draft)
              (alike (after_read (view s) (view s₁).read_mark (view s₁).reader) (view s₁) (rows_same None) (λ q. refl)
              (kept_part (λ (x : CellRecord). x.write_mark) s.cells cell read refl)
              (kept_part (λ (x : CellRecord). x.writer) s.cells cell read refl) (λ q k. refl) refl refl)
              (rw ticket at
              (read_kept may first E (view s) main draft I i (with_wait None j) here cell c (view s₁).read_mark (view s₁).reader
              (cell_seen may first E (view s) main draft I cell i (with_wait None j) here not_mine write_mark_low ∙ value)
              (inr (reader_now s.cells cell i j.group inside row)) read_mark_up (reader_up s.cells cell i j.group inside row)
              (read_sound (view s) I.sound i (with_wait None j) here cell (view s₁).read_mark (view s₁).reader (mark_now s.cells cell i j.group inside)
              (mark_else s.cells cell i j.group inside) (reader_was s.cells cell i j.group inside) later))),
        )

      -- ---- a write of the draft cell ----

      module _ (c : C) (in_main : cell < length main) (in_draft : cell < length draft)
          (alone : (k : ℕ) → (view s).writer cell ≡ Some k → k ≡ i) (read_mark_low : (view s).read_mark cell ≤ j.group)
          (write_mark_low : (view s).write_mark cell ≤ j.group)
          (readers_low : (k : ℕ) (o : Job) → (view s).job k ≡ Some o → (k ≡ i → ⊥) → (view s).reader cell k ≡ true → o.group < j.group) where
        abbrev write : CellRecord
        write = with_writer old i

        abbrev s₂ : State
        s₂ = writing s i cell

        writer_now : (view s₂).writer cell ≡ Some i
        writer_now = rw (get_or-set_same s.cells cell write no_record inside)

        writer_else : (q : ℕ) → (q ≡ cell → ⊥) → (view s₂).writer q ≡ (view s).writer q
        writer_else q n = rw (get_or-set_other s.cells cell q write no_record n)

        draft_write_shape : Shape s₂
        draft_write_shape =
            record {
              rows = rows_long None;
              readers = λ q l. let m = length-set s.cells cell write in
                  sym (kept_part (λ (x : CellRecord). length x.readers) s.cells cell write refl q) ∙ S.readers q (omega arith);
            }

        pub draft_write_kept : Shape s₂ × Invariant may first (accesses t (wrote cell c) ∷ E) (view s₂) main (set draft cell c)
        draft_write_kept = (
          draft_write_shape,
          subst (λ (V : View). Invariant may first (accesses t (wrote cell c) ∷ E) V main (set draft cell c))
              (alike (after_write (view s) (view s₂).writer) (view s₂) (rows_same None)
              (kept_part (λ (x : CellRecord). x.read_mark) s.cells cell write refl)
              (kept_part (λ (x : CellRecord). x.write_mark) s.cells cell write refl)
              (λ q. refl) (λ q k. kept_part (λ (x : CellRecord). is_reader x k) s.cells cell write refl q) refl refl)
              (rw ticket at
              (write_kept may first E (view s) main draft I i (with_wait None j) here cell c (view s₂).writer writer_now writer_else
              (let m = I.main_length in omega arith) in_draft alone
              (write_sound (view s) I.sound i (with_wait None j) here cell (view s₂).writer writer_now writer_else read_mark_low write_mark_low readers_low))),
        )
