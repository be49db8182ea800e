-- The state's own changes where a job leaves or ends keep its sizes and the invariant.
use Rattle.std.proofs.Common.{◌≡◌, ℕ, false, List, ◌∷◌, length, set, Some, None, refl, ap, ◌∙◌, subst, arith, length-set}
use Rattle.schedule.specs.Books.{carried}
use Rattle.schedule.specs.Cells.{all_stamped, no_record, other_writer, record_of, released, stamped}
use Rattle.schedule.specs.Counting.{left}
use Rattle.schedule.specs.declared.cell.CellRecord.{CellRecord}
use Rattle.schedule.specs.declared.counters.Closing.{Closing}
use Rattle.schedule.specs.declared.counters.Counters.{Counters}
use Rattle.schedule.specs.declared.job.Job.{Job}
use Rattle.schedule.specs.Jobs.{closed_rows, job_in, with_wait}
use Rattle.schedule.specs.States.{State, closed, finished}
use Rattle.schedule.specs.Verdicts.{May}
use Rattle.std.proofs.lemmas.List.{length-map}
use Rattle.std.proofs.Math.ListN.{get_or-map}
use Rattle.theorem.proofs.Closing.{ends_kept, leaves_kept}
use Rattle.theorem.proofs.Invariant.{Invariant, View, bare, view}
use Rattle.theorem.proofs.Shapes.{Shape, alike}
use Rattle.theorem.proofs.Soundness.{Gone, after_close}
use Rattle.theorem.proofs.Tables.{carried_else, carried_long, carried_mine, closed_else, closed_length, freed, is_writer_from, is_writer_not, other_writer_is, other_writer_was, released_reader_is, released_reader_was}
use Rattle.theorem.specs.Histories.{Effect, Leaving, ends, leaves}

-- a closing opens no group and counts no begin
left_same : (n : Counters) (how : Closing) → (n.group ≡ (left n how).group) × (n.begun ≡ (left n how).begun)
left_same n how = grind arith

-- the records of the cells once the job in row i has closed: as many, and none has it as its writer or a reader
record Closed (s : State) (i : ℕ) (cells : List CellRecord) : Type 0 where
  long : length cells ≡ length s.cells
  writers : (q : ℕ) → (record_of cells q).writer ≡ other_writer i (record_of s.cells q).writer
  readers : (q : ℕ) → (record_of cells q).readers ≡ set (record_of s.cells q).readers i false

module _ (s : State) (S : Shape s) (i t : ℕ) (s₁ : State) (rows : s₁.jobs ≡ closed_rows s.jobs i t) (P : Closed s i s₁.cells) where
  closed_shape : Shape s₁
  closed_shape =
      record {
        rows = ap length rows ∙ closed_length s.jobs i t ∙ S.rows;
        readers = λ q l. let m = P.long in rw (P.readers q, length-set) (S.readers q (omega arith));
      }

  closed_gone : Gone (view s) i (view s₁).job (view s₁).writer (view s₁).reader
  closed_gone =
      record {
        job_gone = rw (rows, freed s.jobs i t);
        job_else = λ k n. rw rows (closed_else s.jobs i t k n);
        writer_was = λ q k w. other_writer_was i (record_of s.cells q).writer k (rw (P.writers q) at w);
        writer_is = λ q k w n. rw (P.writers q) (other_writer_is i (record_of s.cells q).writer k w n);
        reader_was = λ q k r. released_reader_was i (record_of s.cells q) k (rw (P.readers q) at r);
        reader_is = λ q k r n. rw (P.readers q) (released_reader_is i (record_of s.cells q) k r n);
      }

module _ {C : Type 0} (may : May) (first : List C) (E : List (Effect C)) (s : State) (main draft : List C) (S : Shape s) (I : Invariant may first E (view s) main draft)
    (i : ℕ) (j : Job) (at : job_in s.jobs i ≡ Some j) (t : ℕ) (ticket : j.ticket ≡ t) where
  here : (view s).job i ≡ Some (with_wait None j)
  here = ap bare at

  -- ---- it leaves ----

  module _ (how : Closing) (told : Leaving) where
    abbrev l₁ : State
    l₁ = closed s i t how

    left_at : (q : ℕ) → record_of l₁.cells q ≡ released i (record_of s.cells q)
    left_at q = get_or-map (released i) s.cells q no_record

    left_closed : Closed s i l₁.cells
    left_closed = record { long = length-map s.cells (released i); writers = λ q. rw (left_at q); readers = λ q. rw (left_at q) }

    gone : Gone (view s) i (view l₁).job (view l₁).writer (view l₁).reader
    gone = closed_gone s S i t l₁ refl left_closed

    pub leave_kept : Shape l₁ × Invariant may first (leaves t told ∷ E) (view l₁) main draft
    leave_kept = (
      closed_shape s S i t l₁ refl left_closed,
      subst (λ (V : View). Invariant may first (leaves t told ∷ E) V main draft)
          (alike (after_close (view s) (view l₁).job (view l₁).writer (view l₁).reader (view s).write_mark) (view l₁)
          (λ k. refl) (λ q. rw (left_at q)) (λ q. rw (left_at q)) (λ q. refl) (λ q k. refl)
          (left_same s.counters how).0 (left_same s.counters how).1)
          (rw ticket at (leaves_kept may first E (view s) main draft I i (with_wait None j) here (view l₁).job (view l₁).writer (view l₁).reader gone told)),
    )

  -- ---- it ends ----

  abbrev e₁ : State
  e₁ = finished s i t j.group

  end_at : (q : ℕ) → record_of e₁.cells q ≡ released i (stamped i j.group (record_of s.cells q))
  end_at q = get_or-map (released i) (all_stamped s.cells i j.group) q no_record ∙ ap (released i) (get_or-map (stamped i j.group) s.cells q no_record)

  end_closed : Closed s i e₁.cells
  end_closed = record { long = simp length-map; writers = λ q. rw (end_at q); readers = λ q. rw (end_at q) }

  write_mark_mine : (q : ℕ) → (view s).writer q ≡ Some i → (view e₁).write_mark q ≡ j.group
  write_mark_mine q w = rw (end_at q, is_writer_from ((view s).writer q) i w)

  write_mark_else : (q : ℕ) → ((view s).writer q ≡ Some i → ⊥) → (view e₁).write_mark q ≡ (view s).write_mark q
  write_mark_else q n = rw (end_at q, is_writer_not ((view s).writer q) i n)

  abbrev main₁ : List C
  main₁ = carried (length s.cells) s.cells i main draft

  abbrev V₂ : View
  V₂ = after_close (view s) (view e₁).job (view e₁).writer (view e₁).reader (view e₁).write_mark

  end_gone : Gone (view s) i (view e₁).job (view e₁).writer (view e₁).reader
  end_gone = closed_gone s S i t e₁ refl end_closed

  end_invariant : Invariant may first (ends j.ticket ∷ E) V₂ main₁ draft
  end_invariant =
      ends_kept may first E (view s) main draft I i (with_wait None j) here (view e₁).job (view e₁).writer (view e₁).reader end_gone
      (view e₁).write_mark main₁ write_mark_mine write_mark_else
      (λ q w. carried_mine i s.cells main draft q (is_writer_from ((view s).writer q) i w)
      (let l = I.writer_inside q i w in let m = I.main_length in omega arith) (I.writer_in_draft q i w))
      (λ q n. carried_else i s.cells main draft q (is_writer_not ((view s).writer q) i n))
      (carried_long i s.cells main draft)

  pub end_kept : Shape e₁ × Invariant may first (ends t ∷ E) (view e₁) main₁ draft
  end_kept = (
    closed_shape s S i t e₁ refl end_closed,
    subst (λ (V : View). Invariant may first (ends t ∷ E) V main₁ draft)
        (alike V₂ (view e₁) (λ k. refl) (λ q. rw (end_at q)) (λ q. refl) (λ q. refl) (λ q k. refl) refl refl) (rw ticket at end_invariant),
  )
