-- A read keeps the invariant, whatever its answer.
use Rattle.std.proofs.Common.{◌≡◌, ℕ, zero, suc, ◌<◌, true, false, ltb, List, [], ◌∷◌, length, Some, None, Ok, Err, Option, Result, refl, arith}
use Rattle.schedule.proofs.Admitting.{Admitted, admitted_ok}
use Rattle.schedule.specs.Books.{Book, book, book_read, fetched, read_as}
use Rattle.schedule.specs.Cells.{is_writer, record_of}
use Rattle.schedule.specs.declared.answer.Refusal.{Refusal}
use Rattle.schedule.specs.declared.answer.Rejection.{Rejection}
use Rattle.schedule.specs.declared.cell.CellRecord.{CellRecord}
use Rattle.schedule.specs.declared.counters.Closing.TheVariants as closing
use Rattle.schedule.specs.declared.job.Job.{Job}
use Rattle.schedule.specs.declared.job.Seated.{Seated}
use Rattle.schedule.specs.declared.job.Kind.TheVariants as kind
use Rattle.schedule.specs.declared.request.Event.TheVariants as event
use Rattle.schedule.specs.declared.verdict.Source.{Source}
use Rattle.schedule.specs.declared.verdict.Source.TheVariants as source
use Rattle.schedule.specs.Verdicts.{May, Verdict, past_writer, read_verdict, writer_job}
use Rattle.schedule.specs.declared.verdict.Obstacle.TheVariants as obstacle
use Rattle.schedule.specs.Jobs.{job_in, party}
use Rattle.schedule.specs.Reachable.{Sized}
use Rattle.schedule.specs.States.{State}
use Rattle.schedule.specs.Steps.{admitted, read_by, read_on}
use Rattle.std.proofs.lemmas.Bool.{cond_both, ltb-false, ltb-true}
use Rattle.std.specs.List.{slice_get}
use Rattle.theorem.proofs.Cycles.{below_earlier, below_same}
use Rattle.theorem.proofs.Invariant.{below, view}
use Rattle.theorem.proofs.Kept.{Kept, stays}
use Rattle.theorem.proofs.StateClosing.{leave_kept}
use Rattle.theorem.proofs.StateGranting.{main_read_kept, own_read_kept, wait_kept}
use Rattle.theorem.proofs.Tables.{found_ticket, is_writer_from, writer_is}
use Rattle.theorem.specs.Histories.{Effect, effect, was_rejected}

-- the writer's job lies in the writer's row
writer_row : (rows : List (Option Job)) (o : Option ℕ) (w : Job) → writer_job rows o ≡ Some w
    → (x : ℕ) × (o ≡ Some x) × (job_in rows x ≡ Some w)
writer_row rows o w e = grind arith

there : {C : Type 0} (row : List C) (cell : ℕ) → cell < length row → (c : C) × (slice_get row cell ≡ Some c)
there [] cell l = absurd (omega arith)
there (c ∷ row) zero l = (c, refl)
there (c ∷ row) (suc cell) l = there row cell (omega arith)

module _ {C : Type 0} (may : May) (first : List C) (E : List (Effect C)) (b : Book C) (K : Kept may first E b) (sized : Sized b) (ticket cell : ℕ) where
  abbrev s : State
  s = b.state

  abbrev r : CellRecord
  r = record_of s.cells cell

  module _ (i : ℕ) (j : Job) (A : Admitted (length s.cells) s.jobs ticket cell (record { row = i; job = j })) where
    at : job_in s.jobs i ≡ Some j
    at = A.job

    own_ticket : j.ticket ≡ ticket
    own_ticket = found_ticket s.jobs ticket i j A.found at

    -- by this verdict the book stays as the invariant says; shut, so that verdicts are compared as they are written
    Decided : Verdict Source → Type 0
    Decided v =
        Kept may first (effect (event.Read ticket cell (fetched b.main b.draft cell (read_by s i ticket j.group cell v).0)) ∷ E)
        (book b.main b.draft (read_by s i ticket j.group cell v).1)

    rejected : (why : Rejection) → Decided (Err (obstacle.Reject why))
    unfolding Decided
    rejected why = leave_kept may first E s b.main b.draft K.0 K.1 i j at ticket own_ticket closing.Rejected was_rejected

    waited : (k : ℕ) (o : Job) → job_in s.jobs k ≡ Some o → below may j o ≡ true → Decided (Err (obstacle.Wait o.ticket))
    unfolding Decided
    waited k o there h = wait_kept may first E s b.main b.draft K.0 K.1 i j at ticket own_ticket _ k o there h

    from_draft : is_writer r.writer i ≡ true → Decided (Ok source.Draft)
    unfolding Decided
    from_draft w =
        let c = there b.draft cell (let z = sized in let l = A.within in omega arith) in
        rw c.1 (own_read_kept may first E s b.main b.draft K.0 K.1 i j at ticket own_ticket cell c.0 (writer_is r.writer i w) c.1)

    from_main : is_writer r.writer i ≡ false → ltb j.group r.write_mark ≡ false
        → ((x : ℕ) (o : Job) → (view s).writer cell ≡ Some x → (view s).job x ≡ Some o → j.group < o.group)
        → Decided (Ok source.Main)
    unfolding Decided
    from_main not_mine low later =
        let c = there b.main cell (let z = sized in let l = A.within in omega arith) in
        rw c.1 (main_read_kept may first E s b.main b.draft K.0 K.1 i j at ticket own_ticket cell A.within c.0 c.1
        (λ w. let f = is_writer_from r.writer i w in cc) (ltb-false j.group r.write_mark low) later)

    past : (o : Option Job) → writer_job s.jobs r.writer ≡ o → is_writer r.writer i ≡ false
        → ltb j.group r.write_mark ≡ false → Decided (past_writer may j o)
    past None e not_mine low = from_main not_mine low (λ x o w h. cc)
    past (Some w) e not_mine low =
        let x = writer_row s.jobs r.writer w e in
        cond_both (ltb j.group w.group) _ _ Decided
        (λ l. from_main not_mine low (λ k o h at'. let g : w.group ≡ o.group = cc in let m = ltb-true j.group w.group l in omega arith))
        (λ l. cond_both (ltb w.group j.group) _ _ Decided
        (λ m. waited x.0 w x.2 (below_earlier may j w (ltb-true w.group j.group m)))
        (λ m. cond_both (may (party j) (party w)) _ _ Decided
        (λ y. waited x.0 w x.2 (below_same may j w
        (let p = ltb-false j.group w.group l in let q = ltb-false w.group j.group m in omega arith) y))
        (λ y. rejected _)))

    decide : Decided (read_verdict may s.jobs r i j)
    decide =
        cond_both (is_writer r.writer i) _ _ Decided from_draft
        (λ not_mine. cond_both (ltb j.group r.write_mark) _ _ Decided (λ h. rejected _)
        (λ low. past (writer_job s.jobs r.writer) refl not_mine low))

    granted_or_not : Kept may first (effect (event.Read ticket cell (read_as b cell (read_on may s ticket cell (Ok (record { row = i; job = j })))).0) ∷ E)
        (read_as b cell (read_on may s ticket cell (Ok (record { row = i; job = j })))).1
    unfolding Decided
    granted_or_not = decide

  by_admission : (a : Result Seated Refusal) → admitted (length s.cells) s.jobs ticket cell kind.Read ≡ a
      → Kept may first (effect (event.Read ticket cell (read_as b cell (read_on may s ticket cell a)).0) ∷ E)
      (read_as b cell (read_on may s ticket cell a)).1
  by_admission (Err why) e = stays may first E b K
  by_admission (Ok p) e = granted_or_not p.row p.job (admitted_ok (length s.cells) s.jobs ticket cell kind.Read p e)

  pub read_request_kept : Kept may first (effect (event.Read ticket cell (book_read may b ticket cell).0) ∷ E) (book_read may b ticket cell).1
  read_request_kept = by_admission (admitted (length s.cells) s.jobs ticket cell kind.Read) refl
