-- A write keeps the invariant, whatever its answer.
use Rattle.std.proofs.Common.{◌≡◌, ℕ, ◌≤◌, true, false, ltb, List, ◌∷◌, length, Some, None, Ok, Err, Option, Result, refl, ◌∙◌, inl, inr, arith}
use Rattle.schedule.proofs.Admitting.{Admitted, admitted_ok}
use Rattle.schedule.specs.Books.{Book, book, book_write, drafted, write_as}
use Rattle.schedule.specs.Cells.{is_reader, is_writer, record_of}
use Rattle.schedule.specs.declared.answer.Refusal.{Refusal}
use Rattle.schedule.specs.declared.answer.Rejection.{Rejection}
use Rattle.schedule.specs.declared.cell.CellRecord.{CellRecord}
use Rattle.schedule.specs.declared.counters.Closing.TheVariants as closing
use Rattle.schedule.specs.declared.job.Job.{Job}
use Rattle.schedule.specs.declared.job.Seated.{Seated}
use Rattle.schedule.specs.declared.job.Kind.TheVariants as kind
use Rattle.schedule.specs.declared.request.Event.TheVariants as event
use Rattle.schedule.specs.declared.verdict.Blockers.{Blockers}
use Rattle.schedule.specs.Verdicts.{May, Verdict, blocks, gathered, group_or_zero, no_blockers, top_mark, unless_forbidden, write_verdict, writer_job}
use Rattle.schedule.specs.declared.verdict.Obstacle.TheVariants as obstacle
use Rattle.schedule.specs.Jobs.{job_in, party}
use Rattle.schedule.specs.Reachable.{Sized}
use Rattle.schedule.specs.States.{State}
use Rattle.schedule.specs.Steps.{admitted, write_by, write_on}
use Rattle.std.proofs.lemmas.Bool.{cases_eq, cond_both, ltb-false}
use Rattle.std.proofs.lemmas.Bool.Decides.{nat_tests}
use Rattle.theorem.proofs.Blockers.{blocks_not, blocks_parts, lowest_blocks, none_blocks}
use Rattle.theorem.proofs.Invariant.{below, view}
use Rattle.theorem.proofs.Kept.{Kept, stays}
use Rattle.theorem.proofs.StateClosing.{leave_kept}
use Rattle.theorem.proofs.StateGranting.{draft_write_kept, wait_kept}
use Rattle.theorem.proofs.Tables.{bare_some, found_ticket, is_writer_from, writer_is}
use Rattle.theorem.specs.Histories.{Effect, effect, was_rejected}

below_from : (may : May) (j o : Job) → o.group ≤ j.group → (o.group ≡ j.group → may (party j) (party o) ≡ true) → below may j o ≡ true
below_from may j o l m = grind (arith, nat_tests)

module _ {C : Type 0} (may : May) (first : List C) (E : List (Effect C)) (b : Book C) (K : Kept may first E b) (sized : Sized b) (ticket cell : ℕ) (c : C) where
  abbrev s : State
  s = b.state

  abbrev r : CellRecord
  r = record_of s.cells cell

  module _ (i : ℕ) (j : Job) (A : Admitted (length s.cells) s.jobs ticket cell (record { row = i; job = j })) where
    at : job_in s.jobs i ≡ Some j
    at = A.job

    own_ticket : j.ticket ≡ ticket
    own_ticket = found_ticket s.jobs ticket i j A.found at

    -- by this verdict the book stays as the invariant says; shut, so that verdicts are compared as they are written
    Decided : Verdict (Unit {0}) → Type 0
    Decided v =
        Kept may first (effect (event.Write ticket cell c (write_by s i ticket cell v).0) ∷ E)
        (book b.main (drafted b.draft cell c (write_by s i ticket cell v).0) (write_by s i ticket cell v).1)

    rejected : (why : Rejection) → Decided (Err (obstacle.Reject why))
    unfolding Decided
    rejected why = leave_kept may first E s b.main b.draft K.0 K.1 i j at ticket own_ticket closing.Rejected was_rejected

    waited : (u k : ℕ) (o : Job) → job_in s.jobs k ≡ Some o → o.ticket ≡ u → below may j o ≡ true → Decided (Err (obstacle.Wait u))
    unfolding Decided
    waited u k o there e h =
        rw (← e) (wait_kept may first E s b.main b.draft K.0 K.1 i j at ticket own_ticket _ k o there h)

    abbrev G : Blockers
    G = gathered may r i j 0 s.jobs no_blockers

    -- whoever blocks a write that is not too late is of the same group or an earlier one
    not_later : top_mark s.jobs r ≤ j.group → (k : ℕ) (o : Job) → job_in s.jobs k ≡ Some o → blocks r i j k o ≡ true
        → o.group ≤ j.group
    not_later low k o there h =
        elim (blocks_parts r i j k o h) [
          | inl w ↦ let v = writer_is r.writer k w in let g : group_or_zero (writer_job s.jobs r.writer) ≡ o.group = cc in omega arith
          | inr e ↦ omega arith
        ]

    -- nobody blocks: another job is not the writer, and no reader of the same group
    free : G.lowest ≡ None → (k : ℕ) (o : Job) → (view s).job k ≡ Some o → (k ≡ i → ⊥)
        → (is_writer r.writer k ≡ false) × (is_reader r k ≡ true → o.group ≡ j.group → ⊥)
    free none k o h n =
        let f = bare_some (job_in s.jobs k) o h in
        let g : f.0.group ≡ o.group = cc in
        let p = blocks_not r i j k f.0 n (none_blocks may r i j s.jobs none k f.0 f.1) in
        (p.0, λ d e. p.1 d (g ∙ e))

    alone : G.lowest ≡ None → (k : ℕ) → (view s).writer cell ≡ Some k → k ≡ i
    alone none k w = by_job ((view s).job k) refl
      where
        by_job : (o : Option Job) → (view s).job k ≡ o → k ≡ i
        by_job None e = absurd (K.1.sound.writer_open cell k w e)
        by_job (Some o) e =
            elim (cases_eq k i) [
              | inl p ↦ p
              | inr n ↦ let f = (free none k o e n).0 in let g = is_writer_from r.writer k w in cc
            ]

    granted : top_mark s.jobs r ≤ j.group → G.lowest ≡ None → Decided (Ok tt)
    unfolding Decided
    granted low none =
        draft_write_kept may first E s b.main b.draft K.0 K.1 i j at ticket own_ticket cell A.within c
        (let z = sized in let l = A.within in omega arith) (let z = sized in let l = A.within in omega arith)
        (alone none) (omega arith) (omega arith)
        (λ k o h n d. let m = K.1.sound.reader_mark cell k o h d in let e = (free none k o h n).1 d in omega arith)

    past : (forbidden lowest : Option ℕ) → G.forbidden ≡ forbidden → G.lowest ≡ lowest → top_mark s.jobs r ≤ j.group
        → Decided (unless_forbidden forbidden lowest)
    past None None ef el low = granted low el
    past None (Some u) ef el low =
        let p = lowest_blocks may r i j s.jobs u ef el in
        waited u p.0 p.1 p.2 p.4 (below_from may j p.1 (not_later low p.0 p.1 p.2 p.3) p.5)
    past (Some u) lowest ef el low = rejected _

    decide : Decided (write_verdict may s.jobs r i j)
    decide =
        cond_both (ltb j.group (top_mark s.jobs r)) _ _ Decided (λ h. rejected _)
        (λ h. past G.forbidden G.lowest refl refl (ltb-false j.group (top_mark s.jobs r) h))

    granted_or_not : Kept may first (effect (event.Write ticket cell c (write_as b cell c (write_on may s ticket cell (Ok (record { row = i; job = j })))).0) ∷ E)
        (write_as b cell c (write_on may s ticket cell (Ok (record { row = i; job = j })))).1
    unfolding Decided
    granted_or_not = decide

  by_admission : (a : Result Seated Refusal) → admitted (length s.cells) s.jobs ticket cell kind.Write ≡ a
      → Kept may first (effect (event.Write ticket cell c (write_as b cell c (write_on may s ticket cell a)).0) ∷ E)
      (write_as b cell c (write_on may s ticket cell a)).1
  by_admission (Err why) e = stays may first E b K
  by_admission (Ok p) e = granted_or_not p.row p.job (admitted_ok (length s.cells) s.jobs ticket cell kind.Write p e)

  pub write_request_kept : Kept may first (effect (event.Write ticket cell c (book_write may b ticket cell c).0) ∷ E)
      (book_write may b ticket cell c).1
  write_request_kept = by_admission (admitted (length s.cells) s.jobs ticket cell kind.Write) refl
