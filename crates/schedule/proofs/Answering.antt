-- What an answer says of the book after it: a refusal changes nothing, a rejection closes one job, 5 comes exactly outside.
use Rattle.std.proofs.Common.{◌≡◌, ℕ, length, is_some, Some, Ok, Err, Option, Result, sym, refl, ap, subst, arith, get_or-set_other}
use Rattle.schedule.proofs.Admitting.{admitted_outside, admitted_outside_only}
use Rattle.schedule.proofs.Rows.{job_in_mapped}
use Rattle.schedule.proofs.Sizes.{reachable_sized}
use Rattle.schedule.specs.Answers.{Reply}
use Rattle.schedule.specs.Books.{Book, book, book_begin, book_end, book_give_up, book_group_size, book_read, book_write}
use Rattle.schedule.specs.declared.answer.NotGranted.TheVariants as not_granted
use Rattle.schedule.specs.declared.answer.Refusal.{Refusal}
use Rattle.schedule.specs.declared.answer.Refusal.TheVariants as refusal
use Rattle.schedule.specs.declared.answer.Rejection.{Rejection}
use Rattle.schedule.specs.declared.counters.Closing.TheVariants as closing
use Rattle.schedule.specs.declared.job.Job.{Job}
use Rattle.schedule.specs.declared.job.Kind.{Kind}
use Rattle.schedule.specs.declared.job.Kind.TheVariants as kind
use Rattle.schedule.specs.Jobs.{wait_lifted}
use Rattle.schedule.specs.Promises.{ClosedAlone, ErrorKeeps, OutsideExactly, RefusalKeeps, RejectionCloses, row_of}
use Rattle.schedule.specs.Reachable.{Reachable, Sized}
use Rattle.schedule.specs.States.{closed}
use Rattle.schedule.specs.Steps.{Begun, Ended, admitted}
use Rattle.schedule.specs.Verdicts.{May}
use Rattle.std.proofs.lemmas.Bool.Decides.{nat_tests}
use Rattle.std.proofs.lemmas.Grind.{common_steps}
use Rattle.std.proofs.lemmas.Option.{slice_get_cases}
use Rattle.std.proofs.lemmas.Simd.{map-map}

-- ---- from what is known of each form of an answer ----

-- the job with this ticket is rejected
abbrev Rejecting : {C : Type 0} → ℕ → Book C → Book C → Type 0
Rejecting ticket b after = (row : ℕ) × (row_of b ticket ≡ Some row) × (after ≡ book b.main b.draft (closed b.state row ticket closing.Rejected))

module _ {C : Type 0} (b after : Book C) where
  error_keeps : {X : Type 0} (r : Result X Refusal) → ((why : Refusal) → r ≡ Err why → after ≡ b) → ErrorKeeps r b after
  error_keeps (Ok x) kept = tt
  error_keeps (Err why) kept = kept why refl

  refusal_keeps : {X : Type 0} (r : Reply X) → ((why : Refusal) → r ≡ Err (not_granted.Refused why) → after ≡ b) → RefusalKeeps r b after
  refusal_keeps (Ok x) kept = tt
  refusal_keeps (Err (not_granted.Wait blocker)) kept = tt
  refusal_keeps (Err (not_granted.Rejected why)) kept = tt
  refusal_keeps (Err (not_granted.Refused why)) kept = kept why refl

  closed_alone : (ticket : ℕ) → Rejecting ticket b after → ClosedAlone ticket b after
  closed_alone ticket (row, found, e) =
      subst (ClosedAlone ticket b) (sym e) (record {
        was_open = ap is_some found;
        row_freed = λ k same. grind (arith, common_steps);
        others_open = λ k other. grind (arith, job_in_mapped (wait_lifted ticket) b.state.jobs, get_or-set_other {A = Option Job});
        same_marks = rw map-map;
        same_main = refl;
        same_draft = refl;
      })

  rejection_closes : {X : Type 0} (ticket : ℕ) (r : Reply X) → ((why : Rejection) → r ≡ Err (not_granted.Rejected why) → Rejecting ticket b after)
      → RejectionCloses ticket r b after
  rejection_closes ticket (Ok x) closes = tt
  rejection_closes ticket (Err (not_granted.Wait blocker)) closes = tt
  rejection_closes ticket (Err (not_granted.Rejected why)) closes = closed_alone ticket (closes why refl)
  rejection_closes ticket (Err (not_granted.Refused why)) closes = tt

-- ---- read and write ----

module _ {C : Type 0} (may : May) (b : Book C) (ticket cell : ℕ) where
  outside_exactly : {X : Type 0} (k : Kind) (r : Reply X)
      → (admitted (length b.state.cells) b.state.jobs ticket cell k ≡ Err refusal.NoSuchCell → r ≡ Err (not_granted.Refused refusal.NoSuchCell))
      → (Sized b → r ≡ Err (not_granted.Refused refusal.NoSuchCell) → admitted (length b.state.cells) b.state.jobs ticket cell k ≡ Err refusal.NoSuchCell)
      → OutsideExactly may b ticket cell r
  outside_exactly k r gets_it only =
      record {
        outside = λ h s le.
            let sized = reachable_sized may b h in gets_it (admitted_outside (length b.state.cells) b.state.jobs ticket cell k s (omega arith));
        only = λ h no.
            let sized = reachable_sized may b h in
            let outside = admitted_outside_only (length b.state.cells) b.state.jobs ticket cell k (only sized no) in
            (outside.0, omega arith);
      }

  module _ (after : Book C) where
    pub read_refusal_keeps : (r : Reply C) → book_read may b ticket cell ≡ (r, after) → Reachable may b → RefusalKeeps r b after
    read_refusal_keeps r e h =
        let sized = reachable_sized may b h in
        refusal_keeps b after r (λ why q. grind (arith, nat_tests, slice_get_cases b.main cell, slice_get_cases b.draft cell))

    pub read_rejection_closes : (r : Reply C) → book_read may b ticket cell ≡ (r, after) → RejectionCloses ticket r b after
    read_rejection_closes r e = rejection_closes b after ticket r (λ why q. grind arith)

    pub read_outside_exactly : (r : Reply C) → book_read may b ticket cell ≡ (r, after) → OutsideExactly may b ticket cell r
    read_outside_exactly r e =
        outside_exactly kind.Read r (λ q. grind arith) (λ sized q. grind (arith, nat_tests, slice_get_cases b.main cell, slice_get_cases b.draft cell))

    pub write_refusal_keeps : (c : C) (r : Reply (Unit {0})) → book_write may b ticket cell c ≡ (r, after) → RefusalKeeps r b after
    write_refusal_keeps c r e = refusal_keeps b after r (λ why q. grind arith)

    pub write_rejection_closes : (c : C) (r : Reply (Unit {0})) → book_write may b ticket cell c ≡ (r, after) → RejectionCloses ticket r b after
    write_rejection_closes c r e = rejection_closes b after ticket r (λ why q. grind arith)

    pub write_outside_exactly : (c : C) (r : Reply (Unit {0})) → book_write may b ticket cell c ≡ (r, after) → OutsideExactly may b ticket cell r
    write_outside_exactly c r e = outside_exactly kind.Write r (λ q. grind arith) (λ sized q. grind arith)

-- ---- begin, end, give up, group size ----

module _ {C : Type 0} (b after : Book C) where
  pub begin_refusal_keeps : (class : ℕ) (r : Begun) → book_begin b class ≡ (r, after) → ErrorKeeps r b after
  begin_refusal_keeps class r e = error_keeps b after r (λ why q. grind arith)

  pub end_refusal_keeps : (ticket : ℕ) (r : Ended) → book_end b ticket ≡ (r, after) → ErrorKeeps r b after
  end_refusal_keeps ticket r e = error_keeps b after r (λ why q. grind arith)

  pub give_up_refusal_keeps : (ticket : ℕ) (r : Result (Unit {0}) Refusal) → book_give_up b ticket ≡ (r, after) → ErrorKeeps r b after
  give_up_refusal_keeps ticket r e = error_keeps b after r (λ why q. grind arith)

  pub group_size_refusal_keeps : (size : ℕ) (r : Result ℕ Refusal) → book_group_size b size ≡ (r, after) → ErrorKeeps r b after
  group_size_refusal_keeps size r e = error_keeps b after r (λ why q. grind arith)
