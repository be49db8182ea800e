-- Begin, end, give up and group size keep the invariant, whatever the answer.
use Rattle.std.proofs.Common.{◌≡◌, ℕ, leb, List, ◌∷◌, Some, None, Ok, Err, Option, Result, refl, arith}
use Rattle.schedule.proofs.Admitting.{seated_ok}
use Rattle.schedule.specs.Books.{Book, book, book_begin, book_end, book_give_up, book_group_size, kept}
use Rattle.schedule.specs.declared.answer.Refusal.{Refusal}
use Rattle.schedule.specs.declared.counters.Closing.TheVariants as closing
use Rattle.schedule.specs.declared.job.Job.{Job}
use Rattle.schedule.specs.declared.job.Seated.{Seated}
use Rattle.schedule.specs.declared.request.Event.TheVariants as event
use Rattle.schedule.specs.Jobs.{SeatedIn, find, holds, vacant}
use Rattle.schedule.specs.States.{State, resizing}
use Rattle.schedule.specs.Steps.{Begun, begin_in, begin_with, end_on, ending, ending_as, give_up_in, group_size_step, seated}
use Rattle.schedule.specs.Verdicts.{May}
use Rattle.std.proofs.lemmas.Bool.{cond_both}
use Rattle.theorem.proofs.Kept.{Kept, stays}
use Rattle.theorem.proofs.StateClosing.{end_kept, leave_kept}
use Rattle.theorem.proofs.StateOpening.{begin_kept}
use Rattle.theorem.proofs.Tables.{found_job, found_ticket, found_vacant}
use Rattle.theorem.specs.Histories.{Effect, effect, gave_up, nothing}
use Rattle.waiting.specs.declared.class.Class.{Class}
use Rattle.waiting.specs.Numbers.{class_of}

-- ---- the job that ends ----

-- it lies in the row found for the ticket
pub ending_ok : (rows : List (Option Job)) (ticket : ℕ) (p : Seated) → ending rows ticket ≡ Ok p → SeatedIn rows ticket p
ending_ok rows ticket p e = by_seat (seated rows ticket) refl e
  where
    by_seat : (r : Result Seated Refusal) → seated rows ticket ≡ r → ending_as r ≡ Ok p → SeatedIn rows ticket p
    by_seat (Err why) s g = cc
    by_seat (Ok q) s g = let e : q ≡ p = grind arith in rw (← e) (seated_ok rows ticket q s)

module _ {C : Type 0} (may : May) (first : List C) (E : List (Effect C)) (b : Book C) (K : Kept may first E b) where
  abbrev s : State
  s = b.state

  -- ---- begin ----

  module _ (number : ℕ) where
    -- by this answer and state the book stays as the invariant says; shut, so that they are compared as they are written
    Begins : Begun × State → Type 0
    Begins p = Kept may first (effect (event.Begin number p.0) ∷ E) (book b.main b.draft p.1)

    refused : (why : Refusal) → Begins (Err why, s)
    unfolding Begins
    refused why = stays may first E b K

    by_row : (class : Class) (o : Option ℕ) → find vacant s.jobs ≡ o → Begins (begin_in s class o)
    unfolding Begins
    by_row class None e = stays may first E b K
    by_row class (Some row) e =
        let f = found_vacant s.jobs row e in
        begin_kept may first E s b.main b.draft K.0 K.1 class row f.0 f.1

    by_class : (o : Option Class) → Begins (begin_with s o)
    by_class None = refused _
    by_class (Some class) =
        cond_both (leb 1000000 s.counters.begun) _ _ Begins (λ h. refused _) (λ h. by_row class (find vacant s.jobs) refl)

    pub begin_request_kept : Kept may first (effect (event.Begin number (book_begin b number).0) ∷ E) (book_begin b number).1
    unfolding Begins
    begin_request_kept = by_class (class_of number)

  -- ---- end ----

  module _ (ticket : ℕ) where
    by_ending : (a : Result Seated Refusal) → ending s.jobs ticket ≡ a
        → Kept may first (effect (event.End ticket (end_on s ticket a).0) ∷ E) (book (kept b a) b.draft (end_on s ticket a).1)
    by_ending (Err why) e = stays may first E b K
    by_ending (Ok p) e =
        let f = ending_ok s.jobs ticket p e in
        end_kept may first E s b.main b.draft K.0 K.1 p.row p.job f.job_there ticket
        (found_ticket s.jobs ticket p.row p.job f.row_found f.job_there)

    pub end_request_kept : Kept may first (effect (event.End ticket (book_end b ticket).0) ∷ E) (book_end b ticket).1
    end_request_kept = by_ending (ending s.jobs ticket) refl

    -- ---- give up ----

    by_found : (o : Option ℕ) → find (holds ticket) s.jobs ≡ o
        → Kept may first (effect (event.GiveUp ticket (give_up_in s ticket o).0) ∷ E) (book b.main b.draft (give_up_in s ticket o).1)
    by_found None e = stays may first E b K
    by_found (Some row) e =
        let g = found_job s.jobs ticket row e in
        leave_kept may first E s b.main b.draft K.0 K.1 row g.0 g.1 ticket g.2 closing.GaveUp gave_up

    pub give_up_request_kept : Kept may first (effect (event.GiveUp ticket (book_give_up b ticket).0) ∷ E) (book_give_up b ticket).1
    give_up_request_kept = by_found (find (holds ticket) s.jobs) refl

  -- ---- group size ----

  module _ (size : ℕ) where
    Resizes : Result ℕ Refusal × State → Type 0
    Resizes p = Kept may first (nothing ∷ E) (book b.main b.draft p.1)

    not_resized : (why : Refusal) → Resizes (Err why, s)
    unfolding Resizes
    not_resized why = stays may first E b K

    resized : Resizes (Ok size, resizing s size)
    unfolding Resizes
    resized = (record { rows = K.0.rows; readers = K.0.readers }, (stays may first E b K).1)

    by_size : Resizes (group_size_step s size)
    by_size =
        cond_both (leb size 0) _ _ Resizes (λ h. not_resized _)
        (λ h. cond_both (leb 1000001 size) _ _ Resizes (λ h. not_resized _) (λ h. resized))

    pub group_size_request_kept : Kept may first (effect (event.GroupSize size (book_group_size b size).0) ∷ E) (book_group_size b size).1
    unfolding Resizes
    group_size_request_kept = by_size
