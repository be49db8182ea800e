-- What a call promises follows from its step.
use Rattle.std.proofs.Common.{◌≡◌, true, false, List, refl, subst}
use Rattle.engine.specs.Promises.{KeepsPromises, KeepsPromisesThrough, NoSuchCellExactlyOutside, NoSuchCellExactlyPastTheEnd, Promises, RefusalChangesNothing, RejectionClosesThatJobAlone, StartsPromises, TellsTrue}
use Rattle.engine.proofs.Sizes.{read_past_the_end, read_refusal_keeps, write_past_the_end}
use Rattle.schedule.specs.Books.{Book, fresh_book}
use Rattle.schedule.specs.declared.counters.Report.{Report}
use Rattle.schedule.specs.declared.request.Event.{Event}
use Rattle.schedule.specs.declared.request.Request.{Request}
use Rattle.schedule.specs.declared.request.Request.TheVariants as request
use Rattle.schedule.specs.Reachable.{Sized}
use Rattle.schedule.specs.States.{report_of}
use Rattle.schedule.specs.Verdicts.{May}
use Rattle.schedule.proofs.Answering.{begin_refusal_keeps, end_refusal_keeps, give_up_refusal_keeps, group_size_refusal_keeps, read_outside_exactly, read_rejection_closes, write_outside_exactly, write_refusal_keeps, write_rejection_closes}
use Rattle.theorem.proofs.Calling.{keeps, keeps_through, starts}
use Rattle.theorem.proofs.Reporting.{reports}
use Rattle.theorem.specs.Calls.{KeepsSerializableThrough, after_all, request_of}
use Rattle.theorem.specs.Theorem.{step}
use Rattle.waiting.specs.declared.party.Party.{Party}

-- ---- the promises of one step ----

module _ {C : Type 0} (may : May) (b : Book C) where
  refusal : Sized b → (q : Request C) → RefusalChangesNothing (step may b q).0 b (step may b q).1
  refusal sized (request.Begin class) = begin_refusal_keeps b _ class _ refl
  refusal sized (request.Read ticket cell) = read_refusal_keeps may b sized ticket cell _ _ refl
  refusal sized (request.Write ticket cell c) = write_refusal_keeps may b ticket cell _ c _ refl
  refusal sized (request.End ticket) = end_refusal_keeps b _ ticket _ refl
  refusal sized (request.GiveUp ticket) = give_up_refusal_keeps b _ ticket _ refl
  refusal sized (request.GroupSize size) = group_size_refusal_keeps b _ size _ refl

  rejection : (q : Request C) → RejectionClosesThatJobAlone (step may b q).0 b (step may b q).1
  rejection (request.Begin class) = tt
  rejection (request.Read ticket cell) = read_rejection_closes may b ticket cell _ _ refl
  rejection (request.Write ticket cell c) = write_rejection_closes may b ticket cell _ c _ refl
  rejection (request.End ticket) = tt
  rejection (request.GiveUp ticket) = tt
  rejection (request.GroupSize size) = tt

  outside : (q : Request C) → NoSuchCellExactlyOutside may (step may b q).0 b
  outside (request.Begin class) = tt
  outside (request.Read ticket cell) = read_outside_exactly may b ticket cell _ _ refl
  outside (request.Write ticket cell c) = write_outside_exactly may b ticket cell _ c _ refl
  outside (request.End ticket) = tt
  outside (request.GiveUp ticket) = tt
  outside (request.GroupSize size) = tt

  past_the_end : Sized b → (q : Request C) → NoSuchCellExactlyPastTheEnd (step may b q).0 b
  past_the_end sized (request.Begin class) = tt
  past_the_end sized (request.Read ticket cell) = read_past_the_end may b sized ticket cell
  past_the_end sized (request.Write ticket cell c) = write_past_the_end may b sized ticket cell c
  past_the_end sized (request.End ticket) = tt
  past_the_end sized (request.GiveUp ticket) = tt
  past_the_end sized (request.GroupSize size) = tt

-- ---- under a waiting rule ----

abbrev Irreflexive : May → Type 0
Irreflexive may = (x : Party) → may x x ≡ false

abbrev Transitive : May → Type 0
Transitive may = (x y z : Party) → may x y ≡ true → may y z ≡ true → may x z ≡ true

module _ {C : Type 0} (may : May) where
  -- the event of a step keeps the promises
  pub step_promises : (e : Event C) (b b' : Book C) → Irreflexive may → Transitive may → Sized b → step may b (request_of e) ≡ (e, b') → KeepsPromises may e b b'
  unfolding KeepsPromises
  step_promises e b b' irreflexive transitive sized s =
      let q = request_of e in
      subst (λ (x : Event C × Book C). Promises may x.0 b x.1) s
      (record {
        refusal_changes_nothing = refusal may b sized q;
        rejection_closes_that_job_alone = rejection may b q;
        no_such_cell_exactly_outside = outside may b q;
        no_such_cell_exactly_past_the_end = past_the_end may b sized q;
        serializable_without_deadlock = keeps may irreflexive transitive b _ q _ refl;
      })

  pub opening_promises : (main : List C) (b : Book C) (draft : List C) → Irreflexive may → Transitive may → b ≡ fresh_book main draft → StartsPromises may main b
  unfolding StartsPromises
  opening_promises main b draft irreflexive transitive e = starts may irreflexive transitive main draft b e

  pub list_promises : (qs : List (Request C)) (b b' : Book C) → Irreflexive may → Transitive may → after_all may b qs ≡ b' → KeepsPromisesThrough may qs b b'
  unfolding KeepsPromisesThrough
  list_promises qs b b' irreflexive transitive e = subst (λ (x : Book C). KeepsSerializableThrough may qs b x) e (keeps_through may irreflexive transitive qs b)

  pub report_promises : (b : Book C) (r : Report) → r ≡ report_of b.state → TellsTrue may b r
  unfolding TellsTrue
  report_promises b r e = reports may b r e
