-- The theorem on a call, from the step that the call promises.
use Rattle.std.proofs.Common.{◌≡◌, true, false, List, [], ◌∷◌, refl}
use Rattle.schedule.specs.Books.{Book, fresh_book}
use Rattle.schedule.specs.declared.request.Event.{Event}
use Rattle.schedule.specs.declared.request.Request.{Request}
use Rattle.schedule.specs.declared.request.Request.TheVariants as request
use Rattle.schedule.specs.Verdicts.{May}
use Rattle.theorem.proofs.EveryRun.{every_run, keeps_serializable}
use Rattle.theorem.specs.Calls.{KeepsSerializableThrough, StartsSerializable, after_all, request_of}
use Rattle.theorem.specs.Theorem.{KeepsSerializable, asked, opened, step}
use Rattle.waiting.specs.declared.party.Party.{Party}

answers_its_request : {C : Type 0} (may : May) (b : Book C) (q : Request C) → request_of (step may b q).0 ≡ q
answers_its_request may b (request.Begin class) = refl
answers_its_request may b (request.Read ticket cell) = refl
answers_its_request may b (request.Write ticket cell c) = refl
answers_its_request may b (request.End ticket) = refl
answers_its_request may b (request.GiveUp ticket) = refl
answers_its_request may b (request.GroupSize size) = refl

module _ (may : May) (irreflexive : (a : Party) → may a a ≡ false) (transitive : (a b c : Party) → may a b ≡ true → may b c ≡ true → may a c ≡ true) {C : Type 0} where
  -- ---- opening ----

  pub starts : (main draft : List C) (b : Book C) → b ≡ fresh_book main draft → StartsSerializable may main b
  starts main draft b e = rw e (opened draft, every_run may irreflexive transitive main [] (fresh_book main draft) (opened draft))

  -- ---- one request ----

  pub keeps : (b b' : Book C) (q : Request C) (e : Event C) → step may b q ≡ (e, b') → KeepsSerializable may e b b'
  keeps b b' q e s = keeps_serializable may irreflexive transitive b q e b' s

  -- ---- a list of requests ----

  pub keeps_through : (qs : List (Request C)) (b : Book C) → KeepsSerializableThrough may qs b (after_all may b qs)
  keeps_through [] b first h run = (h, refl, run, every_run may irreflexive transitive first h b run)
  keeps_through (q ∷ qs) b first h run =
      let s = step may b q in
      let r = keeps_through qs s.1 first (s.0 ∷ h) (asked run q) in
      (r.0, (s.0, answers_its_request may b q, r.1), r.2, r.3)
