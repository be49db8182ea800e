-- The state's own change where a job begins keeps its sizes and the invariant; and so does a change of the group size.
use Rattle.std.proofs.Common.{◌≡◌, ℕ, ◌+◌, ◌<◌, ◌≤◌, List, ◌∷◌, length, Some, None, refl, ap, ◌∙◌, subst, arith, length-set}
use Rattle.schedule.specs.Counting.{joined}
use Rattle.schedule.specs.declared.counters.Counters.{Counters}
use Rattle.schedule.specs.declared.job.Job.{Job}
use Rattle.schedule.specs.Jobs.{job_in}
use Rattle.schedule.specs.States.{State, beginning}
use Rattle.schedule.specs.Verdicts.{May}
use Rattle.std.proofs.lemmas.List.{get_or-set_other, get_or-set_same}
use Rattle.theorem.proofs.Invariant.{Invariant, View, bare, view}
use Rattle.theorem.proofs.Opening.{opens_kept}
use Rattle.theorem.proofs.Shapes.{Shape, alike}
use Rattle.theorem.proofs.Soundness.{after_open, opens_sound}
use Rattle.theorem.specs.Histories.{Effect, opens}
use Rattle.waiting.specs.declared.class.Class.{Class}

-- a begin gives the next ticket, and its group is the current or the next
joined_counters : (n : Counters) → ((joined n).begun ≡ n.begun + 1) × (n.group ≤ (joined n).group)
joined_counters n = grind arith

module _ {C : Type 0} (may : May) (first : List C) (E : List (Effect C)) (s : State) (main draft : List C) (S : Shape s) (I : Invariant may first E (view s) main draft)
    (class : Class) (i : ℕ) (inside : i < length s.jobs) (free : job_in s.jobs i ≡ None) where
  abbrev n : Counters
  n = joined s.counters

  abbrev j : Job
  j = record { ticket = n.begun; class = class; group = n.group; place = n.members; wait = None }

  abbrev s₁ : State
  s₁ = beginning s class n i

  row_new : (view s₁).job i ≡ Some j
  row_new = rw (get_or-set_same s.jobs i (Some j) None inside)

  row_else : (k : ℕ) → (k ≡ i → ⊥) → (view s₁).job k ≡ (view s).job k
  row_else k m = rw (get_or-set_other s.jobs i k (Some j) None m)

  pub begin_kept : Shape s₁ × Invariant may first (opens n.begun n.group ∷ E) (view s₁) main draft
  begin_kept =
      let next = joined_counters s.counters in
      let V₁ : View = after_open (view s) (view s₁).job n.group in
      let back : s.counters.begun + 1 ≡ n.begun = omega arith in (
        record { rows = length-set s.jobs i (Some j) ∙ S.rows; readers = S.readers },
        subst (λ (V : View). Invariant may first (opens n.begun n.group ∷ E) V main draft)
            (alike V₁ (view s₁) (λ k. refl) (λ q. refl) (λ q. refl) (λ q. refl) (λ q k. refl) refl back)
            (opens_kept may first E (view s) main draft I i j (view s₁).job (ap bare free) row_new row_else next.0 next.1
            (opens_sound (view s) I.sound i j (view s₁).job (ap bare free) (let m = S.rows in omega arith) row_new row_else next.0)),
      )
