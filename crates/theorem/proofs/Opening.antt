-- A job that begins keeps the invariant.
use Rattle.std.proofs.Common.{◌≡◌, ℕ, zero, suc, ◌+◌, ◌≤◌, max, true, ◌||◌, eqb, ◌⊎◌, List, [], ◌∷◌, Some, None, Option, refl, ◌∙◌, inl, inr, arith}
use Rattle.schedule.specs.declared.job.Job.{Job}
use Rattle.schedule.specs.Verdicts.{May}
use Rattle.std.proofs.lemmas.Bool.{cases_eq, eqb-true, or_cases}
use Rattle.std.proofs.lemmas.Bool.Decides.{nat_tests}
use Rattle.theorem.proofs.Executions.{ReadsRight, row_after_append}
use Rattle.theorem.proofs.Invariant.{Invariant, Sound, View, serial_row}
use Rattle.theorem.proofs.Soundness.{after_open, by_row}
use Rattle.theorem.specs.Histories.{Effect, accesses_of, is_open, latest_group, opens, serial_up_to}

module _ {C : Type 0} (may : May) (first : List C) (E : List (Effect C)) (V : View) (main draft : List C) (I : Invariant may first E V main draft) where
  -- row i was free, and takes the job j with the next ticket
  module _ (i : ℕ) (j : Job) (job' : ℕ → Option Job) (free : V.job i ≡ None)
      (job_new : job' i ≡ Some j) (job_else : (k : ℕ) → (k ≡ i → ⊥) → job' k ≡ V.job k)
      (ticket_is : j.ticket ≡ V.begun + 1) (group_up : V.group ≤ j.group) where
    -- a fact on each open job after it: it holds of j, and of those before
    by_new : (P : ℕ → Job → Type 0) → P i j → ((k : ℕ) (o : Job) → V.job k ≡ Some o → (k ≡ i → ⊥) → P k o) → (k : ℕ) (o : Job)
        → job' k ≡ Some o → P k o
    by_new = by_row V i j job' job_new job_else

    none_yet : accesses_of E j.ticket ≡ []
    none_yet = I.untold j.ticket (omega arith)

    no_writer : (cell : ℕ) → V.writer cell ≡ Some i → ⊥
    no_writer cell w = I.sound.writer_open cell i w free

    no_reader : (cell : ℕ) → V.reader cell i ≡ true → ⊥
    no_reader cell r = I.sound.reader_open cell i r free

    rows_now : (q : ℕ) → (eqb j.ticket q || is_open E q) ≡ true → (k : ℕ) × (o : Job) × (job' k ≡ Some o) × (o.ticket ≡ q)
    rows_now q e = elim (or_cases (eqb j.ticket q) (is_open E q) e) [
      | inl p ↦ (i, j, job_new, eqb-true j.ticket q p)
      | inr p ↦ let r = I.has_row q p in let o = r.1 in
          let n : r.0 ≡ i → ⊥ = λ x. cc in
          (r.0, r.1, job_else r.0 n ∙ r.2, r.3)
    ]

    serial_past : (h : ℕ) → latest_group E ≤ h → serial_row first E h ≡ main
    serial_past zero l = let e : ◌≡◌ {A = ℕ} zero (latest_group E) = omega arith in rw (← e) at I.main_is
    serial_past (suc h) l = elim (cases_eq (suc h) (latest_group E)) [
      | inl e ↦ rw (← e) at I.main_is
      | inr n ↦ rw (row_after_append (serial_up_to E h), I.none_later (suc h) (omega arith)) (serial_past h (omega arith))
    ]

    pub opens_kept : Sound (after_open V job' j.group)
        → Invariant may first (opens j.ticket j.group ∷ E) (after_open V job' j.group) main draft
    opens_kept sound =
        let was : (k : ℕ) (o : Job) → job' k ≡ Some o → ((k ≡ i) × (o ≡ j)) ⊎ (V.job k ≡ Some o) =
        by_new (λ k o. ((k ≡ i) × (o ≡ j)) ⊎ (V.job k ≡ Some o)) (inl (refl, refl)) (λ k o at n. inr at) in
        let main_is : serial_row first E (max j.group (latest_group E)) ≡ main = serial_past (max j.group (latest_group E)) (omega arith) in
        let job_right = by_new (λ k o. ReadsRight (serial_row first E o.group) (accesses_of E o.ticket)) (rw none_yet tt) (λ k o at n. I.job_right k o at) in
        grind (arith, nat_tests, rows_now, no_writer, no_reader, none_yet)
