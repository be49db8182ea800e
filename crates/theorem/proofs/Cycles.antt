-- Waits go down an order of the open jobs, so there is no cycle of them, and they stop after 31 steps.
use Rattle.std.proofs.Common.{◌≡◌, ℕ, zero, suc, ◌<◌, ◌≤◌, Bool, true, false, cond, List, Some, None, Option, sym, refl, ◌∙◌, inl, inr, arith}
use Rattle.schedule.specs.declared.job.Job.{Job}
use Rattle.schedule.specs.Jobs.{party}
use Rattle.schedule.specs.Verdicts.{May}
use Rattle.std.proofs.lemmas.Bool.{cases_eq}
use Rattle.std.proofs.lemmas.Bool.Decides.{nat_tests}
use Rattle.theorem.proofs.Invariant.{Invariant, View, below}
use Rattle.theorem.proofs.Soundness.{same_job}
use Rattle.theorem.specs.Histories.{Effect, is_open, wait_of}
use Rattle.theorem.specs.Theorem.{Path, following, given, more, one, waits_for}
use Rattle.waiting.specs.declared.party.Party.{Party}

pub below_earlier : (may : May) (a b : Job) → b.group < a.group → below may a b ≡ true
below_earlier may a b h = grind (arith, nat_tests)

pub below_same : (may : May) (a b : Job) → b.group ≡ a.group → may (party a) (party b) ≡ true → below may a b ≡ true
below_same may a b h m = grind (arith, nat_tests)

-- ---- counting ----

abbrev passes : (Job → Bool) → Option Job → Bool
passes p None = false
passes p (Some j) = p j

-- how many of the first n rows pass the test
abbrev count : (Job → Bool) → (ℕ → Option Job) → ℕ → ℕ
count p f zero = 0
count p f (suc n) = cond (passes p (f n)) (suc (count p f n)) (count p f n)

count_few : (p : Job → Bool) (f : ℕ → Option Job) (n : ℕ) → count p f n ≤ n
count_few p f zero = omega arith
count_few p f (suc n) = let ih : count p f n ≤ n = count_few p f n in grind arith

-- a test that fails where row k stands counts less than n
count_less : (p : Job → Bool) (f : ℕ → Option Job) (n k : ℕ) → k < n → passes p (f k) ≡ false → count p f n < n
count_less p f zero k h e = absurd (omega arith)
count_less p f (suc n) k h e =
    elim (cases_eq k n) [
      | inl t ↦ let e' : passes p (f n) ≡ false = rw t at e in let ih : count p f n ≤ n = count_few p f n in grind arith
      | inr t ↦ let ih : count p f n < n = count_less p f n k (omega arith) e in grind arith
    ]

passes_up : (p r : Job → Bool) → ((j : Job) → p j ≡ true → r j ≡ true) → (o : Option Job) → passes p o ≡ true → passes r o ≡ true
passes_up p r h None e = e
passes_up p r h (Some j) e = h j e

count_grows : (p r : Job → Bool) (f : ℕ → Option Job) → ((j : Job) → p j ≡ true → r j ≡ true) → (n : ℕ) → count p f n ≤ count r f n
count_grows p r f h zero = omega arith
count_grows p r f h (suc n) =
    let ih : count p f n ≤ count r f n = count_grows p r f h n in
    let up : passes p (f n) ≡ true → passes r (f n) ≡ true = passes_up p r h (f n) in
    grind arith

count_falls : (p r : Job → Bool) (f : ℕ → Option Job) → ((j : Job) → p j ≡ true → r j ≡ true) → (n k : ℕ) → k < n → passes p (f k) ≡ false
    → passes r (f k) ≡ true → count p f n < count r f n
count_falls p r f h zero k l e g = absurd (omega arith)
count_falls p r f h (suc n) k l e g =
    elim (cases_eq k n) [
      | inl t ↦
          let e' : passes p (f n) ≡ false = rw t at e in
          let g' : passes r (f n) ≡ true = rw t at g in
          let ih : count p f n ≤ count r f n = count_grows p r f h n in grind arith
      | inr t ↦
          let ih : count p f n < count r f n = count_falls p r f h n k (omega arith) e g in
          let up : passes p (f n) ≡ true → passes r (f n) ≡ true = passes_up p r h (f n) in
          grind arith
    ]

-- ---- waits ----

-- the open job that t waits for is an open job that its wait names
waits_for_some : {C : Type 0} (E : List (Effect C)) (t u : ℕ) → waits_for E t ≡ Some u → (wait_of E t ≡ Some u) × (is_open E u ≡ true)
waits_for_some E t u e = grind arith

-- following the waits stays among open jobs
pub following_open : {C : Type 0} (E : List (Effect C)) (n t : ℕ) → is_open E t ≡ true → is_open E (following E n t) ≡ true
following_open E zero t e = e
following_open E (suc n) t e = go (λ u. following_open E n u) (waits_for E t) refl
  where
    go : ((u : ℕ) → is_open E u ≡ true → is_open E (following E n u) ≡ true) → (o : Option ℕ) → waits_for E t ≡ o
        → is_open E (given o t (λ u. following E n u)) ≡ true
    go ih None f = e
    go ih (Some u) f = ih u (waits_for_some E t u f).1

-- ---- the order ----

module _ (may : May) (irreflexive : (a : Party) → may a a ≡ false) (transitive : (a b c : Party) → may a b ≡ true → may b c ≡ true → may a c ≡ true) where
  below_irreflexive : (a : Job) → below may a a ≡ false
  below_irreflexive a = grind (arith, nat_tests, irreflexive (party a))

  below_transitive : (a b c : Job) → below may a b ≡ true → below may b c ≡ true → below may a c ≡ true
  below_transitive a b c e f = grind (arith, nat_tests, transitive (party a) (party b) (party c))

  module _ {C : Type 0} (first : List C) (E : List (Effect C)) (V : View) (main draft : List C) (I : Invariant may first E V main draft) where
    -- one step along the waits goes down
    step_down : (t u i : ℕ) (j : Job) → V.job i ≡ Some j → j.ticket ≡ t → waits_for E t ≡ Some u
        → (k : ℕ) × (o : Job) × (V.job k ≡ Some o) × (o.ticket ≡ u) × (below may j o ≡ true)
    step_down t u i j at et e =
        let w = waits_for_some E t u e in
        let r = I.has_row u w.1 in
        let o = r.1 in
        let n : wait_of E j.ticket ≡ Some o.ticket = rw (et, r.3) w.0 in
        (r.0, r.1, r.2, r.3, I.waits_down i r.0 j r.1 at r.2 n)

    path_down : (t u : ℕ) → Path E t u → (i : ℕ) (j : Job) → V.job i ≡ Some j → j.ticket ≡ t
        → (k : ℕ) × (o : Job) × (V.job k ≡ Some o) × (o.ticket ≡ u) × (below may j o ≡ true)
    path_down t u (one p e) i j at et = step_down t u i j at et e
    path_down t u (more {u = m} p e w) i j at et =
        let s = step_down t m i j at et e in
        let r = path_down m u w s.0 s.1 s.2 s.3 in
        (r.0, r.1, r.2, r.3, below_transitive j s.1 r.1 s.4 r.4)

    path_open : (t u : ℕ) → Path E t u → is_open E t ≡ true
    path_open t u (one p e) = p
    path_open t u (more p e w) = p

    pub no_cycle : (t : ℕ) → Path E t t → ⊥
    no_cycle t w =
        let r = I.has_row t (path_open t t w) in
        let s = path_down t t w r.0 r.1 r.2 r.3 in
        let o = s.1 in
        let same : r.1 ≡ o = same_job V I.sound r.0 s.0 r.1 s.1 r.2 s.2 (r.3 ∙ sym s.3) in
        let f = below_irreflexive o in cc

    -- how many open jobs lie below this one
    abbrev under : Job → ℕ
    under j = count (below may j) V.job 32

    fewer : (i k : ℕ) (j o : Job) → V.job i ≡ Some j → V.job k ≡ Some o → below may j o ≡ true → under o < under j
    fewer i k j o at at' b =
        count_falls (below may o) (below may j) V.job (λ x e. below_transitive j o x b e) 32 k (I.sound.few k o at')
        (rw at' (below_irreflexive o)) (rw at' b)

    stops : (n t i : ℕ) (j : Job) → V.job i ≡ Some j → j.ticket ≡ t → under j ≤ n → waits_for E (following E n t) ≡ None
    stops zero t i j at et h = go (waits_for E t) refl
      where
        go : (o : Option ℕ) → waits_for E t ≡ o → waits_for E t ≡ None
        go None e = e
        go (Some u) e =
            let s = step_down t u i j at et e in
            let f : under s.1 < under j = fewer i s.0 j s.1 at s.2 s.4 in
            absurd (omega arith)
    stops (suc n) t i j at et h = go (λ u k o. stops n u k o) (waits_for E t) refl
      where
        go : ((u k : ℕ) (o : Job) → V.job k ≡ Some o → o.ticket ≡ u → under o ≤ n → waits_for E (following E n u) ≡ None) → (o : Option ℕ)
            → waits_for E t ≡ o → waits_for E (given o t (λ u. following E n u)) ≡ None
        go ih None e = e
        go ih (Some u) e =
            let s = step_down t u i j at et e in
            let f : under s.1 < under j = fewer i s.0 j s.1 at s.2 s.4 in
            ih u s.0 s.1 s.2 s.3 (omega arith)

    pub someone_goes_on : (t : ℕ) → is_open E t ≡ true → waits_for E (following E 31 t) ≡ None
    someone_goes_on t e =
        let r = I.has_row t e in
        let l : under r.1 < 32 = count_less (below may r.1) V.job 32 r.0 (I.sound.few r.0 r.1 r.2) (rw r.2 (below_irreflexive r.1)) in
        stops 31 t r.0 r.1 r.2 r.3 (omega arith)
