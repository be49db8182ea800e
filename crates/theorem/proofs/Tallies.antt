-- What ties the counters and the rows of jobs to what was told: a tally, and how it goes on where a job waits, begins or closes.
use Rattle.std.proofs.Common.{◌≡◌, ℕ, zero, suc, ◌+◌, ◌<◌, ◌≤◌, Bool, true, false, not, ◌&&◌, ◌||◌, eqb, ◌⊎◌, List, [], ◌∷◌, map, length, set, Some, None, Option, sym, refl, ap, ◌∙◌, inl, inr, add-one, arith}
use Rattle.schedule.specs.declared.counters.Counters.{Counters}
use Rattle.schedule.specs.declared.job.Job.{Job}
use Rattle.schedule.specs.declared.job.Wait.{Wait}
use Rattle.schedule.specs.Jobs.{closed_rows, find, holds, job_in, open_count, wait_lifted, wait_set, with_wait}
use Rattle.schedule.specs.States.{State}
use Rattle.std.proofs.lemmas.Bool.{cases_eq, eq-eqb, ne_eqb, or_left, or_right}
use Rattle.std.proofs.lemmas.Grind.{common_steps}
use Rattle.std.specs.Option.{option_map}
use Rattle.theorem.proofs.Invariant.{bare}
use Rattle.theorem.proofs.Tables.{bare_wait_set, closed_else, freed, found_job}
use Rattle.theorem.specs.Histories.{Effect, is_open}
use Rattle.theorem.specs.Reports.{how_many, is_begin, is_end, is_give_up, is_rejection, tickets_given}

-- ---- how many rows hold a job ----

-- a job is put into a free row
open_begun : (rows : List (Option Job)) (row : ℕ) (j : Job) → row < length rows → job_in rows row ≡ None
    → open_count (set rows row (Some j)) ≡ open_count rows + 1
open_begun [] row j l free = absurd (omega arith)
open_begun (o ∷ rows) zero j l free = grind arith
open_begun (o ∷ rows) (suc row) j l free = let r = open_begun rows row j (omega arith) free in omega arith

-- then each job there is that one, or was there before
put_or_was : (rows : List (Option Job)) (row i : ℕ) (j o : Job) → bare (job_in (set rows row (Some j)) i) ≡ Some o
    → (o.ticket ≡ j.ticket) ⊎ (bare (job_in rows i) ≡ Some o)
put_or_was rows row i j o at = grind (arith, common_steps)

-- a wait is put on or taken off
open_wait_set : (rows : List (Option Job)) (row : ℕ) (w : Option Wait) → open_count (wait_set rows row w) ≡ open_count rows
open_wait_set [] row w = refl
open_wait_set (o ∷ rows) zero w = grind arith
open_wait_set (o ∷ rows) (suc row) w = let r = open_wait_set rows row w in omega arith

-- all waits for a ticket are taken off
open_lifted : (ticket : ℕ) (rows : List (Option Job)) → open_count (map (option_map (wait_lifted ticket)) rows) ≡ open_count rows
open_lifted ticket [] = refl
open_lifted ticket (o ∷ rows) = grind (arith, open_lifted ticket rows)

-- a job closes
open_closed : (rows : List (Option Job)) (row ticket : ℕ) (j : Job) → job_in rows row ≡ Some j
    → open_count (closed_rows rows row ticket) + 1 ≡ open_count rows
open_closed [] row ticket j at = cc
open_closed (o ∷ rows) zero ticket j at = let r = open_lifted ticket rows in grind arith
open_closed (o ∷ rows) (suc row) ticket j at = let r = open_closed rows row ticket j at in grind arith

-- ---- how many tickets pass a test ----

-- the tickets from n down to 1
abbrev count_down : ℕ → List ℕ
count_down zero = []
count_down (suc n) = suc n ∷ count_down n

module _ (p q : ℕ → Bool) where
  -- where two tests agree on them, as many pass the one as the other
  agreeing : (n : ℕ) → ((u : ℕ) → u ≤ n → p u ≡ q u) → how_many p (count_down n) ≡ how_many q (count_down n)
  agreeing zero e = refl
  agreeing (suc n) e = let h = e (suc n) (omega arith) in let r = agreeing n (λ u l. e u (omega arith)) in cc

  -- where two tests differ at one of them alone, one more passes the one than the other
  all_but : (t n : ℕ) → 0 < t → t ≤ n → p t ≡ true → q t ≡ false → ((u : ℕ) → (u ≡ t → ⊥) → p u ≡ q u)
      → how_many q (count_down n) + 1 ≡ how_many p (count_down n)
  all_but t zero l m y z e = absurd (omega arith)
  all_but t (suc n) l m y z e =
      elim (cases_eq t (suc n)) [
        | inl s ↦ let r = agreeing n (λ u v. e u (λ w. omega arith)) in grind arith
        | inr s ↦ let r = all_but t n l (omega arith) y z e in let h = e (suc n) (λ w. s (sym w)) in grind arith
      ]

-- ---- what ties the counters and the rows of jobs to what was told ----

-- jobs begun, ended, given up, rejected
abbrev pub Figures : Type 0
Figures = ℕ × ℕ × ℕ × ℕ

abbrev pub figures_of : Counters → Figures
figures_of n = (n.begun, n.ended, n.given_up, n.rejected)

abbrev pub told_figures : {C : Type 0} → List (Effect C) → Figures
told_figures E = (how_many is_begin E, how_many is_end E, how_many is_give_up E, how_many is_rejection E)

-- figures and rows of jobs, against the figures told, the tickets given and the test for those told to be open
pub record Tally (figures : Figures) (rows : List (Option Job)) (told : Figures) (tickets : List ℕ) (is_open : ℕ → Bool) : Type 0 where
  pub counted : figures ≡ told
  -- the tickets given are 1, 2, 3 and so on, each once
  pub given : tickets ≡ count_down figures.0
  -- each open job's ticket is one of them, and was told to be open
  pub known : (i : ℕ) (j : Job) → bare (job_in rows i) ≡ Some j → (0 < j.ticket) × (j.ticket ≤ figures.0) × (is_open j.ticket ≡ true)
  pub as_many : open_count rows ≡ how_many is_open tickets

-- so of a state and the effects that led there
abbrev pub Tallied : {C : Type 0} → List (Effect C) → State → Type 0
Tallied E s = Tally (figures_of s.counters) s.jobs (told_figures E) (tickets_given E) (is_open E)

module _ {figures : Figures} {rows : List (Option Job)} {told : Figures} {tickets : List ℕ} {is_open : ℕ → Bool} (T : Tally figures rows told tickets is_open) where
  -- a wait is put on or taken off
  pub waited : (row : ℕ) (w : Option Wait) → Tally figures (wait_set rows row w) told tickets is_open
  waited row w =
      record {
        counted = T.counted;
        given = T.given;
        known = λ i j at. T.known i j (sym (bare_wait_set rows row w i) ∙ at);
        as_many = open_wait_set rows row w ∙ T.as_many;
      }

  -- a job begins
  module _ (row : ℕ) (inside : row < length rows) (free : job_in rows row ≡ None) (j : Job) (next : j.ticket ≡ figures.0 + 1) where
    abbrev is_open⁺ : ℕ → Bool
    is_open⁺ u = eqb j.ticket u || is_open u

    known⁺ : (i : ℕ) (o : Job) → bare (job_in (set rows row (Some j)) i) ≡ Some o → (0 < o.ticket) × (o.ticket ≤ figures.0 + 1) × (is_open⁺ o.ticket ≡ true)
    known⁺ i o at =
        elim (put_or_was rows row i j o at) [
          | inr h ↦ let k = T.known i o h in (k.0, omega arith, or_right (eqb j.ticket o.ticket) (is_open o.ticket) k.2)
          | inl t ↦ (omega arith, omega arith, or_left (eqb j.ticket o.ticket) (is_open o.ticket) (eq-eqb j.ticket o.ticket (sym t)))
        ]

    as_before : how_many is_open tickets ≡ how_many is_open⁺ tickets
    as_before = rw T.given (agreeing is_open is_open⁺ figures.0 (λ u l. rw (ne_eqb j.ticket u (λ e. omega arith))))

    pub begins : Tally (figures.0 + 1, figures.1, figures.2, figures.3) (set rows row (Some j)) (told.0 + 1, told.1, told.2, told.3) (j.ticket ∷ tickets) is_open⁺
    begins =
        record {
          counted = ap (λ (f : Figures). (f.0 + 1, f.1, f.2, f.3)) T.counted;
          given = let e : j.ticket ≡ suc figures.0 = omega arith in let g = T.given in rw add-one (cc);
          known = known⁺;
          as_many = let r = open_begun rows row j inside free in let m = T.as_many in let a = as_before in rw (eq-eqb j.ticket j.ticket refl) (omega arith);
        }

  -- the job with this ticket, in this row, closes, and one of the figures other than the first rises
  module _ (apart : (i k : ℕ) (j o : Job) → bare (job_in rows i) ≡ Some j → bare (job_in rows k) ≡ Some o → j.ticket ≡ o.ticket → i ≡ k)
      (ticket row : ℕ) (found : find (holds ticket) rows ≡ Some row) (more : Figures → Figures) (same_begun : (more figures).0 ≡ figures.0) where
    abbrev is_open⁻ : ℕ → Bool
    is_open⁻ u = not (eqb ticket u) && is_open u

    -- the job that closes
    at_row : (j : Job) × (job_in rows row ≡ Some j) × (j.ticket ≡ ticket)
    at_row = found_job rows ticket row found

    here : bare (job_in rows row) ≡ Some (with_wait None at_row.0)
    here = ap bare at_row.1

    known⁻ : (i : ℕ) (o : Job) → bare (job_in (closed_rows rows row ticket) i) ≡ Some o
        → (0 < o.ticket) × (o.ticket ≤ (more figures).0) × (is_open⁻ o.ticket ≡ true)
    known⁻ i o at =
        elim (cases_eq i row) [
          | inl e ↦ let f = freed rows row ticket in cc
          | inr n ↦
              let was : bare (job_in rows i) ≡ Some o = sym (closed_else rows row ticket i n) ∙ at in
              let k = T.known i o was in
              let other : ticket ≡ o.ticket → ⊥ = λ e. n (apart i row o (with_wait None at_row.0) was here (sym (at_row.2 ∙ e))) in
              rw (ne_eqb ticket o.ticket other) (k.0, omega arith, k.2)
        ]

    one_less : how_many is_open⁻ tickets + 1 ≡ how_many is_open tickets
    one_less =
        let k = T.known row (with_wait None at_row.0) here in
        let t = at_row.2 in
        rw T.given
        (all_but is_open is_open⁻ ticket figures.0 (omega arith) (omega arith) (rw t at k.2) (rw (eq-eqb ticket ticket refl)) (λ u n. rw (ne_eqb ticket u (λ e. n (sym e)))))

    pub closes : Tally (more figures) (closed_rows rows row ticket) (more told) tickets is_open⁻
    closes =
        record {
          counted = ap more T.counted;
          given = T.given ∙ ap count_down (sym same_begun);
          known = known⁻;
          as_many = let c = open_closed rows row ticket at_row.0 at_row.1 in let l = one_less in let m = T.as_many in omega arith;
        }
