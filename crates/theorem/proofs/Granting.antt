-- An event without effect, a wait, a granted read and a granted write keep the invariant.
use Rattle.std.proofs.Common.{◌≡◌, ℕ, zero, suc, ◌<◌, ◌≤◌, Bool, true, false, cond, ◌||◌, eqb, ◌⊎◌, List, [], ◌∷◌, ◌++◌, length, set, Some, None, Option, sym, refl, ◌∙◌, inl, inr, arith, length-set}
use Rattle.schedule.specs.declared.job.Job.{Job}
use Rattle.schedule.specs.Verdicts.{May}
use Rattle.std.proofs.lemmas.Bool.{cases_eq, eq-eqb, ne_eqb}
use Rattle.std.proofs.lemmas.Bool.Decides.{nat_tests}
use Rattle.std.specs.List.{slice_get}
use Rattle.theorem.proofs.Executions.{ReadsRight, length_row_after, nth_set_other, nth_set_same, right_append, row_after, row_after_append, touches, touches_append}
use Rattle.theorem.proofs.Invariant.{Invariant, Sound, View, below, serial_row}
use Rattle.theorem.proofs.Soundness.{after_read, after_write, by_row, same_job, writer_after_write}
use Rattle.theorem.specs.Histories.{Access, Effect, accesses, accesses_of, latest_group, nothing, read_gave, serial_up_to, wait_of, waits, wrote}

-- a wait told once an access has taken the wait off one job was told before
pub told_before : (b : Bool) (u : ℕ) (o : Option ℕ) → cond b None o ≡ Some u → o ≡ Some u
told_before b u o e = grind arith

-- one access touches its cell alone
touched_cell : (cell q : ℕ) → (eqb cell q || false) ≡ true → cell ≡ q
touched_cell cell q e = grind (arith, nat_tests)

module _ {C : Type 0} (may : May) (first : List C) (E : List (Effect C)) (V : View) (main draft : List C) (I : Invariant may first E V main draft) where
  -- ---- an event without effect ----

  pub idle : Invariant may first (nothing ∷ E) V main draft
  idle = assumption

  -- ---- what a job sees ----

  -- a cell that no group later than g wrote is left by every later group as group g left it
  cell_later : (cell g : ℕ) → V.write_mark cell ≤ g → (h : ℕ) → g ≤ h → slice_get (serial_row first E h) cell ≡ slice_get (serial_row first E g) cell
  cell_later cell g m zero l = let e : ◌≡◌ {A = ℕ} zero g = omega arith in rw (← e)
  cell_later cell g m (suc h) l = elim (cases_eq (suc h) g) [
    | inl e ↦ rw (← e)
    | inr n ↦ rw (row_after_append (serial_up_to E h)) (I.group_wrote cell (suc h) (omega arith) (serial_row first E h) ∙ cell_later cell g m h (omega arith))
  ]

  -- so a job sees the main cell, where it is not the writer and no later group wrote
  pub cell_seen : (cell i : ℕ) (j : Job) → V.job i ≡ Some j → (V.writer cell ≡ Some i → ⊥) → V.write_mark cell ≤ j.group
      → slice_get (row_after (serial_row first E j.group) (accesses_of E j.ticket)) cell ≡ slice_get main cell
  cell_seen cell i j at n m =
      I.unwritten cell i j at n (serial_row first E j.group)
      ∙ sym (cell_later cell j.group m (latest_group E) (I.in_latest i j at)) ∙ rw I.main_is

  -- a job sees the draft cell where it is the writer
  pub cell_drafted : (cell i : ℕ) (j : Job) → V.job i ≡ Some j → V.writer cell ≡ Some i
      → slice_get (row_after (serial_row first E j.group) (accesses_of E j.ticket)) cell ≡ slice_get draft cell
  cell_drafted cell i j at w = I.written cell i j at w (serial_row first E j.group)
      (let m = length_row_after (serial_up_to E j.group) first in let l = I.writer_inside cell i w in omega arith)

  -- ---- the job j in row i ----

  module _ (i : ℕ) (j : Job) (here : V.job i ≡ Some j) where
    -- a fact on each open job: it holds of j, and of the others, whose tickets differ
    by_job : (P : ℕ → Job → Type 0) → P i j
        → ((k : ℕ) (o : Job) → V.job k ≡ Some o → (k ≡ i → ⊥) → eqb j.ticket o.ticket ≡ false → P k o) → (k : ℕ) (o : Job)
        → V.job k ≡ Some o → P k o
    by_job P p f = by_row V i j V.job here (λ k n. refl) P p
        (λ k o at n. f k o at n (ne_eqb j.ticket o.ticket (λ e. n (I.sound.apart k i o j at here (sym e)))))

    self : eqb j.ticket j.ticket ≡ true
    self = eq-eqb j.ticket j.ticket refl

    told : j.ticket ≤ V.begun
    told = I.sound.counted i j here

    -- ---- it waits for the job o in row k ----

    pub waits_kept : (k : ℕ) (o : Job) → V.job k ≡ Some o → below may j o ≡ true
        → Invariant may first (waits j.ticket o.ticket ∷ E) V main draft
    waits_kept k o there b =
        let same = same_job V I.sound in
        grind (arith, nat_tests, told, same)

    -- ---- what each grant tells ----

    -- a grant takes the wait off
    granted_told : (q u : ℕ) → cond (eqb j.ticket q) None (wait_of E q) ≡ Some u → (q ≤ V.begun) × (u ≤ V.begun)
    granted_told q u e = I.waits_told q u (told_before (eqb j.ticket q) u (wait_of E q) e)

    granted_down : (i' k' : ℕ) (j' o' : Job) → V.job i' ≡ Some j' → V.job k' ≡ Some o'
        → cond (eqb j.ticket j'.ticket) None (wait_of E j'.ticket) ≡ Some o'.ticket → below may j' o' ≡ true
    granted_down i' k' j' o' at at' e = I.waits_down i' k' j' o' at at' (told_before (eqb j.ticket j'.ticket) o'.ticket (wait_of E j'.ticket) e)

    -- nothing is told of tickets to come
    granted_untold : (a : Access C) (q : ℕ) → V.begun < q → cond (eqb j.ticket q) (accesses_of E q ++ a ∷ []) (accesses_of E q) ≡ []
    granted_untold a q l = rw (ne_eqb j.ticket q (λ e. omega (arith, told))) (I.untold q l)

    abbrev A : List (Access C)
    A = accesses_of E j.ticket

    -- what the history has of the accesses after one more of j
    abbrev now : Access C → Job → List (Access C)
    now a o = cond (eqb j.ticket o.ticket) (accesses_of E o.ticket ++ a ∷ []) (accesses_of E o.ticket)

    -- a fact on each open job's accesses
    by_access : (a : Access C) (P : ℕ → Job → List (Access C) → Type 0) → P i j (A ++ a ∷ [])
        → ((k : ℕ) (o : Job) → V.job k ≡ Some o → (k ≡ i → ⊥) → P k o (accesses_of E o.ticket)) → (k : ℕ) (o : Job) → V.job k ≡ Some o
        → P k o (now a o)
    by_access a P p f = by_job (λ k o. P k o (now a o)) (rw self p) (λ k o at n e. rw e (f k o at n))

    -- ---- a read is granted ----

    pub read_kept : (cell : ℕ) (c : C) (read_mark' : ℕ → ℕ) (reader' : ℕ → ℕ → Bool)
        → slice_get (row_after (serial_row first E j.group) A) cell ≡ Some c → (V.writer cell ≡ Some i) ⊎ (reader' cell i ≡ true)
        → ((q : ℕ) → V.read_mark q ≤ read_mark' q) → ((q k : ℕ) → V.reader q k ≡ true → reader' q k ≡ true)
        → Sound (after_read V read_mark' reader')
        → Invariant may first (accesses j.ticket (read_gave cell c) ∷ E) (after_read V read_mark' reader') main draft
    read_kept cell c read_mark' reader' value now_touched read_mark_up reader_up sound =
        let untold = granted_untold (read_gave cell c) in
        let written = λ (q : ℕ). by_access (read_gave cell c)
        (λ k o xs. V.writer q ≡ Some k → (row : List C) → q < length row → slice_get (row_after row xs) q ≡ slice_get draft q)
        (λ w row l. rw (row_after_append A) (I.written q i j here w row l))
        (λ k o at n. I.written q k o at) in
        let unwritten = λ (q : ℕ). by_access (read_gave cell c)
        (λ k o xs. (V.writer q ≡ Some k → ⊥) → (row : List C) → slice_get (row_after row xs) q ≡ slice_get row q)
        (λ w row. rw (row_after_append A) (I.unwritten q i j here w row))
        (λ k o at n. I.unwritten q k o at) in
        let touched = λ (q : ℕ). by_access (read_gave cell c)
        (λ k o xs. touches xs q ≡ true → (V.writer q ≡ Some k) ⊎ (reader' q k ≡ true))
        (λ e. elim (touches_append A (read_gave cell c ∷ []) q e) [
          | inl f ↦ up q i (I.touched q i j here f)
          | inr f ↦ rw (← touched_cell cell q f) now_touched
        ])
        (λ k o at n e. up q k (I.touched q k o at e)) in
        let job_right = by_access (read_gave cell c)
        (λ k o xs. ReadsRight (serial_row first E o.group) xs)
        (right_append A (read_gave cell c ∷ []) (serial_row first E j.group) (I.job_right i j here) (value, tt))
        (λ k o at n. I.job_right k o at) in
        grind (arith, granted_told, granted_down)
      where
        up : (q k : ℕ) → (V.writer q ≡ Some k) ⊎ (V.reader q k ≡ true) → (V.writer q ≡ Some k) ⊎ (reader' q k ≡ true)
        up q k (inl w) = inl w
        up q k (inr r) = inr (reader_up q k r)

    -- ---- a write is granted ----

    pub write_kept : (cell : ℕ) (c : C) (writer' : ℕ → Option ℕ) → writer' cell ≡ Some i
        → ((q : ℕ) → (q ≡ cell → ⊥) → writer' q ≡ V.writer q) → cell < length first → cell < length draft
        → ((k : ℕ) → V.writer cell ≡ Some k → k ≡ i) → Sound (after_write V writer')
        → Invariant may first (accesses j.ticket (wrote cell c) ∷ E) (after_write V writer') main (set draft cell c)
    write_kept cell c writer' here_now else_same in_main in_draft alone sound =
        let untold = granted_untold (wrote cell c) in
        let written = λ (q : ℕ). by_access (wrote cell c)
        (λ k o xs. writer' q ≡ Some k → (row : List C) → q < length row → slice_get (row_after row xs) q ≡ slice_get (set draft cell c) q)
        (λ w row l. rw (row_after_append A) (written_now q w row l))
        (λ k o at n w row l. written_else q k o at n w row l) in
        let unwritten = λ (q : ℕ). by_access (wrote cell c)
        (λ k o xs. (writer' q ≡ Some k → ⊥) → (row : List C) → slice_get (row_after row xs) q ≡ slice_get row q)
        (λ w row. rw (row_after_append A) (unwritten_now q w row))
        (λ k o at n w row. I.unwritten q k o at (λ h. w (kept q k h)) row) in
        let touched = λ (q : ℕ). by_access (wrote cell c)
        (λ k o xs. touches xs q ≡ true → (writer' q ≡ Some k) ⊎ (V.reader q k ≡ true))
        (λ e. elim (touches_append A (wrote cell c ∷ []) q e) [
          | inl f ↦ up q i (I.touched q i j here f)
          | inr f ↦ inl (rw (← touched_cell cell q f) here_now)
        ])
        (λ k o at n e. up q k (I.touched q k o at e)) in
        let job_right = by_access (wrote cell c)
        (λ k o xs. ReadsRight (serial_row first E o.group) xs)
        (right_append A (wrote cell c ∷ []) (serial_row first E j.group) (I.job_right i j here) tt)
        (λ k o at n. I.job_right k o at) in
        grind (arith, was, granted_told, granted_down, length-set draft cell c)
      where
        was : (q k : ℕ) → writer' q ≡ Some k → (V.writer q ≡ Some k) ⊎ ((q ≡ cell) × (k ≡ i))
        was = writer_after_write V i cell writer' here_now else_same

        kept : (q k : ℕ) → V.writer q ≡ Some k → writer' q ≡ Some k
        kept q k h = elim (cases_eq q cell) [
          | inl e ↦ let y : k ≡ i = alone k (rw e at h) in cc
          | inr n ↦ else_same q n ∙ h
        ]

        up : (q k : ℕ) → (V.writer q ≡ Some k) ⊎ (V.reader q k ≡ true) → (writer' q ≡ Some k) ⊎ (V.reader q k ≡ true)
        up q k (inl w) = inl (kept q k w)
        up q k (inr r) = inr r

        written_now : (q : ℕ) → writer' q ≡ Some i → (row : List C) → q < length row
            → slice_get (set (row_after row A) cell c) q ≡ slice_get (set draft cell c) q
        written_now q w row l = elim (cases_eq q cell) [
          | inl e ↦ rw (e, nth_set_same (row_after row A) cell c (let m = length_row_after A row in omega arith), nth_set_same draft cell c in_draft)
          | inr n ↦ rw (nth_set_other (row_after row A) cell c q n, nth_set_other draft cell c q n) (I.written q i j here (sym (else_same q n) ∙ w) row l)
        ]

        written_else : (q k : ℕ) (o : Job) → V.job k ≡ Some o → (k ≡ i → ⊥) → writer' q ≡ Some k → (row : List C) → q < length row
            → slice_get (row_after row (accesses_of E o.ticket)) q ≡ slice_get (set draft cell c) q
        written_else q k o at n w row l = elim (was q k w) [
          | inl h ↦ I.written q k o at h row l ∙ sym (nth_set_other draft cell c q (λ e. n (alone k (rw e at h))))
          | inr h ↦ absurd (n h.1)
        ]

        unwritten_now : (q : ℕ) → (writer' q ≡ Some i → ⊥) → (row : List C) → slice_get (set (row_after row A) cell c) q ≡ slice_get row q
        unwritten_now q w row = nth_set_other (row_after row A) cell c q (λ e. w (rw e here_now)) ∙ I.unwritten q i j here (λ h. w (kept q i h)) row
