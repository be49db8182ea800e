-- A job that leaves and a job that ends keep the invariant.
use Rattle.std.proofs.Common.{◌≡◌, ℕ, zero, suc, ◌<◌, ◌≤◌, Bool, true, not, ◌&&◌, eqb, ◌⊎◌, List, [], ◌∷◌, ◌++◌, length, Some, Option, sym, refl, ◌∙◌, inl, inr, arith}
use Rattle.schedule.specs.declared.job.Job.{Job}
use Rattle.schedule.specs.Verdicts.{May}
use Rattle.std.proofs.lemmas.Bool.{and_parts, cases_eq, cases_lt, cases_order, eq-eqb, eqb-false, ne_eqb, not-true}
use Rattle.std.specs.List.{slice_get}
use Rattle.theorem.proofs.Executions.{ReadsRight, length_row_after, nth_ext, right_append, right_alike, right_back, row_after, row_after_append, row_after_alike, touches, touches_append}
use Rattle.theorem.proofs.Invariant.{Invariant, View, serial_row}
use Rattle.theorem.proofs.Soundness.{Gone, after_close, closes_sound, job_was}
use Rattle.theorem.proofs.Granting.{told_before}
use Rattle.theorem.specs.Histories.{Access, Effect, Leaving, accesses_of, ended_in, ends, gave_up, group_of, is_open, latest_group, leaves, serial_order, serial_up_to, wait_of, was_rejected}

module _ {C : Type 0} (may : May) (first : List C) (E : List (Effect C)) (V : View) (main draft : List C) (I : Invariant may first E V main draft) where
  module _ (i : ℕ) (j : Job) (here : V.job i ≡ Some j) where
    abbrev A : List (Access C)
    A = accesses_of E j.ticket

    -- the job in row i closes
    module _ (job' : ℕ → Option Job) (writer' : ℕ → Option ℕ) (reader' : ℕ → ℕ → Bool) (gone : Gone V i job' writer' reader') where
      was : (k : ℕ) (o : Job) → job' k ≡ Some o → (V.job k ≡ Some o) × (k ≡ i → ⊥)
      was = job_was V i job' writer' reader' gone

      rows_now : (q : ℕ) → (not (eqb j.ticket q) && is_open E q) ≡ true → (k : ℕ) × (o : Job) × (job' k ≡ Some o) × (o.ticket ≡ q)
      rows_now q e =
          let p = and_parts (not (eqb j.ticket q)) (is_open E q) e in
          let r = I.has_row q p.1 in
          let n : r.0 ≡ i → ⊥ = λ x. let s : j ≡ r.1 = cc in eqb-false j.ticket q (not-true (eqb j.ticket q) p.0) (rw s r.3) in
          (r.0, r.1, gone.job_else r.0 n ∙ r.2, r.3)

      open_now : (k : ℕ) (o : Job) → job' k ≡ Some o → (not (eqb j.ticket o.ticket) && is_open E o.ticket) ≡ true
      open_now k o at =
          let p = was k o at in
          rw (ne_eqb j.ticket o.ticket (λ e. p.1 (I.sound.apart k i o j p.0 here (sym e)))) (I.row_open k o p.0)

      -- another job's hold on a cell stays
      still : (cell k : ℕ) → (k ≡ i → ⊥) → (V.writer cell ≡ Some k) ⊎ (V.reader cell k ≡ true) → (writer' cell ≡ Some k) ⊎ (reader' cell k ≡ true)
      still cell k n (inl w) = inl (gone.writer_is cell k w n)
      still cell k n (inr r) = inr (gone.reader_is cell k r n)

      -- a wait told after the job has left was told before
      left_wait : (how : Leaving) (t u : ℕ) → wait_of (leaves j.ticket how ∷ E) t ≡ Some u → wait_of E t ≡ Some u
      left_wait gave_up t u e = e
      left_wait was_rejected t u e = told_before (eqb j.ticket t) u (wait_of E t) e

      -- ---- it leaves ----

      pub leaves_kept : (how : Leaving) → Invariant may first (leaves j.ticket how ∷ E) (after_close V job' writer' reader' V.write_mark) main draft
      leaves_kept how =
          let sound = closes_sound V I.sound i job' writer' reader' V.write_mark gone (λ q n. refl) in
          grind (arith, was, still, rows_now, open_now, left_wait how)

      cases_writer : (cell : ℕ) → (V.writer cell ≡ Some i) ⊎ (V.writer cell ≡ Some i → ⊥)
      cases_writer cell = grind arith

      -- ---- it ends ----

      -- Its group takes the accesses of the job at its end. The cells that it wrote are the draft cells from its group on: no
      -- later group touched them, and no other open job of its group or a later one did.
      module _ (write_mark' : ℕ → ℕ) (main' : List C)
          (write_mark_mine : (cell : ℕ) → V.writer cell ≡ Some i → write_mark' cell ≡ j.group)
          (write_mark_else : (cell : ℕ) → (V.writer cell ≡ Some i → ⊥) → write_mark' cell ≡ V.write_mark cell)
          (main_mine : (cell : ℕ) → V.writer cell ≡ Some i → slice_get main' cell ≡ slice_get draft cell)
          (main_else : (cell : ℕ) → (V.writer cell ≡ Some i → ⊥) → slice_get main' cell ≡ slice_get main cell)
          (main_long : length main' ≡ length main) where
        abbrev g : ℕ
        g = j.group

        abbrev g' : ℕ
        g' = group_of E j.ticket

        abbrev E' : List (Effect C)
        E' = ends j.ticket ∷ E

        own : ended_in E' g ≡ ended_in E g ++ A
        own = rw (eq-eqb g' g (I.told_group i j here))

        other : (h : ℕ) → (g ≡ h → ⊥) → ended_in E' h ≡ ended_in E h
        other h n = rw (ne_eqb g' h (λ e. n (sym (I.told_group i j here) ∙ e)))

        -- a fact on each group's accesses: on the job's own group, and on the others
        by_group : (P : ℕ → List (Access C) → Type 0) → P g (ended_in E g ++ A) → ((h : ℕ) → (g ≡ h → ⊥) → P h (ended_in E h)) → (h : ℕ)
            → P h (ended_in E' h)
        by_group P p f h = elim (cases_eq g h) [ inl e ↦ rw (← e, own) p | inr n ↦ rw (other h n) (f h n) ]

        write_mark_up : (cell : ℕ) → V.write_mark cell ≤ write_mark' cell
        write_mark_up cell = elim (cases_writer cell) [
          | inl w ↦ let m = I.sound.above_writes cell i j here w in let e = write_mark_mine cell w in omega arith
          | inr n ↦ let e = write_mark_else cell n in omega arith
        ]

        serial_before : (h : ℕ) → h < g → serial_up_to E' h ≡ serial_up_to E h
        serial_before zero l = other zero (λ e. omega arith)
        serial_before (suc h) l = rw (serial_before h (omega arith), other (suc h) (λ e. omega arith))

        group_else : (cell : ℕ) → (V.writer cell ≡ Some i → ⊥) → (row row' : List C) → slice_get row' cell ≡ slice_get row cell → (h : ℕ)
            → slice_get (row_after row' (ended_in E' h)) cell ≡ slice_get (row_after row (ended_in E h)) cell
        group_else cell n row row' e = by_group (λ h xs. slice_get (row_after row' xs) cell ≡ slice_get (row_after row (ended_in E h)) cell)
            (rw (row_after_append (ended_in E g)) (I.unwritten cell i j here n (row_after row' (ended_in E g)) ∙ row_after_alike (ended_in E g) row' row cell e))
            (λ h m. row_after_alike (ended_in E h) row' row cell e)

        -- a cell that j did not write is in every group as it was
        cell_else : (cell : ℕ) → (V.writer cell ≡ Some i → ⊥) → (h : ℕ)
            → slice_get (serial_row first E' h) cell ≡ slice_get (serial_row first E h) cell
        cell_else cell n zero = group_else cell n first first refl zero
        cell_else cell n (suc h) =
            rw (row_after_append (serial_up_to E' h), row_after_append (serial_up_to E h))
            (group_else cell n (serial_row first E h) (serial_row first E' h) (cell_else cell n h) (suc h))

        -- a cell that it wrote is the draft cell from its group on
        cell_mine_at : (cell : ℕ) → V.writer cell ≡ Some i → (h : ℕ) (row : List C) → cell < length row → g ≤ h
            → (g < h → slice_get row cell ≡ slice_get draft cell) → slice_get (row_after row (ended_in E' h)) cell ≡ slice_get draft cell
        cell_mine_at cell w h row l = by_group (λ x xs. g ≤ x → (g < x → slice_get row cell ≡ slice_get draft cell) → slice_get (row_after row xs) cell ≡ slice_get draft cell)
            (λ p f. rw (row_after_append (ended_in E g)) (I.written cell i j here w (row_after row (ended_in E g)) (rw length_row_after l)))
            (λ x n p f. let m = I.sound.above_writes cell i j here w in let k : g < x = omega arith in I.group_wrote cell x (omega arith) row ∙ f k) h

        cell_mine : (cell : ℕ) → V.writer cell ≡ Some i → (h : ℕ) → g ≤ h → slice_get (serial_row first E' h) cell ≡ slice_get draft cell
        cell_mine cell w zero p = cell_mine_at cell w zero first (I.writer_inside cell i w) p (λ q. absurd (omega arith))
        cell_mine cell w (suc h) p =
            rw (row_after_append (serial_up_to E' h))
            (cell_mine_at cell w (suc h) (serial_row first E' h) (rw length_row_after (I.writer_inside cell i w)) p (λ q. cell_mine cell w h (omega arith)))

        job_right_at : (h : ℕ) → g ≡ suc h → ReadsRight (row_after (serial_row first E h) (ended_in E (suc h))) A
        job_right_at h e = rw (← row_after_append (serial_up_to E h) (ended_in E (suc h)) first) (rw e at (I.job_right i j here))

        agree_at : (h : ℕ) → g < suc h → (cell : ℕ) → touches (ended_in E (suc h)) cell ≡ true
            → slice_get (serial_row first E h) cell ≡ slice_get (serial_row first E' h) cell
        agree_at h l cell t = elim (cases_writer cell) [
          | inl w ↦ let m = I.sound.above_reads cell i j here w in let k = I.sound.above_writes cell i j here w in
              absurd (elim (I.group_touched cell (suc h) t) [ inl p ↦ omega arith | inr p ↦ omega arith ])
          | inr n ↦ sym (cell_else cell n h)
        ]

        right_at : (h : ℕ) → ReadsRight (serial_row first E h) (ended_in E (suc h))
            → ReadsRight (serial_row first E' h) (ended_in E' (suc h))
        right_at h r = elim (cases_order g (suc h)) [
          | inl e ↦ rw (serial_before h (omega arith), ← e, own, e)
              (right_append (ended_in E (suc h)) A (serial_row first E h) r (job_right_at h e))
          | inr (inl l) ↦ rw (other (suc h) (λ e. omega arith))
              (right_alike (ended_in E (suc h)) (serial_row first E h) (serial_row first E' h) (agree_at h l) r)
          | inr (inr l) ↦ rw (other (suc h) (λ e. omega arith), serial_before h (omega arith)) r
        ]

        right_now : (h : ℕ) → ReadsRight first (serial_up_to E' h)
        right_now zero = by_group (λ x xs. x ≡ zero → ReadsRight first xs)
            (λ e. right_append (ended_in E g) A first (rw e (I.serial_right zero)) (rw e (rw e at (I.job_right i j here))))
            (λ x n e. rw e (I.serial_right zero)) zero refl
        right_now (suc h) = right_append (serial_up_to E' h) (ended_in E' (suc h)) first (right_now h)
            (right_at h (right_back (serial_up_to E h) (ended_in E (suc h)) first (I.serial_right (suc h))))

        -- another open job's reads stay right
        job_right_now : (k : ℕ) (o : Job) → V.job k ≡ Some o → (k ≡ i → ⊥)
            → ReadsRight (serial_row first E' o.group) (accesses_of E o.ticket)
        job_right_now k o at n = elim (cases_lt o.group g) [
          | inl l ↦ rw (serial_before o.group l) (I.job_right k o at)
          | inr l ↦ right_alike (accesses_of E o.ticket) (serial_row first E o.group) (serial_row first E' o.group) (agree l) (I.job_right k o at)
        ]
          where
            agree : g ≤ o.group → (cell : ℕ) → touches (accesses_of E o.ticket) cell ≡ true
                → slice_get (serial_row first E o.group) cell ≡ slice_get (serial_row first E' o.group) cell
            agree l cell t = elim (cases_writer cell) [
              | inl w ↦ absurd (elim (I.touched cell k o at t) [
                | inl w' ↦ let e : k ≡ i = cc in n e
                | inr r ↦ let p = I.sound.writer_last cell i k j o here w at n r in omega arith
              ])
              | inr m ↦ sym (cell_else cell m o.group)
            ]

        main_now : row_after first (serial_order E') ≡ main'
        main_now = nth_ext (row_after first (serial_order E')) main' (λ cell. elim (cases_writer cell) [
          | inl w ↦ cell_mine cell w (latest_group E) (I.in_latest i j here) ∙ sym (main_mine cell w)
          | inr n ↦ rw (cell_else cell n (latest_group E), main_else cell n, I.main_is)
        ])

        none_now : (h : ℕ) → latest_group E < h → ended_in E' h ≡ []
        none_now h l = other h (λ e. let m = I.in_latest i j here in omega arith) ∙ I.none_later h l

        touched_now : (cell h : ℕ) → touches (ended_in E' h) cell ≡ true → (h ≤ V.read_mark cell) ⊎ (h ≤ write_mark' cell)
        touched_now cell = by_group (λ h xs. touches xs cell ≡ true → (h ≤ V.read_mark cell) ⊎ (h ≤ write_mark' cell))
            (λ e. elim (touches_append (ended_in E g) A cell e) [
              | inl t ↦ before g t
              | inr t ↦ elim (I.touched cell i j here t) [
                | inl w ↦ let m = write_mark_mine cell w in inr (omega arith)
                | inr r ↦ inl (I.sound.reader_mark cell i j here r)
              ]
            ])
            (λ h n. before h)
          where
            before : (h : ℕ) → touches (ended_in E h) cell ≡ true → (h ≤ V.read_mark cell) ⊎ (h ≤ write_mark' cell)
            before h t = elim (I.group_touched cell h t) [ inl p ↦ inl p | inr p ↦ let u = write_mark_up cell in inr (omega arith) ]

        wrote_now : (cell h : ℕ) → write_mark' cell < h → (row : List C) → slice_get (row_after row (ended_in E' h)) cell ≡ slice_get row cell
        wrote_now cell = by_group (λ h xs. write_mark' cell < h → (row : List C) → slice_get (row_after row xs) cell ≡ slice_get row cell)
            (λ l row. let u = write_mark_up cell in
            rw (row_after_append (ended_in E g))
            (I.unwritten cell i j here (λ w. let m = write_mark_mine cell w in omega arith) (row_after row (ended_in E g)) ∙ I.group_wrote cell g (omega arith) row))
            (λ h n l row. let u = write_mark_up cell in I.group_wrote cell h (omega arith) row)

        pub ends_kept : Invariant may first E' (after_close V job' writer' reader' write_mark') main' draft
        ends_kept =
            let left = leaves_kept gave_up in
            let sound = closes_sound V I.sound i job' writer' reader' write_mark' gone write_mark_else in
            let main_length = main_long ∙ I.main_length in
            let job_right = λ (k : ℕ) (o : Job) (at : job' k ≡ Some o). job_right_now k o (was k o at).0 (was k o at).1 in
            assumption (none_now, touched_now, wrote_now, main_now, right_now)
