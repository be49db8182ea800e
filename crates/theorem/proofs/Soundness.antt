-- The changes of a view, and that each keeps it sound.
use Rattle.std.proofs.Common.{◌≡◌, ℕ, ◌+◌, ◌<◌, ◌≤◌, max, Bool, true, ◌⊎◌, Some, None, Option, sym, refl, ◌∙◌, inl, inr, arith}
use Rattle.schedule.specs.declared.job.Job.{Job}
use Rattle.std.proofs.lemmas.Bool.{cases_eq}
use Rattle.theorem.proofs.Invariant.{Sound, View}

-- ---- what a change of the state makes of its view ----

-- a read is granted: other read marks and readers
abbrev pub after_read : View → (ℕ → ℕ) → (ℕ → ℕ → Bool) → View
after_read V read_mark' reader' =
    record {
      job = V.job;
      read_mark = read_mark';
      write_mark = V.write_mark;
      writer = V.writer;
      reader = reader';
      group = V.group;
      begun = V.begun;
    }

-- a write is granted: other writers
abbrev pub after_write : View → (ℕ → Option ℕ) → View
after_write V writer' =
    record {
      job = V.job;
      read_mark = V.read_mark;
      write_mark = V.write_mark;
      writer = writer';
      reader = V.reader;
      group = V.group;
      begun = V.begun;
    }

-- a job closes: other jobs, writers, readers and, if it ended, write marks
abbrev pub after_close : View → (ℕ → Option Job) → (ℕ → Option ℕ) → (ℕ → ℕ → Bool) → (ℕ → ℕ) → View
after_close V job' writer' reader' write_mark' =
    record {
      job = job';
      read_mark = V.read_mark;
      write_mark = write_mark';
      writer = writer';
      reader = reader';
      group = V.group;
      begun = V.begun;
    }

-- a job begins: another job, one more ticket, and perhaps another group
abbrev pub after_open : View → (ℕ → Option Job) → ℕ → View
after_open V job' g =
    record {
      job = job';
      read_mark = V.read_mark;
      write_mark = V.write_mark;
      writer = V.writer;
      reader = V.reader;
      group = g;
      begun = V.begun + 1;
    }

-- The job in row i has closed: it is no job, no writer and no reader any more, and the other jobs, writers and readers are
-- as they were.
pub record Gone (V : View) (i : ℕ) (job' : ℕ → Option Job) (writer' : ℕ → Option ℕ) (reader' : ℕ → ℕ → Bool) : Type 0 where
  pub job_gone : job' i ≡ None
  pub job_else : (k : ℕ) → (k ≡ i → ⊥) → job' k ≡ V.job k
  pub writer_was : (cell k : ℕ) → writer' cell ≡ Some k → (V.writer cell ≡ Some k) × (k ≡ i → ⊥)
  pub writer_is : (cell k : ℕ) → V.writer cell ≡ Some k → (k ≡ i → ⊥) → writer' cell ≡ Some k
  pub reader_was : (cell k : ℕ) → reader' cell k ≡ true → (V.reader cell k ≡ true) × (k ≡ i → ⊥)
  pub reader_is : (cell k : ℕ) → V.reader cell k ≡ true → (k ≡ i → ⊥) → reader' cell k ≡ true

-- then each job that is left was there before, in another row
pub job_was : (V : View) (i : ℕ) (job' : ℕ → Option Job) (writer' : ℕ → Option ℕ) (reader' : ℕ → ℕ → Bool) → Gone V i job' writer' reader'
    → (k : ℕ) (o : Job) → job' k ≡ Some o → (V.job k ≡ Some o) × (k ≡ i → ⊥)
job_was V i job' writer' reader' gone k o at =
    elim (cases_eq k i) [
      | inl e ↦ let g = gone.job_gone in cc
      | inr n ↦ (sym (gone.job_else k n) ∙ at, n)
    ]

-- a fact on each cell: on this one, and on the others
pub by_cell : (cell : ℕ) (P : ℕ → Type 0) → P cell → ((q : ℕ) → (q ≡ cell → ⊥) → P q) → (q : ℕ) → P q
by_cell cell P p f q = elim (cases_eq q cell) [ inl e ↦ rw e p | inr n ↦ f q n ]

-- a fact on each open job, where at most row i has changed and holds j: on j, and on the others
pub by_row : (V : View) (i : ℕ) (j : Job) (job' : ℕ → Option Job) → job' i ≡ Some j → ((k : ℕ) → (k ≡ i → ⊥) → job' k ≡ V.job k)
    → (P : ℕ → Job → Type 0) → P i j → ((k : ℕ) (o : Job) → V.job k ≡ Some o → (k ≡ i → ⊥) → P k o) → (k : ℕ) (o : Job)
    → job' k ≡ Some o → P k o
by_row V i j job' here others P p f k o at =
    elim (cases_eq k i) [
      | inl e ↦ let s : o ≡ j = cc in rw (e, s) p
      | inr n ↦ f k o (sym (others k n) ∙ at) n
    ]

-- the writers after a write in this cell: as before, and the job in row i
pub writer_after_write : (V : View) (i cell : ℕ) (writer' : ℕ → Option ℕ) → writer' cell ≡ Some i
    → ((q : ℕ) → (q ≡ cell → ⊥) → writer' q ≡ V.writer q) → (q k : ℕ) → writer' q ≡ Some k
    → (V.writer q ≡ Some k) ⊎ ((q ≡ cell) × (k ≡ i))
writer_after_write V i cell writer' here others q k w =
    elim (cases_eq q cell) [ inl e ↦ let y : k ≡ i = cc in inr (e, y) | inr n ↦ inl (sym (others q n) ∙ w) ]

-- ---- each keeps a sound view sound ----

module _ (V : View) (S : Sound V) where
  -- there is one open job with a ticket
  pub same_job : (i k : ℕ) (j o : Job) → V.job i ≡ Some j → V.job k ≡ Some o → j.ticket ≡ o.ticket → j ≡ o
  same_job i k j o at at' t = let e : i ≡ k = S.apart i k j o at at' t in cc

  module _ (i : ℕ) (j : Job) (here : V.job i ≡ Some j) where
    pub read_sound : (cell : ℕ) (read_mark' : ℕ → ℕ) (reader' : ℕ → ℕ → Bool) → read_mark' cell ≡ max (V.read_mark cell) j.group
        → ((q : ℕ) → (q ≡ cell → ⊥) → read_mark' q ≡ V.read_mark q)
        → ((q x : ℕ) → reader' q x ≡ true → (V.reader q x ≡ true) ⊎ ((q ≡ cell) × (x ≡ i)))
        → ((k : ℕ) (o : Job) → V.writer cell ≡ Some k → V.job k ≡ Some o → j.group < o.group) → Sound (after_read V read_mark' reader')
    read_sound cell read_mark' reader' read_mark_now read_mark_else reader_was later =
        let read_mark_up : (q : ℕ) → V.read_mark q ≤ read_mark' q =
        by_cell cell (λ q. V.read_mark q ≤ read_mark' q) (omega arith) (λ q n. let e = read_mark_else q n in omega arith) in
        grind arith

    pub write_sound : (cell : ℕ) (writer' : ℕ → Option ℕ) → writer' cell ≡ Some i → ((q : ℕ) → (q ≡ cell → ⊥) → writer' q ≡ V.writer q)
        → V.read_mark cell ≤ j.group → V.write_mark cell ≤ j.group
        → ((k : ℕ) (o : Job) → V.job k ≡ Some o → (k ≡ i → ⊥) → V.reader cell k ≡ true → o.group < j.group)
        → Sound (after_write V writer')
    write_sound cell writer' here_now else_same read_mark_low write_mark_low readers_low =
        let was = writer_after_write V i cell writer' here_now else_same in grind arith

  pub closes_sound : (i : ℕ) (job' : ℕ → Option Job) (writer' : ℕ → Option ℕ) (reader' : ℕ → ℕ → Bool) (write_mark' : ℕ → ℕ)
      → Gone V i job' writer' reader' → ((cell : ℕ) → (V.writer cell ≡ Some i → ⊥) → write_mark' cell ≡ V.write_mark cell)
      → Sound (after_close V job' writer' reader' write_mark')
  closes_sound i job' writer' reader' write_mark' gone write_mark_else =
      let was = job_was V i job' writer' reader' gone in
      let write_mark_same : (cell k : ℕ) → writer' cell ≡ Some k → write_mark' cell ≡ V.write_mark cell =
      λ cell k w. let p = gone.writer_was cell k w in let h = p.0 in write_mark_else cell (λ x. let y : k ≡ i = cc in p.1 y) in
      grind arith

  pub opens_sound : (i : ℕ) (j : Job) (job' : ℕ → Option Job) → V.job i ≡ None → i < 32 → job' i ≡ Some j
      → ((k : ℕ) → (k ≡ i → ⊥) → job' k ≡ V.job k) → j.ticket ≡ V.begun + 1 → Sound (after_open V job' j.group)
  opens_sound i j job' free i<32 job_new job_else ticket_is =
      let was : (k : ℕ) (o : Job) → job' k ≡ Some o → ((k ≡ i) × (o ≡ j)) ⊎ (V.job k ≡ Some o) =
      by_row V i j job' job_new job_else (λ k o. ((k ≡ i) × (o ≡ j)) ⊎ (V.job k ≡ Some o)) (inl (refl, refl)) (λ k o at n. inr at) in
      let no_writer = λ (cell : ℕ) (w : V.writer cell ≡ Some i). S.writer_open cell i w free in
      let no_reader = λ (cell : ℕ) (r : V.reader cell i ≡ true). S.reader_open cell i r free in
      grind arith
