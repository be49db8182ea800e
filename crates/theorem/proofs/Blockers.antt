-- What the blockers gathered for a write say of the rows.
use Rattle.std.proofs.Common.{◌≡◌, ℕ, zero, suc, ◌+◌, true, false, ◌⊎◌, List, [], ◌∷◌, Some, None, Option, subst, inl, inr, arith}
use Rattle.schedule.specs.Cells.{is_reader, is_writer}
use Rattle.schedule.specs.declared.cell.CellRecord.{CellRecord}
use Rattle.schedule.specs.declared.job.Job.{Job}
use Rattle.schedule.specs.declared.verdict.Blockers.{Blockers}
use Rattle.schedule.specs.Jobs.{job_in, party}
use Rattle.schedule.specs.Verdicts.{May, blocks, gathered, no_blockers, with_row}
use Rattle.std.proofs.lemmas.Bool.Decides.{nat_tests}

-- ---- who blocks ----

module _ (r : CellRecord) (row : ℕ) (j : Job) (k : ℕ) (o : Job) where
  -- who blocks is the writer, or of the same group
  pub blocks_parts : blocks r row j k o ≡ true → (is_writer r.writer k ≡ true) ⊎ (o.group ≡ j.group)
  blocks_parts e = grind (arith, nat_tests)

  -- another job that does not block is not the writer, and is no reader of the same group
  pub blocks_not : (k ≡ row → ⊥) → blocks r row j k o ≡ false
      → (is_writer r.writer k ≡ false) × (is_reader r k ≡ true → o.group ≡ j.group → ⊥)
  blocks_not n e = grind (arith, nat_tests)

-- ---- what is gathered ----

module _ (may : May) (r : CellRecord) (row : ℕ) (j : Job) where
  -- the job o in row k does not block
  abbrev Free : ℕ → Job → Type 0
  Free k o = blocks r row j k o ≡ false

  -- the waiting rule lets the job j wait for the job o, if this one blocks and is of its group
  abbrev Permitted : ℕ → Job → Type 0
  Permitted k o = blocks r row j k o ≡ true → o.group ≡ j.group → may (party j) (party o) ≡ true

  -- ---- one row ----

  row_lowest_none : (i : ℕ) (o : Option Job) (known : Blockers) → (with_row may r row j i o known).lowest ≡ None
      → (known.lowest ≡ None) × ((p : Job) → o ≡ Some p → Free i p)
  row_lowest_none i o known e = grind arith

  row_lowest_some : (i : ℕ) (o : Option Job) (known : Blockers) (u : ℕ) → (with_row may r row j i o known).lowest ≡ Some u
      → (known.lowest ≡ Some u) ⊎ ((p : Job) × (o ≡ Some p) × (blocks r row j i p ≡ true) × (p.ticket ≡ u))
  row_lowest_some i o known u e = grind arith

  row_forbidden_none : (i : ℕ) (o : Option Job) (known : Blockers) → (with_row may r row j i o known).forbidden ≡ None
      → (known.forbidden ≡ None) × ((p : Job) → o ≡ Some p → Permitted i p)
  row_forbidden_none i o known e = grind (arith, nat_tests)

  -- ---- all rows, from row i on ----

  -- a part of the blockers that each row leaves None only where it was None and the row's job has P: where it is None in
  -- the end, each job has P
  gathered_none : (part : Blockers → Option ℕ) (P : ℕ → Job → Type 0)
      → ((i : ℕ) (o : Option Job) (known : Blockers) → part (with_row may r row j i o known) ≡ None
      → (part known ≡ None) × ((p : Job) → o ≡ Some p → P i p))
      → (i : ℕ) (rows : List (Option Job)) (known : Blockers) → part (gathered may r row j i rows known) ≡ None
      → (part known ≡ None) × ((x k : ℕ) (o : Job) → k ≡ i + x → job_in rows x ≡ Some o → P k o)
  gathered_none part P one i [] known e = (e, λ x k o q at. cc)
  gathered_none part P one i (o ∷ rows) known e =
      let later = gathered_none part P one (suc i) rows (with_row may r row j i o known) e in
      let here = one i o known later.0 in (
        here.0,
        elim [
          | zero ↦ λ k p q at. let s : i ≡ k = omega arith in subst (λ (y : ℕ). P y p) s (here.1 p at)
          | suc x ↦ λ k p q at. later.1 x k p (omega arith) at
        ],
      )

  gathered_some : (i : ℕ) (rows : List (Option Job)) (known : Blockers) (u : ℕ) → (gathered may r row j i rows known).lowest ≡ Some u
      → (known.lowest ≡ Some u) ⊎ ((x k : ℕ) × (o : Job) × (k ≡ i + x) × (job_in rows x ≡ Some o) × (blocks r row j k o ≡ true) × (o.ticket ≡ u))
  gathered_some i [] known u e = inl e
  gathered_some i (o ∷ rows) known u e =
      elim (gathered_some (suc i) rows (with_row may r row j i o known) u e) [
        | inl h ↦ elim (row_lowest_some i o known u h) [ inl f ↦ inl f | inr f ↦ inr (zero, i, f.0, omega arith, f.1, f.2, f.3) ]
        | inr h ↦ inr (suc h.0, h.1, h.2, omega arith, h.4, h.5, h.6)
      ]

  -- ---- what a verdict rests on ----

  module _ (rows : List (Option Job)) where
    -- no lowest ticket: nobody blocks
    pub none_blocks : (gathered may r row j 0 rows no_blockers).lowest ≡ None → (k : ℕ) (o : Job) → job_in rows k ≡ Some o
        → blocks r row j k o ≡ false
    none_blocks e k o at = (gathered_none (λ b. b.lowest) Free row_lowest_none 0 rows no_blockers e).1 k k o (omega arith) at

    -- a lowest ticket and no forbidden one: it is of a job that blocks, and for which the job may wait if their groups are the same
    pub lowest_blocks : (u : ℕ) → (gathered may r row j 0 rows no_blockers).forbidden ≡ None
        → (gathered may r row j 0 rows no_blockers).lowest ≡ Some u
        → (k : ℕ) × (o : Job) × (job_in rows k ≡ Some o) × (blocks r row j k o ≡ true) × (o.ticket ≡ u) × (o.group ≡ j.group → may (party j) (party o) ≡ true)
    lowest_blocks u f e =
        elim (gathered_some 0 rows no_blockers u e) [
          | inl h ↦ cc
          | inr h ↦
              let s : h.1 ≡ h.0 = omega arith in
              let b : blocks r row j h.0 h.2 ≡ true = rw s at h.5 in
              (h.0, h.2, h.4, b, h.6, (gathered_none (λ b. b.forbidden) Permitted row_forbidden_none 0 rows no_blockers f).1 h.0 h.0 h.2 (omega arith) h.4 b)
        ]
