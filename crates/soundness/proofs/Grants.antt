-- What a granted verdict says of the cell: of its writer after a read, of its readers after a write.
use Rattle.std.proofs.Common.{◌≡◌, ℕ, zero, suc, ◌+◌, false, List, [], ◌∷◌, Some, None, Option, Ok, arith}
use Rattle.schedule.specs.declared.cell.CellRecord.{CellRecord}
use Rattle.schedule.specs.declared.job.Job.{Job}
use Rattle.schedule.specs.declared.verdict.Blockers.{Blockers}
use Rattle.schedule.specs.declared.verdict.Source.TheVariants as source
use Rattle.schedule.specs.Jobs.{job_in}
use Rattle.schedule.specs.Verdicts.{May, blocks, gathered, no_blockers, read_verdict, with_row, write_verdict}
use Rattle.soundness.specs.Soundness.{CellSound, ReadersEarlier, WriterLater, group_in}
use Rattle.std.proofs.lemmas.Bool.Decides.{nat_tests}

-- after a granted read of the main store, another writer is of a later group
pub writer_later : (may : May) (rows : List (Option Job)) (r : CellRecord) (row : ℕ) (j : Job) → read_verdict may rows r row j ≡ Ok source.Main
    → WriterLater (group_in rows) r row j.group
writer_later may rows r row j e w h q n p = grind (arith, nat_tests)

module _ (may : May) (r : CellRecord) (row : ℕ) (j : Job) where
  -- where no lowest ticket comes out, none was known
  none_known : (i : ℕ) (rows : List (Option Job)) (known : Blockers) → (gathered may r row j i rows known).lowest ≡ None → known.lowest ≡ None
  none_known i [] known none = none
  none_known i (o ∷ rows) known none = grind (arith, none_known (suc i) rows (with_row may r row j i o known))

  -- and no row had a blocker
  no_row_blocks : (i : ℕ) (rows : List (Option Job)) (known : Blockers) → (gathered may r row j i rows known).lowest ≡ None
      → (k : ℕ) (o : Job) → job_in rows k ≡ Some o → blocks r row j (i + k) o ≡ false
  no_row_blocks i [] known none k o there = cc
  no_row_blocks i (x ∷ rows) known none zero o there = grind (arith, none_known (suc i) rows (with_row may r row j i x known))
  no_row_blocks i (x ∷ rows) known none (suc k) o there =
      grind (arith, no_row_blocks (suc i) rows (with_row may r row j i x known) none k o there)

-- a group in a row is that of the job there
job_of_group : (rows : List (Option Job)) (k h : ℕ) → group_in rows k ≡ Some h → (b : Job) × (job_in rows k ≡ Some b) × (b.group ≡ h)
job_of_group rows k h e = grind arith

-- after a granted write, every other reader is of an earlier group
pub readers_earlier : (may : May) (rows : List (Option Job)) (r : CellRecord) (row : ℕ) (j : Job) (u : Unit {0}) → write_verdict may rows r row j ≡ Ok u
    → CellSound (group_in rows) r → ReadersEarlier (group_in rows) r row j.group
readers_earlier may rows r row j u granted sound k h reads other of_group =
    let b = job_of_group rows k h of_group in
    let none : (gathered may r row j 0 rows no_blockers).lowest ≡ None = grind arith in
    let free = no_row_blocks may r row j 0 rows no_blockers none k b.0 b.1 in
    let x = sound.readers_open k reads in
    grind (arith, nat_tests)
