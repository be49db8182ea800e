-- The groups of the open jobs by row, after each change of the rows.
use Rattle.std.proofs.Common.{◌≡◌, ◌≢◌, ℕ, zero, suc, List, [], ◌∷◌, set, Some, None, Option, arith, get_or-set_other}
use Rattle.schedule.proofs.Rows.{job_in_mapped}
use Rattle.schedule.specs.declared.job.Job.{Job}
use Rattle.schedule.specs.declared.job.Seated.{Seated}
use Rattle.schedule.specs.declared.job.Wait.{Wait}
use Rattle.schedule.specs.Jobs.{closed_rows, find, job_in, vacant, wait_lifted, wait_set}
use Rattle.soundness.specs.Soundness.{group_in}
use Rattle.std.proofs.lemmas.Grind.{common_steps}

-- the row found is free
vacant_row : (rows : List (Option Job)) (i : ℕ) → find vacant rows ≡ Some i → job_in rows i ≡ None
vacant_row [] i free = cc
vacant_row (o ∷ rows) zero free = grind arith
vacant_row (o ∷ rows) (suc i) free = grind (arith, vacant_row rows i)

module _ (rows : List (Option Job)) (i k : ℕ) where
  -- a job waits so, or no more
  pub group_waiting : (w : Option Wait) → group_in (wait_set rows i w) k ≡ group_in rows k
  group_waiting w = grind (arith, common_steps)

  -- a job begins in a free row
  pub group_seated : (j : Job) (g : ℕ) → find vacant rows ≡ Some i → group_in rows k ≡ Some g → group_in (set rows i (Some j)) k ≡ Some g
  group_seated j g free h = grind (arith, get_or-set_other {A = Option Job}, vacant_row rows i free)

  -- a job closes
  pub group_closed : (ticket g : ℕ) → k ≢ i → group_in rows k ≡ Some g → group_in (closed_rows rows i ticket) k ≡ Some g
  group_closed ticket g other h = grind (arith, job_in_mapped (wait_lifted ticket) rows, get_or-set_other {A = Option Job})

-- the group of the job that is found by its ticket
pub group_of_job : (rows : List (Option Job)) (p : Seated) → job_in rows p.row ≡ Some p.job → group_in rows p.row ≡ Some p.job.group
group_of_job rows p there = grind arith
