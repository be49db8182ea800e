-- What is known of a read or a write once the refusals are past, and when the refusal for a cell number comes.
use Rattle.std.proofs.Common.{◌≡◌, ℕ, zero, suc, ◌<◌, ◌≤◌, true, List, [], ◌∷◌, is_some, Some, Ok, Err, Option, arith}
use Rattle.std.proofs.lemmas.Bool.Decides.{nat_tests}
use Rattle.schedule.specs.declared.answer.Refusal.TheVariants as refusal
use Rattle.schedule.specs.declared.job.Job.{Job}
use Rattle.schedule.specs.declared.job.Kind.{Kind}
use Rattle.schedule.specs.declared.job.Seated.{Seated}
use Rattle.schedule.specs.Jobs.{SeatedIn, find, holds, job_in}
use Rattle.schedule.specs.Steps.{admitted, seated}

-- the job that is found by its ticket lies in the row found
pub seated_ok : (rows : List (Option Job)) (ticket : ℕ) (p : Seated) → seated rows ticket ≡ Ok p → SeatedIn rows ticket p
seated_ok rows ticket p h = record { row_found = grind arith; job_there = grind arith }

-- the row found holds a job
found_job : (rows : List (Option Job)) (ticket row : ℕ) → find (holds ticket) rows ≡ Some row → is_some (job_in rows row) ≡ true
found_job [] ticket row e = cc
found_job (o ∷ rows) ticket zero e = grind arith
found_job (o ∷ rows) ticket (suc row) e = grind (arith, found_job rows ticket row)

pub record Admitted (size : ℕ) (rows : List (Option Job)) (ticket cell : ℕ) (p : Seated) : Type 0 where
  pub within : cell < size
  pub found : find (holds ticket) rows ≡ Some p.row
  pub job : job_in rows p.row ≡ Some p.job

module _ (size : ℕ) (rows : List (Option Job)) (ticket cell : ℕ) (k : Kind) where
  pub admitted_ok : (p : Seated) → admitted size rows ticket cell k ≡ Ok p → Admitted size rows ticket cell p
  admitted_ok p h = record { within = grind (arith, nat_tests); found = grind arith; job = grind arith }

  -- an open job is refused for the cell number where that is not below the size
  pub admitted_outside : is_some (find (holds ticket) rows) ≡ true → size ≤ cell → admitted size rows ticket cell k ≡ Err refusal.NoSuchCell
  admitted_outside s le = grind (arith, nat_tests, found_job rows ticket)

  -- and no other job is, and for no other cell number
  pub admitted_outside_only : admitted size rows ticket cell k ≡ Err refusal.NoSuchCell → (is_some (find (holds ticket) rows) ≡ true) × (size ≤ cell)
  admitted_outside_only h = (grind (arith, nat_tests), grind (arith, nat_tests))
