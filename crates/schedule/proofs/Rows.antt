-- The rows where every job is changed in the same way.
use Rattle.std.proofs.Common.{◌≡◌, ℕ, List, map, Option, arith}
use Rattle.schedule.specs.declared.job.Job.{Job}
use Rattle.schedule.specs.Jobs.{job_in}
use Rattle.std.proofs.lemmas.List.{get_or-map, get_or_past, length-map}
use Rattle.std.specs.Option.{option_map}

pub job_in_mapped : (f : Job → Job) (rows : List (Option Job)) (row : ℕ) → job_in (map (option_map f) rows) row ≡ option_map f (job_in rows row)
job_in_mapped f rows row = grind (arith, get_or-map (option_map f), get_or_past {X = Option Job}, length-map {A = Option Job} {B = Option Job})
