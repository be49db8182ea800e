-- A sweep over the rows, in place, comes to one more of them.
use Rattle.std.proofs.Common.{◌≡◌, ℕ, ◌+◌, ◌<◌, List, ◌++◌, map, length, get_or, take, drop, set, Option, Some, None, sym, ap, ◌∙◌}
use Rattle.schedule.proofs.Sweeps.{swept_more}
use Rattle.schedule.specs.declared.job.Job.{Job}
use Rattle.schedule.specs.Jobs.{wait_lifted}
use Rattle.std.specs.Option.{option_map}

pub lifted_more :
    (ticket : ℕ) (xs ys : List (Option Job)) (i : ℕ) (o : Option Job) →
    i < length xs → i < length ys → ys ≡ map (option_map (wait_lifted ticket)) (take i xs) ++ drop i xs →
    o ≡ option_map (wait_lifted ticket) (get_or ys i None) →
    set ys i o ≡ map (option_map (wait_lifted ticket)) (take (i + 1) xs) ++ drop (i + 1) xs
lifted_more ticket xs ys i o = swept_more (option_map (wait_lifted ticket)) xs ys i None o

-- the same where the row holds a job
pub job_lifted_more :
    (ticket : ℕ) (xs ys : List (Option Job)) (i : ℕ) (before after : Job) →
    i < length xs → i < length ys → ys ≡ map (option_map (wait_lifted ticket)) (take i xs) ++ drop i xs →
    get_or ys i None ≡ Some before → after ≡ wait_lifted ticket before →
    set ys i (Some after) ≡ map (option_map (wait_lifted ticket)) (take (i + 1) xs) ++ drop (i + 1) xs
job_lifted_more ticket xs ys i before after h k s there e =
    lifted_more ticket xs ys i (Some after) h k s (ap Some e ∙ ap (option_map (wait_lifted ticket)) (sym there))
