-- The rows of jobs: how a job is found, and how rows change. A row is free where there is no job.
use Rattle.std.specs.Prelude.{◌≡◌, ℕ, suc, ◌+◌, Bool, true, false, cond, not, List, [], ◌∷◌, map, is_some, Some, None, Option, ◌==◌, slice_index_or, slice_set}
use Rattle.schedule.specs.declared.job.Job.{Job}
use Rattle.schedule.specs.declared.job.Kind.{Kind}
use Rattle.schedule.specs.declared.job.Kind.TheVariants as kind
use Rattle.schedule.specs.declared.job.Seated.{Seated}
use Rattle.schedule.specs.declared.job.Wait.{Wait}
use Rattle.std.specs.Option.{option_map}
use Rattle.waiting.specs.declared.party.Party.{Party}

-- the job as a waiting rule sees it
abbrev pub party : Job → Party
party j = record { class = j.class; ticket = j.ticket }

-- the number of the first element that passes the test
abbrev pub find : {X : Type 0} → (X → Bool) → List X → Option ℕ
find p [] = None
find p (x ∷ xs) = cond (p x) (Some 0) (option_map (λ n. suc n) (find p xs))

-- the row holds the job with this ticket
abbrev pub holds : ℕ → Option Job → Bool
holds ticket None = false
holds ticket (Some j) = j.ticket == ticket

abbrev pub vacant : Option Job → Bool
vacant o = not (is_some o)

-- the job in a row
abbrev pub job_in : List (Option Job) → ℕ → Option Job
job_in rows row = slice_index_or rows row None

-- the open job with this ticket, in its row
pub record SeatedIn (rows : List (Option Job)) (ticket : ℕ) (p : Seated) : Type 0 where
  pub row_found : find (holds ticket) rows ≡ Some p.row
  pub job_there : job_in rows p.row ≡ Some p.job

-- how many jobs are open
abbrev pub open_count : List (Option Job) → ℕ
open_count [] = 0
open_count (o ∷ rows) = cond (is_some o) 1 0 + open_count rows

-- ---- waits ----

abbrev pub same_kind : Kind → Kind → Bool
same_kind kind.Read kind.Read = true
same_kind kind.Read kind.Write = false
same_kind kind.Write kind.Read = false
same_kind kind.Write kind.Write = true

-- there is a wait, and it is for another request than this: of another kind or for another cell number
abbrev pub for_another : Option Wait → Kind → ℕ → Bool
for_another None k cell = false
for_another (Some w) k cell = cond (same_kind w.kind k) (not (w.cell == cell)) true

abbrev pub with_wait : Option Wait → Job → Job
with_wait w j = record { ticket = j.ticket; class = j.class; group = j.group; place = j.place; wait = w }

-- the job in this row waits so, or not at all
abbrev pub wait_set : List (Option Job) → ℕ → Option Wait → List (Option Job)
wait_set rows row w = slice_set rows row (option_map (with_wait w) (job_in rows row))

-- a wait, unless it names this ticket
abbrev pub unless_for : ℕ → Option Wait → Option Wait
unless_for ticket None = None
unless_for ticket (Some w) = cond (w.ticket == ticket) None (Some w)

-- the job, waiting no more for this ticket
abbrev pub wait_lifted : ℕ → Job → Job
wait_lifted ticket j = with_wait (unless_for ticket j.wait) j

-- the job in this row, with this ticket, closes: all waits that name it are taken off, and its row is free
abbrev pub closed_rows : List (Option Job) → ℕ → ℕ → List (Option Job)
closed_rows rows row ticket = slice_set (map (option_map (wait_lifted ticket)) rows) row None
