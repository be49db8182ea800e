-- The six requests on the scheduler's state: what each answers, and the state after it. A read is answered by the store
-- to read from; what the two stores hold comes in with a book.
use Rattle.std.specs.Prelude.{ℕ, ◌+◌, cond, List, length, is_some, Some, None, Ok, Err, Option, Result, nat_le}
use Rattle.schedule.specs.Cells.{record_of}
use Rattle.schedule.specs.Counting.{joined}
use Rattle.schedule.specs.declared.answer.Refusal.{Refusal}
use Rattle.schedule.specs.declared.answer.Refusal.TheVariants as refusal
use Rattle.schedule.specs.Answers.{Reply}
use Rattle.schedule.specs.declared.answer.NotGranted.{NotGranted}
use Rattle.schedule.specs.declared.answer.NotGranted.TheVariants as not_granted
use Rattle.schedule.specs.declared.counters.Closing.TheVariants as closing
use Rattle.schedule.specs.declared.job.Job.{Job}
use Rattle.schedule.specs.declared.job.Seated.{Seated}
use Rattle.schedule.specs.declared.job.Kind.{Kind}
use Rattle.schedule.specs.declared.job.Kind.TheVariants as kind
use Rattle.schedule.specs.declared.verdict.Obstacle.{Obstacle}
use Rattle.schedule.specs.declared.verdict.Source.{Source}
use Rattle.schedule.specs.declared.verdict.Source.TheVariants as source
use Rattle.schedule.specs.Verdicts.{May, Verdict, read_verdict, write_verdict}
use Rattle.schedule.specs.declared.verdict.Obstacle.TheVariants as obstacle
use Rattle.schedule.specs.Jobs.{find, for_another, holds, job_in, vacant}
use Rattle.schedule.specs.States.{State, beginning, closed, finished, reading, resizing, waiting, writing}
use Rattle.waiting.specs.declared.class.Class.{Class}
use Rattle.waiting.specs.Numbers.{class_of}

-- ---- begin: ticket, group and place ----

abbrev pub Begun : Type 0
Begun = Result (ℕ × ℕ × ℕ) Refusal

-- 3 where no row is free
abbrev pub begin_in : State → Class → Option ℕ → Begun × State
begin_in s class None = (Err refusal.BookFull, s)
begin_in s class (Some row) = (
  Ok ((joined s.counters).begun, (joined s.counters).group, (joined s.counters).members),
  beginning s class (joined s.counters) row,
)

-- 1 where there is no such class, 2 where a million tickets have been given
abbrev pub begin_with : State → Option Class → Begun × State
begin_with s None = (Err refusal.NoSuchClass, s)
begin_with s (Some class) =
    cond (nat_le 1000000 s.counters.begun) (Err refusal.TicketsSpent, s) (begin_in s class (find vacant s.jobs))

abbrev pub begin_step : State → ℕ → Begun × State
begin_step s class = begin_with s (class_of class)

-- ---- the job that asks ----

-- the open job with this ticket, in its row; 4 where the ticket is of no open job
abbrev pub seated_as : ℕ → Option Job → Result Seated Refusal
seated_as row None = Err refusal.NoOpenJob
seated_as row (Some j) = Ok (record { row = row; job = j })

abbrev pub seated_in : List (Option Job) → Option ℕ → Result Seated Refusal
seated_in rows None = Err refusal.NoOpenJob
seated_in rows (Some row) = seated_as row (job_in rows row)

abbrev pub seated : List (Option Job) → ℕ → Result Seated Refusal
seated rows ticket = seated_in rows (find (holds ticket) rows)

-- ---- read and write: what they share ----

-- 4 where the ticket is of no open job, 5 where the cell number is not below the number of records, 6 where the job waits
-- for another request; else the job in its row
abbrev pub admitted_as : ℕ → ℕ → Kind → Result Seated Refusal → Result Seated Refusal
admitted_as size cell k (Err why) = Err why
admitted_as size cell k (Ok p) =
    cond (nat_le size cell) (Err refusal.NoSuchCell) (cond (for_another p.job.wait k cell) (Err refusal.JobWaits) (Ok p))

abbrev pub admitted : ℕ → List (Option Job) → ℕ → ℕ → Kind → Result Seated Refusal
admitted size rows ticket cell k = admitted_as size cell k (seated rows ticket)

-- a read or a write that meets an obstacle: the job waits, or it is rejected and closes
abbrev pub hindered : State → ℕ → ℕ → Kind → ℕ → Obstacle → NotGranted × State
hindered s row ticket k cell (obstacle.Wait blocker) =
    (not_granted.Wait blocker, waiting s row (Some (record { kind = k; cell = cell; ticket = blocker })))
hindered s row ticket k cell (obstacle.Reject why) = (not_granted.Rejected why, closed s row ticket closing.Rejected)

-- ---- read ----

abbrev pub read_by : State → ℕ → ℕ → ℕ → ℕ → Verdict Source → Reply Source × State
read_by s row ticket group cell (Ok source.Main) = (Ok source.Main, reading s row cell group)
read_by s row ticket group cell (Ok source.Draft) = (Ok source.Draft, waiting s row None)
read_by s row ticket group cell (Err why) = (Err (hindered s row ticket kind.Read cell why).0, (hindered s row ticket kind.Read cell why).1)

abbrev pub read_on : May → State → ℕ → ℕ → Result Seated Refusal → Reply Source × State
read_on may s ticket cell (Err why) = (Err (not_granted.Refused why), s)
read_on may s ticket cell (Ok p) =
    read_by s p.row ticket p.job.group cell (read_verdict may s.jobs (record_of s.cells cell) p.row p.job)

abbrev pub read_step : May → State → ℕ → ℕ → Reply Source × State
read_step may s ticket cell = read_on may s ticket cell (admitted (length s.cells) s.jobs ticket cell kind.Read)

-- ---- write ----

abbrev pub write_by : State → ℕ → ℕ → ℕ → Verdict (Unit {0}) → Reply (Unit {0}) × State
write_by s row ticket cell (Ok u) = (Ok tt, writing s row cell)
write_by s row ticket cell (Err why) = (Err (hindered s row ticket kind.Write cell why).0, (hindered s row ticket kind.Write cell why).1)

abbrev pub write_on : May → State → ℕ → ℕ → Result Seated Refusal → Reply (Unit {0}) × State
write_on may s ticket cell (Err why) = (Err (not_granted.Refused why), s)
write_on may s ticket cell (Ok p) =
    write_by s p.row ticket cell (write_verdict may s.jobs (record_of s.cells cell) p.row p.job)

abbrev pub write_step : May → State → ℕ → ℕ → Reply (Unit {0}) × State
write_step may s ticket cell = write_on may s ticket cell (admitted (length s.cells) s.jobs ticket cell kind.Write)

-- ---- end ----

-- the job that ends, in its row; 4 where the ticket is of no open job, 6 where the job waits
abbrev pub ending_as : Result Seated Refusal → Result Seated Refusal
ending_as (Err why) = Err why
ending_as (Ok p) = cond (is_some p.job.wait) (Err refusal.JobWaits) (Ok p)

abbrev pub ending : List (Option Job) → ℕ → Result Seated Refusal
ending rows ticket = ending_as (seated rows ticket)

-- group and end number, which counts ended jobs from 1
abbrev pub Ended : Type 0
Ended = Result (ℕ × ℕ) Refusal

abbrev pub end_on : State → ℕ → Result Seated Refusal → Ended × State
end_on s ticket (Err why) = (Err why, s)
end_on s ticket (Ok p) = (Ok (p.job.group, s.counters.ended + 1), finished s p.row ticket p.job.group)

abbrev pub end_step : State → ℕ → Ended × State
end_step s ticket = end_on s ticket (ending s.jobs ticket)

-- ---- give up ----

abbrev pub give_up_in : State → ℕ → Option ℕ → Result (Unit {0}) Refusal × State
give_up_in s ticket None = (Err refusal.NoOpenJob, s)
give_up_in s ticket (Some row) = (Ok tt, closed s row ticket closing.GaveUp)

abbrev pub give_up_step : State → ℕ → Result (Unit {0}) Refusal × State
give_up_step s ticket = give_up_in s ticket (find (holds ticket) s.jobs)

-- ---- group size ----

-- 9 where it is 0 or above a million
abbrev pub group_size_step : State → ℕ → Result ℕ Refusal × State
group_size_step s size =
    cond (nat_le size 0) (Err refusal.NoSuchGroupSize, s) (cond (nat_le 1000001 size) (Err refusal.NoSuchGroupSize, s) (Ok size, resizing s size))
