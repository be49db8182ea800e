-- What the rules say of a read or a write that is not refused: granted, wait, or rejected.
use Rattle.std.specs.Prelude.{ℕ, suc, min, max, Bool, true, false, cond, List, [], ◌∷◌, Some, None, Option, ◌==◌, nat_lt, Ok, Err, Result}
use Rattle.schedule.specs.Cells.{is_reader, is_writer}
use Rattle.schedule.specs.declared.answer.Rejection.TheVariants as rejection
use Rattle.schedule.specs.declared.cell.CellRecord.{CellRecord}
use Rattle.schedule.specs.declared.job.Job.{Job}
use Rattle.schedule.specs.declared.verdict.Blockers.{Blockers}
use Rattle.schedule.specs.declared.verdict.Source.{Source}
use Rattle.schedule.specs.declared.verdict.Source.TheVariants as source
use Rattle.schedule.specs.declared.verdict.Obstacle.{Obstacle}
use Rattle.schedule.specs.declared.verdict.Obstacle.TheVariants as obstacle
use Rattle.schedule.specs.Jobs.{job_in, party}
use Rattle.waiting.specs.declared.party.Party.{Party}

-- a waiting rule: may the first party wait for the second
abbrev pub May : Type 0
May = Party → Party → Bool

abbrev pub writer_job : List (Option Job) → Option ℕ → Option Job
writer_job rows None = None
writer_job rows (Some w) = job_in rows w

-- what the rules say: an X where the request is to be granted
abbrev pub Verdict : Type 0 → Type 0
Verdict X = Result X Obstacle

-- ---- read ----

-- a read, where this job is the writer: of a later group it does not block; of an earlier group the reader waits for it;
-- of the same group the waiting rule decides
abbrev pub past_writer : May → Job → Option Job → Verdict Source
past_writer may j None = Ok source.Main
past_writer may j (Some w) =
    cond (nat_lt j.group w.group) (Ok source.Main)
    (cond (nat_lt w.group j.group) (Err (obstacle.Wait w.ticket))
    (cond (may (party j) (party w)) (Err (obstacle.Wait w.ticket)) (Err (obstacle.Reject (rejection.MayNotWait w.ticket)))))

-- the read of the job j in this row, of a cell with this record
abbrev pub read_verdict : May → List (Option Job) → CellRecord → ℕ → Job → Verdict Source
read_verdict may rows r row j =
    cond (is_writer r.writer row) (Ok source.Draft)
    (cond (nat_lt j.group r.write_mark) (Err (obstacle.Reject (rejection.TooLate r.write_mark)))
    (past_writer may j (writer_job rows r.writer)))

-- ---- write ----

-- the largest of the read mark, the write mark and the writer's group
abbrev pub group_or_zero : Option Job → ℕ
group_or_zero None = 0
group_or_zero (Some j) = j.group

abbrev pub top_mark : List (Option Job) → CellRecord → ℕ
top_mark rows r = max (max r.read_mark r.write_mark) (group_or_zero (writer_job rows r.writer))

-- the job o in row i blocks a write of the job j in this row: it is another job, and the writer or a reader of the same group
abbrev pub blocks : CellRecord → ℕ → Job → ℕ → Job → Bool
blocks r row j i o = cond (i == row) false (cond (is_writer r.writer i) true (cond (is_reader r i) (o.group == j.group) false))

-- the lower of a known ticket, if any, and another
abbrev pub lower : Option ℕ → ℕ → Option ℕ
lower None ticket = Some ticket
lower (Some t) ticket = Some (min t ticket)

-- a blocker of the same group for which the rule forbids the job j to wait is forbidden
abbrev pub forbidding : May → Job → Job → Option ℕ → Option ℕ
forbidding may j o known = cond (o.group == j.group) (cond (may (party j) (party o)) known (lower known o.ticket)) known

-- the blockers known so far, and what lies in row i
abbrev pub with_row : May → CellRecord → ℕ → Job → ℕ → Option Job → Blockers → Blockers
with_row may r row j i None known = known
with_row may r row j i (Some o) known =
    cond (blocks r row j i o) (record { lowest = lower known.lowest o.ticket; forbidden = forbidding may j o known.forbidden }) known

-- the blockers known so far, and those in the rows from row i on
abbrev pub gathered : May → CellRecord → ℕ → Job → ℕ → List (Option Job) → Blockers → Blockers
gathered may r row j i [] known = known
gathered may r row j i (o ∷ rows) known = gathered may r row j (suc i) rows (with_row may r row j i o known)

abbrev pub no_blockers : Blockers
no_blockers = record { lowest = None; forbidden = None }

abbrev pub unless_blocked : Option ℕ → Verdict (Unit {0})
unless_blocked None = Ok tt
unless_blocked (Some ticket) = Err (obstacle.Wait ticket)

-- rejected for the lowest forbidden ticket, else a wait for the lowest ticket, else granted
abbrev pub unless_forbidden : Option ℕ → Option ℕ → Verdict (Unit {0})
unless_forbidden None lowest = unless_blocked lowest
unless_forbidden (Some ticket) lowest = Err (obstacle.Reject (rejection.MayNotWait ticket))

abbrev pub past_blockers : Blockers → Verdict (Unit {0})
past_blockers b = unless_forbidden b.forbidden b.lowest

-- the write of the job j in this row, to a cell with this record
abbrev pub write_verdict : May → List (Option Job) → CellRecord → ℕ → Job → Verdict (Unit {0})
write_verdict may rows r row j =
    cond (nat_lt j.group (top_mark rows r)) (Err (obstacle.Reject (rejection.TooLate (top_mark rows r))))
    (past_blockers (gathered may r row j 0 rows no_blockers))
