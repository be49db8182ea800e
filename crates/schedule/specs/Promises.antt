-- What an answer says of the book after it, whatever the request.
use Rattle.std.specs.Prelude.{◌≡◌, ℕ, ◌≤◌, true, List, map, is_some, Some, None, Ok, Err, Option, Result, ◌≢◌}
use Rattle.schedule.specs.Books.{Book, size_over}
use Rattle.schedule.specs.declared.answer.Refusal.{Refusal}
use Rattle.schedule.specs.declared.answer.Refusal.TheVariants as refusal
use Rattle.schedule.specs.Answers.{Reply}
use Rattle.schedule.specs.declared.answer.NotGranted.TheVariants as not_granted
use Rattle.schedule.specs.declared.cell.CellRecord.{CellRecord}
use Rattle.schedule.specs.declared.job.Job.{Job}
use Rattle.schedule.specs.Jobs.{find, holds, job_in}
use Rattle.schedule.specs.Reachable.{Reachable}
use Rattle.schedule.specs.Verdicts.{May}
use Rattle.std.specs.Option.{option_map}
use Rattle.waiting.specs.declared.class.Class.{Class}

-- a refusal leaves the book and both rows as they were
abbrev pub RefusalKeeps : {C X : Type 0} → Reply X → Book C → Book C → Type 0
RefusalKeeps (Ok x) before after = Unit {0}
RefusalKeeps (Err (not_granted.Wait blocker)) before after = Unit {0}
RefusalKeeps (Err (not_granted.Rejected why)) before after = Unit {0}
RefusalKeeps (Err (not_granted.Refused why)) before after = after ≡ before

abbrev pub ErrorKeeps : {C X : Type 0} → Result X Refusal → Book C → Book C → Type 0
ErrorKeeps (Ok x) before after = Unit {0}
ErrorKeeps (Err why) before after = after ≡ before

-- the two marks of a cell, and of each
abbrev pub marks_of : CellRecord → ℕ × ℕ
marks_of r = (r.read_mark, r.write_mark)

abbrev pub marks : {C : Type 0} → Book C → List (ℕ × ℕ)
marks b = map marks_of b.state.cells

-- who a job is, whatever it waits for
abbrev pub identity : Job → ℕ × Class × ℕ × ℕ
identity j = (j.ticket, j.class, j.group, j.place)

-- the row of the job with this ticket
abbrev pub row_of : {C : Type 0} → Book C → ℕ → Option ℕ
row_of b ticket = find (holds ticket) b.state.jobs

-- the job with this ticket has closed, and no other; all marks and both rows are as they were
pub record ClosedAlone {C : Type 0} (ticket : ℕ) (before after : Book C) : Type 0 where
  pub was_open : is_some (row_of before ticket) ≡ true
  pub row_freed : (row : ℕ) → row_of before ticket ≡ Some row → job_in after.state.jobs row ≡ None
  pub others_open : (row : ℕ) → (row_of before ticket ≢ Some row) → option_map identity (job_in after.state.jobs row) ≡ option_map identity (job_in before.state.jobs row)
  pub same_marks : marks after ≡ marks before
  pub same_main : after.main ≡ before.main
  pub same_draft : after.draft ≡ before.draft

-- a rejection closes exactly that job and leaves all marks and both rows
abbrev pub RejectionCloses : {C X : Type 0} → ℕ → Reply X → Book C → Book C → Type 0
RejectionCloses ticket (Ok x) before after = Unit {0}
RejectionCloses ticket (Err (not_granted.Wait blocker)) before after = Unit {0}
RejectionCloses ticket (Err (not_granted.Rejected why)) before after = ClosedAlone ticket before after
RejectionCloses ticket (Err (not_granted.Refused why)) before after = Unit {0}

-- over any book that a fresh one can lead to, an open job's read or write gets 5 exactly when the cell number is not below
-- the least of the two rows' lengths and 256
pub record OutsideExactly {C X : Type 0} (may : May) (b : Book C) (ticket cell : ℕ) (r : Reply X) : Type 0 where
  pub outside : Reachable may b → is_some (row_of b ticket) ≡ true → size_over b.main b.draft ≤ cell → r ≡ Err (not_granted.Refused refusal.NoSuchCell)
  pub only : Reachable may b → r ≡ Err (not_granted.Refused refusal.NoSuchCell) → (is_some (row_of b ticket) ≡ true) × (size_over b.main b.draft ≤ cell)
