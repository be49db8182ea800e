-- A book: the rows of its two stores beside the scheduler's state. And the six requests on a book.
use Rattle.std.specs.Prelude.{ℕ, zero, suc, min, cond, List, [], ◌∷◌, length, Some, None, Ok, Err, Option, Result, slice_set}
use Rattle.schedule.specs.Cells.{is_writer}
use Rattle.schedule.specs.declared.answer.Refusal.{Refusal}
use Rattle.schedule.specs.declared.answer.Refusal.TheVariants as refusal
use Rattle.schedule.specs.Answers.{Reply}
use Rattle.schedule.specs.declared.answer.NotGranted.TheVariants as not_granted
use Rattle.schedule.specs.declared.cell.CellRecord.{CellRecord}
use Rattle.schedule.specs.declared.job.Seated.{Seated}
use Rattle.schedule.specs.declared.verdict.Source.{Source}
use Rattle.schedule.specs.declared.verdict.Source.TheVariants as source
use Rattle.schedule.specs.States.{State, fresh_state}
use Rattle.schedule.specs.Steps.{Begun, Ended, begin_step, end_step, ending, give_up_step, group_size_step, read_step, write_step}
use Rattle.schedule.specs.Verdicts.{May}
use Rattle.std.specs.List.{slice_get}

-- the main store's row, the draft store's row, the state
pub record Book (C : Type 0) : Type 0 where
  pub main : List C
  pub draft : List C
  pub state : State

abbrev pub book : {C : Type 0} → List C → List C → State → Book C
book main draft s = record { main = main; draft = draft; state = s }

-- the least of the two rows' lengths and 256
abbrev pub size_over : {C : Type 0} → List C → List C → ℕ
size_over main draft = min (min (length main) (length draft)) 256

abbrev pub fresh_book : {C : Type 0} → List C → List C → Book C
fresh_book main draft = book main draft (fresh_state (size_over main draft))

-- ---- begin, give up, group size: both rows stay ----

abbrev pub with_state : {C X : Type 0} → Book C → X × State → X × Book C
with_state b p = (p.0, book b.main b.draft p.1)

abbrev pub book_begin : {C : Type 0} → Book C → ℕ → Begun × Book C
book_begin b class = with_state b (begin_step b.state class)

abbrev pub book_give_up : {C : Type 0} → Book C → ℕ → Result (Unit {0}) Refusal × Book C
book_give_up b ticket = with_state b (give_up_step b.state ticket)

abbrev pub book_group_size : {C : Type 0} → Book C → ℕ → Result ℕ Refusal × Book C
book_group_size b size = with_state b (group_size_step b.state size)

-- ---- read: both rows stay; a grant gives the cell of the store that the state names ----

abbrev pub granted_cell : {C : Type 0} → Option C → Reply C
granted_cell None = Err (not_granted.Refused refusal.NoSuchCell)
granted_cell (Some c) = Ok c

abbrev pub fetched : {C : Type 0} → List C → List C → ℕ → Reply Source → Reply C
fetched main draft cell (Ok source.Main) = granted_cell (slice_get main cell)
fetched main draft cell (Ok source.Draft) = granted_cell (slice_get draft cell)
fetched main draft cell (Err why) = Err why

abbrev pub read_as : {C : Type 0} → Book C → ℕ → Reply Source × State → Reply C × Book C
read_as b cell p = (fetched b.main b.draft cell p.0, book b.main b.draft p.1)

abbrev pub book_read : {C : Type 0} → May → Book C → ℕ → ℕ → Reply C × Book C
book_read may b ticket cell = read_as b cell (read_step may b.state ticket cell)

-- ---- write: a grant puts the new cell into the draft row ----

abbrev pub drafted : {C : Type 0} → List C → ℕ → C → Reply (Unit {0}) → List C
drafted draft cell c (Ok u) = slice_set draft cell c
drafted draft cell c (Err why) = draft

abbrev pub write_as : {C : Type 0} → Book C → ℕ → C → Reply (Unit {0}) × State → Reply (Unit {0}) × Book C
write_as b cell c p = (p.0, book b.main (drafted b.draft cell c p.0) p.1)

abbrev pub book_write : {C : Type 0} → May → Book C → ℕ → ℕ → C → Reply (Unit {0}) × Book C
book_write may b ticket cell c = write_as b cell c (write_step may b.state ticket cell)

-- ---- end: group and end number ----

-- each of the first n cells whose writer is the job in this row takes the draft cell
abbrev pub carried : {C : Type 0} → ℕ → List CellRecord → ℕ → List C → List C → List C
carried zero cells row main draft = main
carried (suc n) [] row main draft = main
carried (suc n) (r ∷ cells) row [] draft = []
carried (suc n) (r ∷ cells) row (m ∷ main) [] = m ∷ main
carried (suc n) (r ∷ cells) row (m ∷ main) (d ∷ draft) = cond (is_writer r.writer row) d m ∷ carried n cells row main draft

-- the main row after an end of this job, in this row, if it is not refused
abbrev pub kept : {C : Type 0} → Book C → Result Seated Refusal → List C
kept b (Err why) = b.main
kept b (Ok p) = carried (length b.state.cells) b.state.cells p.row b.main b.draft

abbrev pub book_end : {C : Type 0} → Book C → ℕ → Ended × Book C
book_end b ticket = ((end_step b.state ticket).0, book (kept b (ending b.state.jobs ticket)) b.draft (end_step b.state ticket).1)
