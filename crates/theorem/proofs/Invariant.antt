-- What holds of a book after every run: the invariant.
use Rattle.std.proofs.Common.{◌≡◌, ℕ, ◌<◌, ◌≤◌, Bool, true, ◌&&◌, ◌||◌, eqb, ltb, ◌⊎◌, List, [], ◌∷◌, length, Some, None, Option}
use Rattle.schedule.specs.Cells.{is_reader, record_of}
use Rattle.schedule.specs.declared.job.Job.{Job}
use Rattle.schedule.specs.Jobs.{job_in, party, with_wait}
use Rattle.schedule.specs.States.{State}
use Rattle.schedule.specs.Verdicts.{May}
use Rattle.std.specs.List.{slice_get}
use Rattle.std.specs.Option.{option_map}
use Rattle.theorem.proofs.Executions.{ReadsRight, row_after, touches}
use Rattle.theorem.specs.Histories.{Effect, accesses, accesses_of, ended_in, ends, group_of, is_open, latest_group, leaves, nothing, opens, serial_order, serial_up_to, wait_of, waits}

-- What the proof sees of a state, in functions of the row of a job and the number of a cell: the jobs without their waits,
-- the marks, the writer and the readers of a cell, and two of the counters.
pub record View : Type 0 where
  pub job : ℕ → Option Job
  pub read_mark : ℕ → ℕ
  pub write_mark : ℕ → ℕ
  pub writer : ℕ → Option ℕ
  pub reader : ℕ → ℕ → Bool
  pub group : ℕ
  pub begun : ℕ

-- a job without its wait
abbrev pub bare : Option Job → Option Job
bare o = option_map (with_wait None) o

abbrev pub view : State → View
view s =
    record {
      job = λ row. bare (job_in s.jobs row);
      read_mark = λ cell. (record_of s.cells cell).read_mark;
      write_mark = λ cell. (record_of s.cells cell).write_mark;
      writer = λ cell. (record_of s.cells cell).writer;
      reader = λ cell row. is_reader (record_of s.cells cell) row;
      group = s.counters.group;
      begun = s.counters.begun;
    }

-- the order down which waits go: b's group is earlier, or it is the same and the rule lets a wait for b
abbrev pub below : May → Job → Job → Bool
below may a b = ltb b.group a.group || (eqb b.group a.group && may (party a) (party b))

-- the row with which the serial execution of the groups up to g finishes
abbrev pub serial_row : {C : Type 0} → List C → List (Effect C) → ℕ → List C
serial_row first E g = row_after first (serial_up_to E g)

-- what holds of a state by itself
pub record Sound (V : View) : Type 0 where
  -- open jobs lie in the 32 rows, each with a ticket of its own that has been given
  pub few : (i : ℕ) (j : Job) → V.job i ≡ Some j → i < 32
  pub apart : (i k : ℕ) (j o : Job) → V.job i ≡ Some j → V.job k ≡ Some o → j.ticket ≡ o.ticket → i ≡ k
  pub counted : (i : ℕ) (j : Job) → V.job i ≡ Some j → j.ticket ≤ V.begun
  -- readers and writers are open jobs
  pub writer_open : (cell i : ℕ) → V.writer cell ≡ Some i → V.job i ≡ None → ⊥
  pub reader_open : (cell i : ℕ) → V.reader cell i ≡ true → V.job i ≡ None → ⊥
  -- no reader's group is above the read mark, no mark is above the writer's group, other readers are of earlier groups
  pub reader_mark : (cell i : ℕ) (j : Job) → V.job i ≡ Some j → V.reader cell i ≡ true → j.group ≤ V.read_mark cell
  pub above_reads : (cell i : ℕ) (j : Job) → V.job i ≡ Some j → V.writer cell ≡ Some i → V.read_mark cell ≤ j.group
  pub above_writes : (cell i : ℕ) (j : Job) → V.job i ≡ Some j → V.writer cell ≡ Some i → V.write_mark cell ≤ j.group
  pub writer_last : (cell i k : ℕ) (j o : Job) → V.job i ≡ Some j → V.writer cell ≡ Some i → V.job k ≡ Some o → (k ≡ i → ⊥)
      → V.reader cell k ≡ true → o.group < j.group

-- each wait was told to an open job, and named a job that was open then
abbrev pub WaitsForOpen : {C : Type 0} → List (Effect C) → Type 0
WaitsForOpen [] = Unit {0}
WaitsForOpen (opens u group ∷ h) = WaitsForOpen h
WaitsForOpen (accesses u a ∷ h) = WaitsForOpen h
WaitsForOpen (waits u blocker ∷ h) = (is_open h u ≡ true) × (is_open h blocker ≡ true) × WaitsForOpen h
WaitsForOpen (ends u ∷ h) = WaitsForOpen h
WaitsForOpen (leaves u how ∷ h) = WaitsForOpen h
WaitsForOpen (nothing ∷ h) = WaitsForOpen h

-- what ties a state and its two rows to the effects E that led there from the main row `first`
pub record Invariant {C : Type 0} (may : May) (first : List C) (E : List (Effect C)) (V : View) (main draft : List C) : Type 0 where
  pub sound : Sound V
  -- the open jobs and their groups
  pub has_row : (t : ℕ) → is_open E t ≡ true → (i : ℕ) × (j : Job) × (V.job i ≡ Some j) × (j.ticket ≡ t)
  pub row_open : (i : ℕ) (j : Job) → V.job i ≡ Some j → is_open E j.ticket ≡ true
  pub told_group : (i : ℕ) (j : Job) → V.job i ≡ Some j → group_of E j.ticket ≡ j.group
  pub in_latest : (i : ℕ) (j : Job) → V.job i ≡ Some j → j.group ≤ latest_group E
  pub latest_low : latest_group E ≤ V.group
  -- nothing is told of tickets and groups to come
  pub untold : (t : ℕ) → V.begun < t → accesses_of E t ≡ []
  pub waits_told : (t u : ℕ) → wait_of E t ≡ Some u → (t ≤ V.begun) × (u ≤ V.begun)
  pub none_later : (g : ℕ) → latest_group E < g → ended_in E g ≡ []
  -- each wait was for an open job, and each among open jobs goes down
  pub waits_open : WaitsForOpen E
  pub waits_down : (i k : ℕ) (j o : Job) → V.job i ≡ Some j → V.job k ≡ Some o → wait_of E j.ticket ≡ Some o.ticket
      → below may j o ≡ true
  -- Whatever row a job's accesses are carried out on, they leave the draft cell where it is the writer, and the row's own
  -- cell elsewhere. Who touched a cell is its writer or a reader.
  pub writer_inside : (cell i : ℕ) → V.writer cell ≡ Some i → cell < length first
  pub writer_in_draft : (cell i : ℕ) → V.writer cell ≡ Some i → cell < length draft
  pub written : (cell i : ℕ) (j : Job) → V.job i ≡ Some j → V.writer cell ≡ Some i → (row : List C) → cell < length row
      → slice_get (row_after row (accesses_of E j.ticket)) cell ≡ slice_get draft cell
  pub unwritten : (cell i : ℕ) (j : Job) → V.job i ≡ Some j → (V.writer cell ≡ Some i → ⊥) → (row : List C)
      → slice_get (row_after row (accesses_of E j.ticket)) cell ≡ slice_get row cell
  pub touched : (cell i : ℕ) (j : Job) → V.job i ≡ Some j → touches (accesses_of E j.ticket) cell ≡ true
      → (V.writer cell ≡ Some i) ⊎ (V.reader cell i ≡ true)
  -- the marks cover the ended jobs
  pub group_touched : (cell g : ℕ) → touches (ended_in E g) cell ≡ true → (g ≤ V.read_mark cell) ⊎ (g ≤ V.write_mark cell)
  pub group_wrote : (cell g : ℕ) → V.write_mark cell < g → (row : List C) → slice_get (row_after row (ended_in E g)) cell ≡ slice_get row cell
  -- the serial execution of the ended jobs finishes with the main row, and its reads are right; so would be the reads of
  -- each open job if it ended now
  pub main_length : length main ≡ length first
  pub main_is : row_after first (serial_order E) ≡ main
  pub serial_right : (g : ℕ) → ReadsRight first (serial_up_to E g)
  pub job_right : (i : ℕ) (j : Job) → V.job i ≡ Some j → ReadsRight (serial_row first E j.group) (accesses_of E j.ticket)
