-- The scheduler's state: the rows of jobs, the records of the cells, the counters. And its changes, each told whole.
use Rattle.std.specs.Prelude.{ℕ, List, replicate, Some, None, Option, slice_set}
use Rattle.schedule.specs.Cells.{all_released, all_stamped, fresh_record, read_noted, write_noted}
use Rattle.schedule.specs.Counting.{fresh_counters, left, resized}
use Rattle.schedule.specs.declared.cell.CellRecord.{CellRecord}
use Rattle.schedule.specs.declared.counters.Closing.{Closing}
use Rattle.schedule.specs.declared.counters.Closing.TheVariants as closing
use Rattle.schedule.specs.declared.counters.Counters.{Counters}
use Rattle.schedule.specs.declared.counters.Report.{Report}
use Rattle.schedule.specs.declared.job.Job.{Job}
use Rattle.schedule.specs.declared.job.Wait.{Wait}
use Rattle.schedule.specs.Jobs.{closed_rows, open_count, wait_set}
use Rattle.waiting.specs.declared.class.Class.{Class}

pub record State : Type 0 where
  pub jobs : List (Option Job)
  pub cells : List CellRecord
  pub counters : Counters

-- no job is open, and no cell is touched
abbrev pub fresh_state : ℕ → State
fresh_state size = record { jobs = replicate 32 None; cells = replicate size fresh_record; counters = fresh_counters }

-- a job of this class begins in this row, with the counters as they are once it has joined
abbrev pub beginning : State → Class → Counters → ℕ → State
beginning s class n row =
    record {
      jobs = slice_set s.jobs row (Some (record { ticket = n.begun; class = class; group = n.group; place = n.members; wait = None }));
      cells = s.cells;
      counters = n;
    }

-- the job in this row waits so, or not at all
abbrev pub waiting : State → ℕ → Option Wait → State
waiting s row w = record { jobs = wait_set s.jobs row w; cells = s.cells; counters = s.counters }

-- the job in this row, of this group, is granted a read of the cell from the main store, and waits no more
abbrev pub reading : State → ℕ → ℕ → ℕ → State
reading s row cell group = record { jobs = wait_set s.jobs row None; cells = read_noted s.cells cell row group; counters = s.counters }

-- the job in this row is granted a write of the cell, and waits no more
abbrev pub writing : State → ℕ → ℕ → State
writing s row cell = record { jobs = wait_set s.jobs row None; cells = write_noted s.cells cell row; counters = s.counters }

-- the job in this row, with this ticket, closes
abbrev pub closed : State → ℕ → ℕ → Closing → State
closed s row ticket how = record { jobs = closed_rows s.jobs row ticket; cells = all_released s.cells row; counters = left s.counters how }

-- the writes of the job in this row, of this group, are kept
abbrev pub stamping : State → ℕ → ℕ → State
stamping s row group = record { jobs = s.jobs; cells = all_stamped s.cells row group; counters = s.counters }

-- the job in this row, with this ticket and of this group, ends
abbrev pub finished : State → ℕ → ℕ → ℕ → State
finished s row ticket group = closed (stamping s row group) row ticket closing.Ended

-- another group size is in force; no job changes its group
abbrev pub resizing : State → ℕ → State
resizing s size = record { jobs = s.jobs; cells = s.cells; counters = resized s.counters size }

-- the figures that the steps count; open is the number of open jobs
abbrev pub report_of : State → Report
report_of s =
    record {
      begun = s.counters.begun;
      ended = s.counters.ended;
      given_up = s.counters.given_up;
      rejected = s.counters.rejected;
      «open» = open_count s.jobs;
    }
