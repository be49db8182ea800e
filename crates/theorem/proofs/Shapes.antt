-- The sizes of a state's tables, and when two views are the same.
use Rattle.std.proofs.Common.{◌≡◌, ℕ, ◌<◌, length}
use Rattle.schedule.specs.Cells.{record_of}
use Rattle.schedule.specs.States.{State}
use Rattle.theorem.proofs.Invariant.{View}

-- there are 32 rows of jobs, and each record has a flag for each
pub record Shape (s : State) : Type 0 where
  pub rows : length s.jobs ≡ 32
  pub readers : (cell : ℕ) → cell < length s.cells → length (record_of s.cells cell).readers ≡ 32

-- two views that answer alike are the same
pub alike : (V W : View) → ((row : ℕ) → V.job row ≡ W.job row) → ((cell : ℕ) → V.read_mark cell ≡ W.read_mark cell)
    → ((cell : ℕ) → V.write_mark cell ≡ W.write_mark cell) → ((cell : ℕ) → V.writer cell ≡ W.writer cell)
    → ((cell row : ℕ) → V.reader cell row ≡ W.reader cell row) → V.group ≡ W.group → V.begun ≡ W.begun → V ≡ W
alike V W job read_mark write_mark writer reader group begun = λ x.
    record {
      job = λ row. job row x;
      read_mark = λ cell. read_mark cell x;
      write_mark = λ cell. write_mark cell x;
      writer = λ cell. writer cell x;
      reader = λ cell row. reader cell row x;
      group = group x;
      begun = begun x;
    }
