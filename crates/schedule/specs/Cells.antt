-- The records of the cells, and how each request changes one record or all of them.
use Rattle.std.specs.Prelude.{ℕ, Bool, true, false, cond, List, [], map, replicate, Some, None, Option, ◌==◌, nat_lt, slice_index_or, slice_set}
use Rattle.schedule.specs.declared.cell.CellRecord.{CellRecord}

-- what a look past the last record finds
abbrev pub no_record : CellRecord
no_record = record { read_mark = 0; write_mark = 0; readers = []; writer = None }

abbrev pub record_of : List CellRecord → ℕ → CellRecord
record_of cells cell = slice_index_or cells cell no_record

-- the record of a cell that nobody has touched
abbrev pub fresh_record : CellRecord
fresh_record = record { read_mark = 0; write_mark = 0; readers = replicate 32 false; writer = None }

-- the writer is the job in this row
abbrev pub is_writer : Option ℕ → ℕ → Bool
is_writer None row = false
is_writer (Some w) row = w == row

-- the job in this row is a reader
abbrev pub is_reader : CellRecord → ℕ → Bool
is_reader r row = slice_index_or r.readers row false

-- a read of the main store is granted to the job in this row: it becomes a reader, and the read mark rises to its group
-- if it was lower
abbrev pub with_reader : CellRecord → ℕ → ℕ → CellRecord
with_reader r row group =
    record {
      read_mark = cond (nat_lt r.read_mark group) group r.read_mark;
      write_mark = r.write_mark;
      readers = slice_set r.readers row true;
      writer = r.writer;
    }

abbrev pub read_noted : List CellRecord → ℕ → ℕ → ℕ → List CellRecord
read_noted cells cell row group = slice_set cells cell (with_reader (record_of cells cell) row group)

-- a write is granted to the job in this row: it becomes the writer
abbrev pub with_writer : CellRecord → ℕ → CellRecord
with_writer r row = record { read_mark = r.read_mark; write_mark = r.write_mark; readers = r.readers; writer = Some row }

abbrev pub write_noted : List CellRecord → ℕ → ℕ → List CellRecord
write_noted cells cell row = slice_set cells cell (with_writer (record_of cells cell) row)

-- the writer, unless it is the job in this row
abbrev pub other_writer : ℕ → Option ℕ → Option ℕ
other_writer row None = None
other_writer row (Some w) = cond (w == row) None (Some w)

-- the job in this row stops being a reader or the writer
abbrev pub released : ℕ → CellRecord → CellRecord
released row r =
    record { read_mark = r.read_mark; write_mark = r.write_mark; readers = slice_set r.readers row false; writer = other_writer row r.writer }

abbrev pub all_released : List CellRecord → ℕ → List CellRecord
all_released cells row = map (released row) cells

-- the write of the job in this row, of this group, is kept: where it is the writer, the write mark becomes its group
abbrev pub stamped : ℕ → ℕ → CellRecord → CellRecord
stamped row group r =
    record {
      read_mark = r.read_mark;
      write_mark = cond (is_writer r.writer row) group r.write_mark;
      readers = r.readers;
      writer = r.writer;
    }

abbrev pub all_stamped : List CellRecord → ℕ → ℕ → List CellRecord
all_stamped cells row group = map (stamped row group) cells
