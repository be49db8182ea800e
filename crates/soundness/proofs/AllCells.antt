-- All records stay sound, under each change of a ledger.
use Rattle.std.proofs.Common.{◌≡◌, ℕ, List, set, replicate, Some, None, Option, ◌∙◌}
use Rattle.schedule.specs.Cells.{all_released, all_stamped, fresh_record, no_record, read_noted, record_of, released, stamped, with_reader, with_writer, write_noted}
use Rattle.schedule.specs.declared.cell.CellRecord.{CellRecord}
use Rattle.schedule.specs.declared.job.Job.{Job}
use Rattle.schedule.specs.declared.job.Wait.{Wait}
use Rattle.schedule.specs.Jobs.{closed_rows, find, vacant, wait_set}
use Rattle.soundness.proofs.Groups.{group_closed, group_seated, group_waiting}
use Rattle.soundness.proofs.OneCell.{cell_sound_grows, cell_sound_read, cell_sound_released, cell_sound_stamped, cell_sound_written, each_map, each_same, each_set, fresh_record_sound, no_record_sound}
use Rattle.soundness.specs.Soundness.{CellSound, CellsSound, ReadersEarlier, WriterLater, group_in}

-- no cell is touched
pub cells_sound_fresh : (rows : List (Option Job)) (n : ℕ) → CellsSound rows (replicate n fresh_record)
cells_sound_fresh rows n k = each_same (CellSound (group_in rows)) no_record fresh_record n k (fresh_record_sound (group_in rows)) (no_record_sound (group_in rows))

module _ (rows : List (Option Job)) (cells : List CellRecord) (row : ℕ) (sound : CellsSound rows cells) where
  -- a job begins in a free row
  pub cells_sound_begun : (j : Job) → find vacant rows ≡ Some row → CellsSound (set rows row (Some j)) cells
  cells_sound_begun j free k = cell_sound_grows (sound k) _ (λ n g h. group_seated rows row n j g free h)

  -- a job waits so, or no more
  pub cells_sound_waiting : (w : Option Wait) → CellsSound (wait_set rows row w) cells
  cells_sound_waiting w k = cell_sound_grows (sound k) _ (λ n g h. group_waiting rows row n w ∙ h)

  -- a job closes
  pub cells_sound_closed : (ticket : ℕ) → CellsSound (closed_rows rows row ticket) (all_released cells row)
  cells_sound_closed ticket =
      let after = group_in (closed_rows rows row ticket) in
      each_map (CellSound (group_in rows)) (CellSound after) (released row) no_record cells sound
      (λ r c. cell_sound_released c after row (λ k g n h. group_closed rows row k ticket g n h)) (no_record_sound after)

  -- the writes of a job are kept
  pub cells_sound_stamped : (group : ℕ) → CellsSound rows (all_stamped cells row group)
  cells_sound_stamped group =
      let groups = group_in rows in
      each_map (CellSound groups) (CellSound groups) (stamped row group) no_record cells sound (λ r c. cell_sound_stamped c row group) (no_record_sound groups)

module _ (rows : List (Option Job)) (cells : List CellRecord) (row : ℕ) (sound : CellsSound rows cells) where
  -- a job ends: its writes are kept, then it closes
  pub cells_sound_ended : (ticket group : ℕ) → CellsSound (closed_rows rows row ticket) (all_released (all_stamped cells row group) row)
  cells_sound_ended ticket group = cells_sound_closed rows (all_stamped cells row group) row (cells_sound_stamped rows cells row sound group) ticket

  module _ (cell group : ℕ) (of_group : group_in rows row ≡ Some group) where
    -- a read is granted
    pub cells_sound_read : WriterLater (group_in rows) (record_of cells cell) row group → CellsSound (wait_set rows row None) (read_noted cells cell row group)
    cells_sound_read later =
        cells_sound_waiting rows (read_noted cells cell row group) row
        (each_set (CellSound (group_in rows)) no_record (with_reader (record_of cells cell) row group) cells cell sound
        (cell_sound_read (sound cell) row group of_group later)) None

    -- a write is granted
    pub cells_sound_written : ReadersEarlier (group_in rows) (record_of cells cell) row group → CellsSound (wait_set rows row None) (write_noted cells cell row)
    cells_sound_written earlier =
        cells_sound_waiting rows (write_noted cells cell row) row
        (each_set (CellSound (group_in rows)) no_record (with_writer (record_of cells cell) row) cells cell sound
        (cell_sound_written (sound cell) row group of_group earlier)) None
