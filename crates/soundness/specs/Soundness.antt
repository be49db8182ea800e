-- What the jobs, the cells' records and the counters of a ledger agree in.
use Rattle.std.specs.Prelude.{◌≡◌, ℕ, ◌+◌, ◌<◌, ◌≤◌, true, List, length, Some, Option, ◌≢◌}
use Rattle.schedule.specs.Cells.{is_reader, record_of}
use Rattle.schedule.specs.declared.cell.CellRecord.{CellRecord}
use Rattle.schedule.specs.declared.counters.Counters.{Counters}
use Rattle.schedule.specs.declared.job.Job.{Job}
use Rattle.schedule.specs.Jobs.{job_in, open_count}
use Rattle.schedule.specs.States.{State}
use Rattle.std.specs.Option.{option_map}

-- the group of the open job in a row
abbrev pub group_in : List (Option Job) → ℕ → Option ℕ
group_in rows row = option_map (λ j. j.group) (job_in rows row)

-- the job in row k is a reader of the cell with this record
abbrev pub Reads : CellRecord → ℕ → Type 0
Reads r k = is_reader r k ≡ true

-- Over the groups of the open jobs by row: every reader of the cell is an open job whose group is at most the read mark;
-- the writer is an open job; each reader other than the writer is of an earlier group than the writer.
pub record CellSound (group_at : ℕ → Option ℕ) (r : CellRecord) : Type 0 where
  pub readers_open : (k : ℕ) → Reads r k → (g : ℕ) × (group_at k ≡ Some g) × (g ≤ r.read_mark)
  pub writer_open : (w : ℕ) → r.writer ≡ Some w → (g : ℕ) × (group_at w ≡ Some g)
  pub readers_earlier : (w k g h : ℕ) → r.writer ≡ Some w → Reads r k → (k ≢ w) → group_at k ≡ Some g → group_at w ≡ Some h → g < h

-- every cell is sound
abbrev pub CellsSound : List (Option Job) → List CellRecord → Type 0
CellsSound rows cells = (cell : ℕ) → CellSound (group_in rows) (record_of cells cell)

-- the counters keep their bounds
abbrev pub CountsBounded : Counters → Type 0
CountsBounded n = (n.begun ≤ 1000000) × (n.group ≤ n.begun + 1) × (n.members ≤ n.begun)

-- a group takes at least one job
abbrev pub GroupSizeBounded : Counters → Type 0
GroupSizeBounded n = (1 ≤ n.group_size) × (n.group_size ≤ 1000000)

-- each job that has begun is counted once as ended, given up, rejected or open
abbrev pub AllCounted : List (Option Job) → Counters → Type 0
AllCounted rows n = n.begun ≡ n.ended + n.given_up + n.rejected + open_count rows

-- the counters keep their bounds and agree with the rows
abbrev pub CountersSound : List (Option Job) → Counters → Type 0
CountersSound rows n = CountsBounded n × GroupSizeBounded n × AllCounted rows n

-- there are at most 32 rows of jobs, and the jobs, the cells' records and the counters agree with one another
pub record StateSound (s : State) : Type 0 where
  pub few_rows : length s.jobs ≤ 32
  pub counters_sound : CountersSound s.jobs s.counters
  pub cells_sound : CellsSound s.jobs s.cells

-- ---- what a grant needs ----

-- of the writer, for a read by the job in this row, of this group: another writer is of a later group
abbrev pub WriterLater : (ℕ → Option ℕ) → CellRecord → ℕ → ℕ → Type 0
WriterLater group_at r row g = (w h : ℕ) → r.writer ≡ Some w → (row ≢ w) → group_at w ≡ Some h → g < h

-- of the readers, for a write by the job in this row, of this group: every other reader is of an earlier group
abbrev pub ReadersEarlier : (ℕ → Option ℕ) → CellRecord → ℕ → ℕ → Type 0
ReadersEarlier group_at r row g = (k h : ℕ) → Reads r k → (k ≢ row) → group_at k ≡ Some h → h < g
