-- A sound state stays sound under each change.
use Rattle.std.proofs.Common.{◌≡◌, ℕ, ◌<◌, ◌≤◌, List, length, set, replicate, Some, None, Option, sym, subst, arith, length-set}
use Rattle.std.proofs.Math.Path.{subst₂}
use lib.ListN.{length-map}
use Rattle.schedule.specs.Cells.{fresh_record, record_of}
use Rattle.schedule.specs.Counting.{fresh_counters, joined}
use Rattle.schedule.specs.declared.cell.CellRecord.{CellRecord}
use Rattle.schedule.specs.declared.counters.Closing.{Closing}
use Rattle.schedule.specs.declared.counters.Closing.TheVariants as closing
use Rattle.schedule.specs.declared.job.Job.{Job}
use Rattle.schedule.specs.declared.job.Wait.{Wait}
use Rattle.schedule.specs.declared.job.Seated.{Seated}
use Rattle.schedule.specs.Jobs.{job_in, closed_rows, find, holds, vacant}
use Rattle.schedule.specs.States.{State, beginning, closed, finished, reading, waiting, writing}
use Rattle.soundness.proofs.AllCells.{cells_sound_begun, cells_sound_closed, cells_sound_ended, cells_sound_fresh, cells_sound_read, cells_sound_waiting, cells_sound_written}
use Rattle.soundness.proofs.Groups.{group_of_job}
use Rattle.soundness.proofs.Opens.{counters_sound_begun, counters_sound_closed, counters_sound_fresh, counters_sound_waiting, open_closed}
use Rattle.soundness.specs.Soundness.{ReadersEarlier, StateSound, WriterLater, group_in}
use Rattle.waiting.specs.declared.class.Class.{Class}

-- no job is open, and no cell is touched
pub sound_fresh : {jobs : List (Option Job)} {cells : List CellRecord} (size : ℕ) → jobs ≡ replicate 32 None → cells ≡ replicate size fresh_record
    → StateSound (record { jobs = jobs; cells = cells; counters = fresh_counters })
sound_fresh size none_open untouched =
    subst₂ (λ jobs cells. StateSound (record { jobs = jobs; cells = cells; counters = fresh_counters })) (sym none_open) (sym untouched) (record {
      few_rows = omega arith;
      counters_sound = counters_sound_fresh 32;
      cells_sound = cells_sound_fresh (replicate 32 None) size;
    })

-- while a job is open, fewer than a million have closed in each way
pub room_to_close : {s : State} → StateSound s → (row ticket : ℕ) → find (holds ticket) s.jobs ≡ Some row
    → (s.counters.ended < 1000000) × (s.counters.given_up < 1000000) × (s.counters.rejected < 1000000)
room_to_close {s} sound row ticket found = let counted = sound.counters_sound in grind (arith, open_closed s.jobs row ticket)

module _ (s t : State) (sound : StateSound s) where
  few_set : (row : ℕ) (o : Option Job) → length (set s.jobs row o) ≤ 32
  few_set row o = let few = sound.few_rows in omega (arith, length-set s.jobs row o)

  few_closed : (row ticket : ℕ) → length (closed_rows s.jobs row ticket) ≤ 32
  few_closed row ticket = let few = sound.few_rows in simp (length-set, length-map) few

  -- a job begins in a free row
  pub sound_begun : (class : Class) (row : ℕ) → s.counters.begun < 1000000 → find vacant s.jobs ≡ Some row
      → t ≡ beginning s class (joined s.counters) row → StateSound t
  sound_begun class row few free e =
      subst StateSound (sym e) (record {
        few_rows = few_set row _;
        counters_sound = counters_sound_begun s.jobs s.counters row sound.counters_sound _ few free;
        cells_sound = cells_sound_begun s.jobs s.cells row sound.cells_sound _ free;
      })

  -- a job waits so, or no more
  pub sound_waiting : (row : ℕ) (w : Option Wait) → t ≡ waiting s row w → StateSound t
  sound_waiting row w e =
      subst StateSound (sym e) (record {
        few_rows = few_set row _;
        counters_sound = counters_sound_waiting s.jobs s.counters row sound.counters_sound w;
        cells_sound = cells_sound_waiting s.jobs s.cells row sound.cells_sound w;
      })

  module _ (cell : ℕ) (p : Seated) (there : job_in s.jobs p.row ≡ Some p.job) where
    -- a read of the main store is granted
    pub sound_reading : WriterLater (group_in s.jobs) (record_of s.cells cell) p.row p.job.group → t ≡ reading s p.row cell p.job.group → StateSound t
    sound_reading later e =
        subst StateSound (sym e) (record {
          few_rows = few_set p.row _;
          counters_sound = counters_sound_waiting s.jobs s.counters p.row sound.counters_sound None;
          cells_sound = cells_sound_read s.jobs s.cells p.row sound.cells_sound cell p.job.group (group_of_job s.jobs p there) later;
        })

    -- a write is granted
    pub sound_writing : ReadersEarlier (group_in s.jobs) (record_of s.cells cell) p.row p.job.group → t ≡ writing s p.row cell → StateSound t
    sound_writing earlier e =
        subst StateSound (sym e) (record {
          few_rows = few_set p.row _;
          counters_sound = counters_sound_waiting s.jobs s.counters p.row sound.counters_sound None;
          cells_sound = cells_sound_written s.jobs s.cells p.row sound.cells_sound cell p.job.group (group_of_job s.jobs p there) earlier;
        })

  module _ (row ticket : ℕ) (found : find (holds ticket) s.jobs ≡ Some row) where
    -- a job closes
    pub sound_closed : (how : Closing) → t ≡ closed s row ticket how → StateSound t
    sound_closed how e =
        subst StateSound (sym e) (record {
          few_rows = few_closed row ticket;
          counters_sound = counters_sound_closed s.jobs s.counters row sound.counters_sound ticket found how;
          cells_sound = cells_sound_closed s.jobs s.cells row sound.cells_sound ticket;
        })

    -- a job ends
    pub sound_finished : (group : ℕ) → t ≡ finished s row ticket group → StateSound t
    sound_finished group e =
        subst StateSound (sym e) (record {
          few_rows = few_closed row ticket;
          counters_sound = counters_sound_closed s.jobs s.counters row sound.counters_sound ticket found closing.Ended;
          cells_sound = cells_sound_ended s.jobs s.cells row sound.cells_sound ticket group;
        })
