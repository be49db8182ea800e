-- How many jobs are open after each change of the rows, and that the counters stay sound.
use Rattle.std.proofs.Common.{◌≡◌, ℕ, zero, suc, ◌+◌, ◌<◌, List, [], ◌∷◌, map, set, replicate, Some, None, Option, refl, arith}
use Rattle.schedule.specs.Counting.{fresh_counters, joined, left}
use Rattle.schedule.specs.declared.counters.Closing.{Closing}
use Rattle.schedule.specs.declared.counters.Counters.{Counters}
use Rattle.schedule.specs.declared.job.Job.{Job}
use Rattle.schedule.specs.declared.job.Wait.{Wait}
use Rattle.schedule.specs.Jobs.{closed_rows, find, holds, open_count, vacant, wait_lifted, wait_set}
use Rattle.soundness.specs.Soundness.{CountersSound}
use Rattle.std.specs.Option.{option_map}

-- one job more in a row that was free
open_begun : (rows : List (Option Job)) (i : ℕ) (j : Job) → find vacant rows ≡ Some i → open_count (set rows i (Some j)) ≡ open_count rows + 1
open_begun [] i j free = cc
open_begun (o ∷ rows) zero j free = grind arith
open_begun (o ∷ rows) (suc i) j free = grind (arith, open_begun rows i j)

open_mapped : (f : Job → Job) (rows : List (Option Job)) → open_count (map (option_map f) rows) ≡ open_count rows
open_mapped f [] = refl
open_mapped f (o ∷ rows) = grind (arith, open_mapped f rows)

open_shut : (f : Job → Job) (rows : List (Option Job)) (i ticket : ℕ) → find (holds ticket) rows ≡ Some i → open_count (set (map (option_map f) rows) i None) + 1 ≡ open_count rows
open_shut f [] i ticket found = cc
open_shut f (o ∷ rows) zero ticket found = grind (arith, open_mapped f rows)
open_shut f (o ∷ rows) (suc i) ticket found = grind (arith, open_shut f rows i ticket)

-- one job less where the job with this ticket closes
pub open_closed : (rows : List (Option Job)) (i ticket : ℕ) → find (holds ticket) rows ≡ Some i → open_count (closed_rows rows i ticket) + 1 ≡ open_count rows
open_closed rows i ticket found = open_shut (wait_lifted ticket) rows i ticket found

-- as many where a job waits
open_waiting : (rows : List (Option Job)) (i : ℕ) (w : Option Wait) → open_count (wait_set rows i w) ≡ open_count rows
open_waiting [] i w = refl
open_waiting (o ∷ rows) zero w = grind arith
open_waiting (o ∷ rows) (suc i) w = grind (arith, open_waiting rows i w)

open_none : (n : ℕ) → open_count (replicate n None) ≡ 0
open_none zero = refl
open_none (suc n) = grind (arith, open_none n)

-- a ledger of no open job, with fresh counters
pub counters_sound_fresh : (n : ℕ) → CountersSound (replicate n None) fresh_counters
counters_sound_fresh n = grind (arith, open_none n)

module _ (rows : List (Option Job)) (n : Counters) (i : ℕ) (sound : CountersSound rows n) where
  -- a job begins in a free row
  pub counters_sound_begun : (j : Job) → n.begun < 1000000 → find vacant rows ≡ Some i → CountersSound (set rows i (Some j)) (joined n)
  counters_sound_begun j few free = grind (arith, open_begun rows i j)

  -- a job waits so, or no more
  pub counters_sound_waiting : (w : Option Wait) → CountersSound (wait_set rows i w) n
  counters_sound_waiting w = grind (arith, open_waiting rows i w)

  -- a job closes
  pub counters_sound_closed : (ticket : ℕ) → find (holds ticket) rows ≡ Some i → (how : Closing) → CountersSound (closed_rows rows i ticket) (left n how)
  counters_sound_closed ticket found how = grind (arith, open_closed rows i ticket)
