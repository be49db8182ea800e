-- What a history tells by itself: requests with their answers, the newest first, and no scheduler.
use Rattle.std.specs.Prelude.{ℕ, zero, suc, max, Bool, false, cond, not, ◌&&◌, ◌||◌, List, [], ◌∷◌, ◌++◌, Some, None, Ok, Err, Option, ◌==◌}
use Rattle.schedule.specs.declared.answer.NotGranted.TheVariants as not_granted
use Rattle.schedule.specs.declared.request.Event.{Event}
use Rattle.schedule.specs.declared.request.Event.TheVariants as event

abbrev pub History : Type 0 → Type 0
History C = List (Event C)

-- a granted read of a cell, with the cell that it gave, or a granted write of a cell, with the new one
pub data Access (C : Type 0) : Type 0 where
  read_gave : (cell : ℕ) → C → Access C
  wrote : (cell : ℕ) → C → Access C

-- how a job leaves without ending
pub data Leaving : Type 0 where
  gave_up : Leaving
  was_rejected : Leaving

-- what an event means to the job with this ticket
pub data Effect (C : Type 0) : Type 0 where
  opens : (ticket group : ℕ) → Effect C
  accesses : (ticket : ℕ) → Access C → Effect C
  waits : (ticket blocker : ℕ) → Effect C
  ends : (ticket : ℕ) → Effect C
  leaves : (ticket : ℕ) → Leaving → Effect C
  nothing : Effect C

-- A granted begin opens a job with the answer's ticket and group. A granted end, a granted give up, or a rejection of a
-- read or write of its own closes it. A refusal means nothing, and so does the group size.
abbrev pub effect : {C : Type 0} → Event C → Effect C
effect (event.Begin class (Ok p)) = opens p.0 p.1
effect (event.Begin class (Err why)) = nothing
effect (event.Read ticket cell (Ok c)) = accesses ticket (read_gave cell c)
effect (event.Read ticket cell (Err (not_granted.Wait blocker))) = waits ticket blocker
effect (event.Read ticket cell (Err (not_granted.Rejected why))) = leaves ticket was_rejected
effect (event.Read ticket cell (Err (not_granted.Refused why))) = nothing
effect (event.Write ticket cell c (Ok u)) = accesses ticket (wrote cell c)
effect (event.Write ticket cell c (Err (not_granted.Wait blocker))) = waits ticket blocker
effect (event.Write ticket cell c (Err (not_granted.Rejected why))) = leaves ticket was_rejected
effect (event.Write ticket cell c (Err (not_granted.Refused why))) = nothing
effect (event.End ticket (Ok p)) = ends ticket
effect (event.End ticket (Err why)) = nothing
effect (event.GiveUp ticket (Ok u)) = leaves ticket gave_up
effect (event.GiveUp ticket (Err why)) = nothing
effect (event.GroupSize size r) = nothing

abbrev pub effects : {C : Type 0} → History C → List (Effect C)
effects [] = []
effects (e ∷ h) = effect e ∷ effects h

-- ---- one job ----

-- is the job with ticket t open
abbrev pub is_open : {C : Type 0} → List (Effect C) → ℕ → Bool
is_open [] t = false
is_open (opens u group ∷ h) t = u == t || is_open h t
is_open (accesses u a ∷ h) t = is_open h t
is_open (waits u blocker ∷ h) t = is_open h t
is_open (ends u ∷ h) t = not (u == t) && is_open h t
is_open (leaves u how ∷ h) t = not (u == t) && is_open h t
is_open (nothing ∷ h) t = is_open h t

-- the group that the job t was given
abbrev pub group_of : {C : Type 0} → List (Effect C) → ℕ → ℕ
group_of [] t = 0
group_of (opens u group ∷ h) t = cond (u == t) group (group_of h t)
group_of (accesses u a ∷ h) t = group_of h t
group_of (waits u blocker ∷ h) t = group_of h t
group_of (ends u ∷ h) t = group_of h t
group_of (leaves u how ∷ h) t = group_of h t
group_of (nothing ∷ h) t = group_of h t

-- the granted reads and writes of the job t, in the order made
abbrev pub accesses_of : {C : Type 0} → List (Effect C) → ℕ → List (Access C)
accesses_of [] t = []
accesses_of (opens u group ∷ h) t = accesses_of h t
accesses_of (accesses u a ∷ h) t = cond (u == t) (accesses_of h t ++ a ∷ []) (accesses_of h t)
accesses_of (waits u blocker ∷ h) t = accesses_of h t
accesses_of (ends u ∷ h) t = accesses_of h t
accesses_of (leaves u how ∷ h) t = accesses_of h t
accesses_of (nothing ∷ h) t = accesses_of h t

-- the ticket that the job t waits for: of the grants, waits and rejections that its reads and writes got, the last is a
-- wait that names it
abbrev pub wait_of : {C : Type 0} → List (Effect C) → ℕ → Option ℕ
wait_of [] t = None
wait_of (opens u group ∷ h) t = wait_of h t
wait_of (accesses u a ∷ h) t = cond (u == t) None (wait_of h t)
wait_of (waits u blocker ∷ h) t = cond (u == t) (Some blocker) (wait_of h t)
wait_of (ends u ∷ h) t = wait_of h t
wait_of (leaves u was_rejected ∷ h) t = cond (u == t) None (wait_of h t)
wait_of (leaves u gave_up ∷ h) t = wait_of h t
wait_of (nothing ∷ h) t = wait_of h t

-- ---- the serial order ----

-- the accesses of the ended jobs of one group, job after job in the order of their ends
abbrev pub ended_in : {C : Type 0} → List (Effect C) → ℕ → List (Access C)
ended_in [] g = []
ended_in (opens u group ∷ h) g = ended_in h g
ended_in (accesses u a ∷ h) g = ended_in h g
ended_in (waits u blocker ∷ h) g = ended_in h g
ended_in (ends u ∷ h) g = cond (group_of h u == g) (ended_in h g ++ accesses_of h u) (ended_in h g)
ended_in (leaves u how ∷ h) g = ended_in h g
ended_in (nothing ∷ h) g = ended_in h g

-- those of the groups up to g, group after group
abbrev pub serial_up_to : {C : Type 0} → List (Effect C) → ℕ → List (Access C)
serial_up_to h zero = ended_in h zero
serial_up_to h (suc g) = serial_up_to h g ++ ended_in h (suc g)

-- the latest group that a job was given
abbrev pub latest_group : {C : Type 0} → List (Effect C) → ℕ
latest_group [] = 0
latest_group (opens u group ∷ h) = max group (latest_group h)
latest_group (accesses u a ∷ h) = latest_group h
latest_group (waits u blocker ∷ h) = latest_group h
latest_group (ends u ∷ h) = latest_group h
latest_group (leaves u how ∷ h) = latest_group h
latest_group (nothing ∷ h) = latest_group h

-- the serial order: the ended jobs alone, by group and then in the order of their ends
abbrev pub serial_order : {C : Type 0} → List (Effect C) → List (Access C)
serial_order h = serial_up_to h (latest_group h)
