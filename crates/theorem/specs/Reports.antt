-- The report that the answers tell: its figures counted in the effects of a history, with no scheduler.
use Rattle.std.specs.Prelude.{◌≡◌, ℕ, ◌+◌, Bool, true, false, cond, List, [], ◌∷◌}
use Rattle.schedule.specs.Books.{Book}
use Rattle.schedule.specs.declared.counters.Report.{Report}
use Rattle.schedule.specs.Verdicts.{May}
use Rattle.theorem.specs.Histories.{Effect, History, accesses, effects, ends, gave_up, is_open, leaves, nothing, opens, waits, was_rejected}
use Rattle.theorem.specs.Theorem.{Run}

-- how many of the list pass the test
abbrev pub how_many : {X : Type 0} → (X → Bool) → List X → ℕ
how_many p [] = 0
how_many p (x ∷ xs) = cond (p x) (how_many p xs + 1) (how_many p xs)

-- ---- one effect ----

-- a job began: a begin was granted
abbrev pub is_begin : {C : Type 0} → Effect C → Bool
is_begin (opens t group) = true
is_begin (accesses t a) = false
is_begin (waits t blocker) = false
is_begin (ends t) = false
is_begin (leaves t how) = false
is_begin nothing = false

-- a job ended: an end was granted
abbrev pub is_end : {C : Type 0} → Effect C → Bool
is_end (opens t group) = false
is_end (accesses t a) = false
is_end (waits t blocker) = false
is_end (ends t) = true
is_end (leaves t how) = false
is_end nothing = false

-- a job was given up: a give up was granted
abbrev pub is_give_up : {C : Type 0} → Effect C → Bool
is_give_up (opens t group) = false
is_give_up (accesses t a) = false
is_give_up (waits t blocker) = false
is_give_up (ends t) = false
is_give_up (leaves t gave_up) = true
is_give_up (leaves t was_rejected) = false
is_give_up nothing = false

-- a job was rejected, at a read or a write
abbrev pub is_rejection : {C : Type 0} → Effect C → Bool
is_rejection (opens t group) = false
is_rejection (accesses t a) = false
is_rejection (waits t blocker) = false
is_rejection (ends t) = false
is_rejection (leaves t gave_up) = false
is_rejection (leaves t was_rejected) = true
is_rejection nothing = false

-- ---- all effects ----

-- the tickets that granted begins gave, the newest first
abbrev pub tickets_given : {C : Type 0} → List (Effect C) → List ℕ
tickets_given [] = []
tickets_given (opens t group ∷ h) = t ∷ tickets_given h
tickets_given (accesses t a ∷ h) = tickets_given h
tickets_given (waits t blocker ∷ h) = tickets_given h
tickets_given (ends t ∷ h) = tickets_given h
tickets_given (leaves t how ∷ h) = tickets_given h
tickets_given (nothing ∷ h) = tickets_given h

-- how many of the tickets given are of jobs that are still open
abbrev pub told_open : {C : Type 0} → List (Effect C) → ℕ
told_open h = how_many (is_open h) (tickets_given h)

-- the report told: how many jobs began, ended, were given up and were rejected, and how many are open
abbrev pub told_report : {C : Type 0} → List (Effect C) → Report
told_report h =
    record {
      begun = how_many is_begin h;
      ended = how_many is_end h;
      given_up = how_many is_give_up h;
      rejected = how_many is_rejection h;
      «open» = told_open h;
    }

-- ---- the statement ----

-- whatever run led to the book b, the report r is what the answers of that run told
abbrev pub ReportsWhatWasTold : {C : Type 0} → May → Book C → Report → Type 0
ReportsWhatWasTold {C = C} may b r = (first : List C) (h : History C) → Run may first h b → r ≡ told_report (effects h)
