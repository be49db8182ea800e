-- The lines of a table of cases: requests to a fresh book in order, each with the answer expected, and what holds of a line.
use Rattle.std.specs.Prelude.{◌≡◌, ℕ, zero, suc, ◌/◌, ◌%◌, List, [], ◌∷◌, ◌++◌, map, replicate, ℤ, pos, Some, None, Ok, Err, Option}
use Rattle.schedule.specs.Books.{Book, fresh_book}
use Rattle.schedule.specs.declared.answer.Refusal.{Refusal}
use Rattle.schedule.specs.declared.answer.Refusal.TheVariants as refusal
use Rattle.schedule.specs.declared.answer.Rejection.TheVariants as rejection
use Rattle.schedule.specs.Answers.{Reply}
use Rattle.schedule.specs.declared.answer.NotGranted.TheVariants as not_granted
use Rattle.schedule.specs.declared.request.Event.{Event}
use Rattle.schedule.specs.declared.request.Event.TheVariants as event
use Rattle.schedule.specs.declared.request.Request.{Request}
use Rattle.std.specs.List.{slice_get}
use Rattle.theorem.specs.Calls.{after_all, request_of}
use Rattle.theorem.specs.Theorem.{step}
use Rattle.waiting.specs.Rules.{elder}

-- ---- the requests, with their answers ----

-- a job of this class begins, and gets this ticket, group and place
abbrev pub begins : ℕ → ℕ × ℕ × ℕ → Event ℤ
begins class given = event.Begin class (Ok given)

-- a begin of this class is refused
abbrev pub begin_refused : ℕ → Refusal → Event ℤ
begin_refused class why = event.Begin class (Err why)

-- the job with this ticket reads this cell
abbrev pub reads : ℕ → ℕ → Reply ℤ → Event ℤ
reads ticket cell answer = event.Read ticket cell answer

-- the job with this ticket writes this number into this cell
abbrev pub writes : ℕ → ℕ → ℕ → Reply (Unit {0}) → Event ℤ
writes ticket cell number answer = event.Write ticket cell (pos number) answer

-- the job with this ticket ends, and gets its group and end number
abbrev pub ends : ℕ → ℕ × ℕ → Event ℤ
ends ticket given = event.End ticket (Ok given)

-- the end of the job with this ticket is refused
abbrev pub end_refused : ℕ → Refusal → Event ℤ
end_refused ticket why = event.End ticket (Err why)

-- the job with this ticket gives up
abbrev pub gives_up : ℕ → Event ℤ
gives_up ticket = event.GiveUp ticket (Ok tt)

-- this group size is taken
abbrev pub size_taken : ℕ → Event ℤ
size_taken size = event.GroupSize size (Ok size)

-- this group size is refused: 9
abbrev pub size_refused : ℕ → Event ℤ
size_refused size = event.GroupSize size (Err refusal.NoSuchGroupSize)

-- ---- the answers to a read or a write ----

-- the read is granted, and gives this number
abbrev pub gives : ℕ → Reply ℤ
gives number = Ok (pos number)

-- the write is granted
abbrev pub granted : Reply (Unit {0})
granted = Ok tt

-- the job is to wait for the job with this ticket
abbrev pub waits_for : {X : Type 0} → ℕ → Reply X
waits_for ticket = Err (not_granted.Wait ticket)

-- rejected, as this later group has been there: 7
abbrev pub too_late_for : {X : Type 0} → ℕ → Reply X
too_late_for group = Err (not_granted.Rejected (rejection.TooLate group))

-- rejected, as the rule forbids to wait for the job with this ticket: 8
abbrev pub may_not_wait_for : {X : Type 0} → ℕ → Reply X
may_not_wait_for ticket = Err (not_granted.Rejected (rejection.MayNotWait ticket))

-- refused, as there is no such cell: 5
abbrev pub no_such_cell : {X : Type 0} → Reply X
no_such_cell = Err (not_granted.Refused refusal.NoSuchCell)

-- ---- a line ----

-- the requests with the answers expected, in order; and, if stated, a cell and what the main store then has there
pub record Line : Type 0 where
  pub events : List (Event ℤ)
  pub main_cell : Option (ℕ × ℤ)

-- a line that states no main cell
abbrev pub line : List (Event ℤ) → Line
line events = record { events = events; main_cell = None }

-- a line after which this cell has this number in the main store
abbrev pub line_leaving : ℕ → ℕ → List (Event ℤ) → Line
line_leaving cell number events = record { events = events; main_cell = Some (cell, pos number) }

-- The first n begins of a fresh book, of class 0: tickets from 1, eight jobs to a group, places from 1. Each number is a
-- `suc`, which computes to a numeral; a sum would be compared term by term with the sums of the step.
abbrev pub first_begins : ℕ → List (Event ℤ)
first_begins zero = []
first_begins (suc n) = first_begins n ++ begins 0 (suc n, suc (n / 8), suc (n % 8)) ∷ []

-- ---- what holds of a line ----

-- eight cells of 0 in each of the two stores
abbrev pub fresh : Book ℤ
fresh = fresh_book (replicate 8 (pos 0)) (replicate 8 (pos 0))

-- these requests, asked in order under the rule elder, with the answers that the book gives
abbrev pub answered : Book ℤ → List (Request ℤ) → List (Event ℤ)
answered b [] = []
answered b (q ∷ qs) = let first = step elder b q in first.0 ∷ answered first.1 qs

-- the row has what is stated, if anything is
abbrev pub Has : List ℤ → Option (ℕ × ℤ) → Type 0
Has row None = Unit {0}
Has row (Some stated) = slice_get row stated.0 ≡ Some stated.1

-- the fresh book gives just the answers expected, and its main row then is as stated
abbrev pub Holds : Line → Type 0
Holds l =
    let requests = map request_of l.events in
    (answered fresh requests ≡ l.events) × Has (after_all elder fresh requests).main l.main_cell
