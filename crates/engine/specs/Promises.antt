-- What a call promises besides its step: what its answer says of the book after it, and the theorem.
use Rattle.std.specs.Prelude.{◌≡◌, ℕ, ◌≤◌, true, List, is_some, Err}
use Rattle.schedule.specs.Answers.{Reply}
use Rattle.schedule.specs.Books.{Book, size_over}
use Rattle.schedule.specs.declared.answer.NotGranted.TheVariants as not_granted
use Rattle.schedule.specs.declared.answer.Refusal.TheVariants as refusal
use Rattle.schedule.specs.declared.counters.Report.{Report}
use Rattle.schedule.specs.declared.request.Event.{Event}
use Rattle.schedule.specs.declared.request.Event.TheVariants as event
use Rattle.schedule.specs.declared.request.Request.{Request}
use Rattle.schedule.specs.Promises.{ErrorKeeps, OutsideExactly, RefusalKeeps, RejectionCloses, row_of}
use Rattle.schedule.specs.Verdicts.{May}
use Rattle.theorem.specs.Calls.{KeepsSerializableThrough, StartsSerializable}
use Rattle.theorem.specs.Reports.{ReportsWhatWasTold}
use Rattle.theorem.specs.Theorem.{KeepsSerializable}

-- a refusal changes nothing
abbrev pub RefusalChangesNothing : {C : Type 0} → Event C → Book C → Book C → Type 0
RefusalChangesNothing (event.Begin class r) before after = ErrorKeeps r before after
RefusalChangesNothing (event.Read ticket cell r) before after = RefusalKeeps r before after
RefusalChangesNothing (event.Write ticket cell c r) before after = RefusalKeeps r before after
RefusalChangesNothing (event.End ticket r) before after = ErrorKeeps r before after
RefusalChangesNothing (event.GiveUp ticket r) before after = ErrorKeeps r before after
RefusalChangesNothing (event.GroupSize size r) before after = ErrorKeeps r before after

-- a rejection closes exactly the job that asked
abbrev pub RejectionClosesThatJobAlone : {C : Type 0} → Event C → Book C → Book C → Type 0
RejectionClosesThatJobAlone (event.Begin class r) before after = Unit {0}
RejectionClosesThatJobAlone (event.Read ticket cell r) before after = RejectionCloses ticket r before after
RejectionClosesThatJobAlone (event.Write ticket cell c r) before after = RejectionCloses ticket r before after
RejectionClosesThatJobAlone (event.End ticket r) before after = Unit {0}
RejectionClosesThatJobAlone (event.GiveUp ticket r) before after = Unit {0}
RejectionClosesThatJobAlone (event.GroupSize size r) before after = Unit {0}

-- refusal 5 comes exactly outside, over any book that a fresh one can lead to
abbrev pub NoSuchCellExactlyOutside : {C : Type 0} → May → Event C → Book C → Type 0
NoSuchCellExactlyOutside may (event.Begin class r) before = Unit {0}
NoSuchCellExactlyOutside may (event.Read ticket cell r) before = OutsideExactly may before ticket cell r
NoSuchCellExactlyOutside may (event.Write ticket cell c r) before = OutsideExactly may before ticket cell r
NoSuchCellExactlyOutside may (event.End ticket r) before = Unit {0}
NoSuchCellExactlyOutside may (event.GiveUp ticket r) before = Unit {0}
NoSuchCellExactlyOutside may (event.GroupSize size r) before = Unit {0}

-- an open job's read or write gets 5 exactly when the cell number is not below the least of the two rows' lengths and 256
pub record PastTheEndExactly {C X : Type 0} (b : Book C) (ticket cell : ℕ) (r : Reply X) : Type 0 where
  pub past_the_end : is_some (row_of b ticket) ≡ true → size_over b.main b.draft ≤ cell → r ≡ Err (not_granted.Refused refusal.NoSuchCell)
  pub open_job : r ≡ Err (not_granted.Refused refusal.NoSuchCell) → is_some (row_of b ticket) ≡ true
  pub no_cell : r ≡ Err (not_granted.Refused refusal.NoSuchCell) → size_over b.main b.draft ≤ cell

-- refusal 5 comes exactly past the end, over any book that there is
abbrev pub NoSuchCellExactlyPastTheEnd : {C : Type 0} → Event C → Book C → Type 0
NoSuchCellExactlyPastTheEnd (event.Begin class r) before = Unit {0}
NoSuchCellExactlyPastTheEnd (event.Read ticket cell r) before = PastTheEndExactly before ticket cell r
NoSuchCellExactlyPastTheEnd (event.Write ticket cell c r) before = PastTheEndExactly before ticket cell r
NoSuchCellExactlyPastTheEnd (event.End ticket r) before = Unit {0}
NoSuchCellExactlyPastTheEnd (event.GiveUp ticket r) before = Unit {0}
NoSuchCellExactlyPastTheEnd (event.GroupSize size r) before = Unit {0}

-- what a call promises of an event besides its step; each has the name of the clause that says so of a call of the book
pub record Promises {C : Type 0} (may : May) (e : Event C) (before after : Book C) : Type 0 where
  pub refusal_changes_nothing : RefusalChangesNothing e before after
  pub rejection_closes_that_job_alone : RejectionClosesThatJobAlone e before after
  pub no_such_cell_exactly_outside : NoSuchCellExactlyOutside may e before
  pub no_such_cell_exactly_past_the_end : NoSuchCellExactlyPastTheEnd e before
  pub serializable_without_deadlock : KeepsSerializable may e before after

-- all of them, shut: a proof of a call takes them as one word, and who uses the call opens it
unfoldable pub KeepsPromises : {C : Type 0} → May → Event C → Book C → Book C → Type 0
KeepsPromises may e before after = Promises may e before after

-- the theorem at an opening and over a list of requests, shut likewise
unfoldable pub StartsPromises : {C : Type 0} → May → List C → Book C → Type 0
StartsPromises may first b = StartsSerializable may first b

unfoldable pub KeepsPromisesThrough : {C : Type 0} → May → List (Request C) → Book C → Book C → Type 0
KeepsPromisesThrough may requests before after = KeepsSerializableThrough may requests before after

-- what a report tells, shut likewise
unfoldable pub TellsTrue : {C : Type 0} → May → Book C → Report → Type 0
TellsTrue may b r = ReportsWhatWasTold may b r
