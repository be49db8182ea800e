-- What a read or a write gets, the number of each refusal and rejection, and what a rejection names.
use Rattle.std.specs.Prelude.{ℕ, Result}
use Rattle.schedule.specs.declared.answer.NotGranted.{NotGranted}
use Rattle.schedule.specs.declared.answer.Refusal.{Refusal}
use Rattle.schedule.specs.declared.answer.Refusal.TheVariants as refusal
use Rattle.schedule.specs.declared.answer.Rejection.{Rejection}
use Rattle.schedule.specs.declared.answer.Rejection.TheVariants as rejection

-- refusals change nothing
abbrev pub refusal_number : Refusal → ℕ
refusal_number refusal.NoSuchClass = 1
refusal_number refusal.TicketsSpent = 2
refusal_number refusal.BookFull = 3
refusal_number refusal.NoOpenJob = 4
refusal_number refusal.NoSuchCell = 5
refusal_number refusal.JobWaits = 6
refusal_number refusal.NoSuchGroupSize = 9

-- rejections close the job
abbrev pub rejection_number : Rejection → ℕ
rejection_number (rejection.TooLate group) = 7
rejection_number (rejection.MayNotWait ticket) = 8

-- the group that 7 names, the ticket that 8 names
abbrev pub rejection_detail : Rejection → ℕ
rejection_detail (rejection.TooLate group) = group
rejection_detail (rejection.MayNotWait ticket) = ticket

-- what a read or a write gets: an X where it is granted
abbrev pub Reply : Type 0 → Type 0
Reply X = Result X NotGranted
