-- Which answer an event tells of.
use Rattle.std.specs.Prelude.{ℤ, Ok, Err}
use Rattle.answer_line.specs.declared.answer.Answer.{Answer}
use Rattle.answer_line.specs.declared.answer.Answer.TheVariants as answer
use Rattle.schedule.specs.declared.answer.NotGranted.{NotGranted}
use Rattle.schedule.specs.declared.answer.NotGranted.TheVariants as not_granted
use Rattle.schedule.specs.declared.request.Event.{Event}
use Rattle.schedule.specs.declared.request.Event.TheVariants as event

-- the answer to a read or a write that gets nothing
abbrev pub why_not : NotGranted → Answer
why_not (not_granted.Wait blocker) = answer.Wait blocker
why_not (not_granted.Rejected why) = answer.Rejected why
why_not (not_granted.Refused why) = answer.Refused why

-- the answer with what was granted, or with why nothing was
abbrev pub answer_to : Event ℤ → Answer
answer_to (event.Begin class (Ok (ticket, group, place))) = answer.Begun ticket group place
answer_to (event.Begin class (Err why)) = answer.Refused why
answer_to (event.Read ticket cell (Ok height)) = answer.Cell height
answer_to (event.Read ticket cell (Err why)) = why_not why
answer_to (event.Write ticket cell height (Ok done)) = answer.Written
answer_to (event.Write ticket cell height (Err why)) = why_not why
answer_to (event.End ticket (Ok (group, end))) = answer.Ended group end
answer_to (event.End ticket (Err why)) = answer.Refused why
answer_to (event.GiveUp ticket (Ok done)) = answer.GivenUp
answer_to (event.GiveUp ticket (Err why)) = answer.Refused why
answer_to (event.GroupSize size (Ok taken)) = answer.GroupSize taken
answer_to (event.GroupSize size (Err why)) = answer.Refused why
