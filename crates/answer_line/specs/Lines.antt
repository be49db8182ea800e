-- That an answer is one line, and that two answers never share a line.
use Rattle.std.specs.Prelude.{◌≡◌, ℕ, ◌^◌, ◌<◌, ◌≢◌, All}
use Rattle.std.specs.Int.Signed.{mag}
use Rattle.answer_line.specs.declared.answer.Answer.{Answer}
use Rattle.answer_line.specs.declared.answer.Answer.TheVariants as answer
use Rattle.answer_line.specs.Text.{text}
use Rattle.schedule.specs.Answers.{rejection_detail}

-- the text has no byte 10, which ends a line
abbrev pub OneLine : Answer → Type 0
OneLine a = All (λ byte. byte ≢ 10) (text a)

-- the values of a u32
abbrev pub Number : ℕ → Type 0
Number n = n < 2 ^ 32

-- each number is one that its type holds; `mag z` is z, or -1 - z where z is below 0
abbrev pub InRange : Answer → Type 0
InRange (answer.Begun ticket group place) = Number ticket × Number group × Number place
InRange (answer.Cell height) = mag height < 2 ^ 31
InRange answer.Written = Unit {0}
InRange (answer.Ended group end) = Number group × Number end
InRange answer.GivenUp = Unit {0}
InRange (answer.GroupSize size) = Number size
InRange (answer.Wait ticket) = Number ticket
InRange (answer.Rejected why) = Number (rejection_detail why)
InRange (answer.Refused why) = Unit {0}
InRange (answer.NoRequest place) = place < 2 ^ 64

-- from the line its answer can be told
abbrev pub NoSharedLine : Type 0
NoSharedLine = (a b : Answer) → InRange a → InRange b → text a ≡ text b → a ≡ b
