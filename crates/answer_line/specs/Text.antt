-- The text of each answer: a letter, and numbers in base ten without leading zeros, each after a space.
use Rattle.std.specs.Prelude.{ℕ, List, [], ◌∷◌, ◌++◌, decimal}
use Rattle.answer_line.specs.declared.answer.Answer.{Answer}
use Rattle.answer_line.specs.declared.answer.Answer.TheVariants as answer
use Rattle.schedule.specs.Answers.{refusal_number, rejection_detail, rejection_number}
use Rattle.std.specs.Fmt.{signed_decimal}

-- `N number detail`: the number of a refusal or a rejection, and what it names
abbrev pub refused_text : ℕ → ℕ → List ℕ
refused_text number detail = 78 ∷ 32 ∷ (decimal number ++ 32 ∷ decimal detail)

-- `T ticket group place`, `V height`, `K`, `E group end`, `U`, `L size`, `Y ticket`, and three kinds of `N number detail`
abbrev pub text : Answer → List ℕ
text (answer.Begun ticket group place) = 84 ∷ 32 ∷ (decimal ticket ++ 32 ∷ (decimal group ++ 32 ∷ decimal place))
text (answer.Cell height) = 86 ∷ 32 ∷ signed_decimal height
text answer.Written = 75 ∷ []
text (answer.Ended group end) = 69 ∷ 32 ∷ (decimal group ++ 32 ∷ decimal end)
text answer.GivenUp = 85 ∷ []
text (answer.GroupSize size) = 76 ∷ 32 ∷ decimal size
text (answer.Wait ticket) = 89 ∷ 32 ∷ decimal ticket
text (answer.Rejected why) = refused_text (rejection_number why) (rejection_detail why)
text (answer.Refused why) = refused_text (refusal_number why) 0
text (answer.NoRequest place) = refused_text 10 place
