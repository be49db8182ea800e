-- What a book over receiver cells answers a line of bytes, and the book after it.
use Rattle.std.specs.Prelude.{◌≡◌, ℕ, List, [], ◌∷◌, ◌++◌, ℤ, Ok, Err, Result}
use Rattle.answer_line.specs.Answers.{answer_to}
use Rattle.answer_line.specs.declared.answer.Answer.{Answer}
use Rattle.answer_line.specs.declared.answer.Answer.TheVariants as answer
use Rattle.answer_line.specs.Text.{text}
use Rattle.request_line.specs.Lines.{Reads}
use Rattle.schedule.specs.Books.{Book}
use Rattle.schedule.specs.declared.request.Request.{Request}
use Rattle.schedule.specs.Verdicts.{May}
use Rattle.theorem.specs.Histories.{History, effects}
use Rattle.theorem.specs.Theorem.{KeepsSerializable, Run, SerializableWithoutDeadlock, step}

-- what a line says is answered, and the book after it: a request by the book itself, a line that is none by refusal 10 with
-- the place where it goes wrong, and then the book stays as it is
abbrev pub answered : May → Book ℤ → Result (Request ℤ) ℕ → Answer × Book ℤ
answered may b (Ok request) = (answer_to (step may b request).0, (step may b request).1)
answered may b (Err place) = (answer.NoRequest place, b)

-- the line of an answer: its text and byte 10
abbrev pub answer_line : Answer → List ℕ
answer_line a = text a ++ 10 ∷ []

-- the book b answers the line by this text, and is the book b' then
pub record AnswersLine (may : May) (line : List ℕ) (b : Book ℤ) (told : List ℕ) (b' : Book ℤ) : Type 0 where
  pub said : Result (Request ℤ) ℕ
  pub reads : Reads line said
  pub is : told ≡ answer_line (answered may b said).0
  pub after : b' ≡ (answered may b said).1

-- the theorem, for the request that the line says; a line that says none leaves the book, and so the run, as it was
pub record KeepsSerializableByLine (may : May) (line : List ℕ) (before after : Book ℤ) : Type 0 where
  pub by_request : (request : Request ℤ) → Reads line (Ok request) → KeepsSerializable may (step may before request).0 before after
  pub by_none : (place : ℕ) → Reads line (Err place) → after ≡ before

-- the theorem over any number of lines: whatever run led to the book before them, it goes on to the book after them, and
-- all of the theorem holds there
unfoldable pub RunsOn : May → Book ℤ → Book ℤ → Type 0
RunsOn may before after =
    (first : List ℤ) (h : History ℤ)
    → Run may first h before
    → (h' : History ℤ)
    × Run may first h' after
    × SerializableWithoutDeadlock first (effects h') after.main

-- the book b, told what the line says, answers so, and is the book b' then
pub record AnswersSo (may : May) (line : List ℕ) (b : Book ℤ) (given : Answer) (b' : Book ℤ) : Type 0 where
  pub said : Result (Request ℤ) ℕ
  pub reads : Reads line said
  pub is : answered may b said ≡ (given, b')
