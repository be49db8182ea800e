-- What a console does with a piece of its input, and at the end of its input. `may` tells what a waiting rule allows.
use Rattle.std.specs.Prelude.{ℕ, ◌≤◌, List, [], length, take, ℤ, Ok, Err, Result}
use Rattle.engine.specs.Contents.{BookSound}
use Rattle.schedule.specs.Books.{Book}
use Rattle.schedule.specs.Verdicts.{May}
use Rattle.transcript.specs.Answering.{AnswersLine, RunsOn}
use Rattle.transcript.specs.declared.console.Console.{Console}
use Rattle.transcript.specs.declared.console.NoMemory.{NoMemory}
use Rattle.transcript.specs.Lines.{Answering, Completes, Finished, GoesOn, SoFar, Taken, Told}

-- how much of a piece was taken: all of it, or where there was no memory so many of its bytes
abbrev pub taken_of : List ℕ → Result (Unit {0}) NoMemory → List ℕ
taken_of piece (Ok u) = piece
taken_of piece (Err short) = take short.taken piece

-- the console's book is sound, and of the line that goes on it keeps at most 36 bytes
abbrev pub ConsoleSound : {M D W : Type 0} → (M → List ℤ) → (D → List ℤ) → Console M D W → Type 0
ConsoleSound row_of_main row_of_draft c = BookSound row_of_main row_of_draft c.book × (length c.front.items ≤ 36)

module _ {M D W : Type 0} (may : W → May) where
  -- how its book answers lines
  abbrev pub by_its_rule : Console M D W → Answering (Book ℤ)
  by_its_rule c = AnswersLine (may c.book.rule)

  -- the console answers the line that has come
  abbrev pub TellsFront : Console M D W → List ℕ → Console M D W → List ℕ → Type 0
  TellsFront c told c₁ told₁ =
      Told (by_its_rule c) c.book.book c.front.items told c₁.book.book told₁

  -- the console takes the piece: what was told is `told` before and `told₁` after it
  abbrev pub TakesPiece : Console M D W → List ℕ → List ℕ → Console M D W → List ℕ → Type 0
  TakesPiece c piece told c₁ told₁ =
      Taken (by_its_rule c) c.book.book c.front.items piece told c₁.book.book c₁.front.items told₁

  -- nothing has come of the input, and nothing was answered
  abbrev pub BeginsTranscript : Console M D W → Type 0
  BeginsTranscript c = SoFar (by_its_rule c) c.book.book [] [] c.book.book c.front.items

  -- whatever came before, with the piece more of the input has come, and was answered
  abbrev pub GoesOnBy : Console M D W → List ℕ → List ℕ → Console M D W → List ℕ → Type 0
  GoesOnBy c piece told c₁ told₁ =
      GoesOn (by_its_rule c) c.book.book c.front.items piece told c₁.book.book c₁.front.items told₁

  -- the input ends here, and its last line, if it is not empty, is answered
  abbrev pub EndsInput : Console M D W → List ℕ → Console M D W → List ℕ → Type 0
  EndsInput c told c₁ told₁ =
      Finished (by_its_rule c) c.book.book c.front.items told c₁.book.book told₁

  -- whatever came before is the input, and the answers are its transcript
  abbrev pub CompletesTranscript : Console M D W → List ℕ → Console M D W → List ℕ → Type 0
  CompletesTranscript c told c₁ told₁ =
      Completes (by_its_rule c) c.book.book c.front.items told c₁.book.book told₁

  -- the run of its book goes on
  abbrev pub ConsoleRunsOn : Console M D W → Console M D W → Type 0
  ConsoleRunsOn c c₁ = RunsOn (may c.book.rule) c.book.book c₁.book.book
