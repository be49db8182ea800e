-- The lines of an input, the transcript of an input, and what a piece of an input does to it.
use Rattle.std.specs.Prelude.{◌≡◌, ℕ, cond, List, [], ◌∷◌, ◌++◌, ◌==◌}

-- how a line changes a thing of the type B: `Answers line b text b'` says that b answers the line by the text, and is b' then
abbrev pub Answering : Type 0 → Type 1
Answering B = List ℕ → B → List ℕ → B → Type 0

-- what ends an input: a last line without byte 10 counts unless it is empty
abbrev pub last_line : List ℕ → List (List ℕ)
last_line [] = []
last_line (x ∷ line) = (x ∷ line) ∷ []

-- the lines of an input, where `line` has come already of the first of them: lines are parted by byte 10
abbrev pub lines_after : List ℕ → List ℕ → List (List ℕ)
lines_after line [] = last_line line
lines_after line (x ∷ input) = cond (x == 10) (line ∷ lines_after [] input) (lines_after (line ++ x ∷ []) input)

-- from b on the lines are answered one after the other: the texts in a row are `texts`, and b' stands at the end
abbrev pub AllAnswered : {B : Type 0} → Answering B → B → List (List ℕ) → List ℕ → B → Type 0
AllAnswered Answers b [] texts b' = (texts ≡ []) × (b' ≡ b)
AllAnswered {B = B} Answers b (line ∷ lines) texts b' =
    (text : List ℕ) × (more : List ℕ) × (next : B) × (texts ≡ text ++ more) × Answers line b text next × AllAnswered Answers next lines more b'

-- the transcript of an input: what its lines are answered, one after the other
abbrev pub Transcript : {B : Type 0} → Answering B → B → List ℕ → List ℕ → B → Type 0
Transcript Answers b input texts b' = AllAnswered Answers b (lines_after [] input) texts b'

-- A piece of an input turns b, with `line` come already of its line, into b₁ with `line₁`, and gives the answers `texts`:
-- whatever input comes after the piece, what it is answered from there on comes after these texts in what the piece and
-- that input are answered from here on.
abbrev pub Takes : {B : Type 0} → Answering B → B → List ℕ → List ℕ → List ℕ → B → List ℕ → Type 0
Takes {B = B} Answers b line piece texts b₁ line₁ =
    (rest : List ℕ) (more : List ℕ) (b' : B)
    → AllAnswered Answers b₁ (lines_after line₁ rest) more b'
    → AllAnswered Answers b (lines_after line (piece ++ rest)) (texts ++ more) b'

-- the same of what has been told in all: before the piece `told`, after it `told₁`
pub record Taken {B : Type 0} (Answers : Answering B) (b : B) (line piece told : List ℕ) (b₁ : B) (line₁ told₁ : List ℕ) : Type 0 where
  pub texts : List ℕ
  pub appended : told₁ ≡ told ++ texts
  pub takes : Takes Answers b line piece texts b₁ line₁

-- one line is answered: before it `told` has been told, after it `told₁`
pub record Told {B : Type 0} (Answers : Answering B) (b : B) (line told : List ℕ) (b₁ : B) (told₁ : List ℕ) : Type 0 where
  pub text : List ℕ
  pub appended : told₁ ≡ told ++ text
  pub answered : Answers line b text b₁

-- the input ends: of its line `line` has come, and nothing comes after it
pub record Finished {B : Type 0} (Answers : Answering B) (b : B) (line told : List ℕ) (b₁ : B) (told₁ : List ℕ) : Type 0 where
  pub texts : List ℕ
  pub appended : told₁ ≡ told ++ texts
  pub answered : AllAnswered Answers b (lines_after line []) texts b₁

-- so much of an input, from b₀ on, has led to b with `line` come of its line, and was answered by these texts
abbrev pub SoFar : {B : Type 0} → Answering B → B → List ℕ → List ℕ → B → List ℕ → Type 0
SoFar Answers b₀ input texts b line = Takes Answers b₀ [] input texts b line

-- whatever came so far, with this piece more has come
unfoldable pub GoesOn : {B : Type 0} → Answering B → B → List ℕ → List ℕ → List ℕ → B → List ℕ → List ℕ → Type 0
GoesOn {B = B} Answers b line piece told b₁ line₁ told₁ =
    (b₀ : B) (input texts : List ℕ)
    → SoFar Answers b₀ input texts b line
    → (new : List ℕ) × (told₁ ≡ told ++ new) × SoFar Answers b₀ (input ++ piece) (texts ++ new) b₁ line₁

-- whatever came so far, that is the input, and with what is told at its end the texts are its transcript
unfoldable pub Completes : {B : Type 0} → Answering B → B → List ℕ → List ℕ → B → List ℕ → Type 0
Completes {B = B} Answers b line told b₁ told₁ =
    (b₀ : B) (input texts : List ℕ)
    → SoFar Answers b₀ input texts b line
    → (new : List ℕ) × (told₁ ≡ told ++ new) × Transcript Answers b₀ input (texts ++ new) b₁
