-- What the words of a request line say, for the functions that read them. Assumes nothing.
use Rattle.std.specs.Prelude.{◌≡◌, ℕ, ◌+◌, ◌<◌, List, [], ◌∷◌, ◌++◌, length, take, drop, ℤ, Option, Some, None, Ok, Err, Result, decimal, slice_index_or}
use Rattle.numerals.specs.declared.range.Range.{Range}
use Rattle.numerals.specs.Numerals.{Numeral, Scanned}
use Rattle.numerals.specs.Places.{Fault, Longest}
use Rattle.request_line.specs.declared.word.Letter.{Letter}
use Rattle.request_line.specs.declared.word.Letter.TheVariants as letter
use Rattle.request_line.specs.declared.word.Word.{Word}
use Rattle.request_line.specs.declared.word.Word.TheVariants as word
use Rattle.request_line.specs.Lines.{Fits, HeightFits, NumberFits}
use Rattle.schedule.specs.declared.request.Request.{Request}
use Rattle.schedule.specs.declared.request.Request.TheVariants as request
use Rattle.std.specs.Fmt.{signed_decimal}

-- ---- what a text says ----

-- the byte of a letter
abbrev pub letter_byte : Letter → ℕ
letter_byte letter.Begin = 66
letter_byte letter.Read = 82
letter_byte letter.Write = 87
letter_byte letter.End = 69
letter_byte letter.GiveUp = 71
letter_byte letter.GroupSize = 76

-- the text is the letter k
pub record SaysLetter (text : List ℕ) (k : Letter) : Type 0 where
  pub is : text ≡ letter_byte k ∷ []

-- the text is the number v
pub record SaysNumber (text : List ℕ) (v : ℕ) : Type 0 where
  pub fits : NumberFits v
  pub is : text ≡ decimal v

-- the text is the height z
pub record SaysHeight (text : List ℕ) (z : ℤ) : Type 0 where
  pub fits : HeightFits z
  pub is : text ≡ signed_decimal z

-- ---- languages ----

-- the text says some value
pub record Saying {V : Type 0} (Says : List ℕ → V → Type 0) (text : List ℕ) : Type 0 where
  pub value : V
  pub says : Says text value

-- a text that says a value, a space, and a text of what may follow that value
pub record Then {V : Type 0} (Says : List ℕ → V → Type 0) (Rest : V → List ℕ → Type 0) (text : List ℕ) : Type 0 where
  pub front : List ℕ
  pub back : List ℕ
  pub value : V
  pub first : Says front value
  pub second : Rest value back
  pub is : text ≡ front ++ 32 ∷ back

-- what is left of a line at the place `at` goes wrong at the place p
pub record FaultAt (L : List ℕ → Type 0) (rest : List ℕ) (at p : ℕ) : Type 0 where
  pub count : ℕ
  pub place : p ≡ at + count
  pub fault : Fault L rest count

-- ---- what stands at the front of a text ----

-- the byte stands in the text at the place
pub record ByteAt (byte : ℕ) (text : List ℕ) (place : ℕ) : Type 0 where
  pub inside : place < length text
  pub here : slice_index_or text place 0 ≡ byte

-- the first count bytes of the text are as much as goes on to a text that says a value, and they say v
pub record Front {V : Type 0} (Says : List ℕ → V → Type 0) (text : List ℕ) (count : ℕ) (v : V) : Type 0 where
  pub longest : Longest (Saying Says) text count
  pub says : Says (take count text) v

-- the first count bytes of the text are as much as goes on to a text that says a value, and they say none
pub record NoFront {V : Type 0} (Says : List ℕ → V → Type 0) (text : List ℕ) (count : ℕ) : Type 0 where
  pub longest : Longest (Saying Says) text count
  pub refused : Saying Says (take count text) → ⊥

-- a numeral of the range begins the text and was scanned, or none begins it
abbrev pub Begun : Range → List ℕ → Option (ℕ × ℕ) → Type 0
Begun range text None = Longest (Numeral range) text 0
Begun range text (Some (count, v)) = (0 < count) × Scanned range text count v

-- ---- words of a line ----

-- the part of the line that a word is
abbrev pub part_of : Word → List ℕ
part_of (word.Letter part place k) = part.now
part_of (word.Number part place v) = part.now
part_of (word.Height part place z) = part.now

-- its place there
abbrev pub place_of : Word → ℕ
place_of (word.Letter part place k) = place
place_of (word.Number part place v) = place
place_of (word.Height part place z) = place

-- the letter that a word says
abbrev pub letter_said : Word → Option Letter
letter_said (word.Letter part place k) = Some k
letter_said (word.Number part place v) = None
letter_said (word.Height part place z) = None

-- the number that a word says
abbrev pub number_said : Word → Option ℕ
number_said (word.Letter part place k) = None
number_said (word.Number part place v) = Some v
number_said (word.Height part place z) = None

-- the height that a word says
abbrev pub height_said : Word → Option ℤ
height_said (word.Letter part place k) = None
height_said (word.Number part place v) = None
height_said (word.Height part place z) = Some z

-- ---- what is left of a line at the place `at` ----

-- the word is the part at its front that says a value, and as much as goes on to one
pub record IsWord {V : Type 0} (Says : List ℕ → V → Type 0) (said : Word → Option V) (rest : List ℕ) (at : ℕ) (w : Word) : Type 0 where
  pub count : ℕ
  pub value : V
  pub front : Front Says rest count value
  pub part : part_of w ≡ take count rest
  pub place : place_of w ≡ at
  pub says : said w ≡ Some value

-- as much as goes on to a text that says a value stops at the place p and says none
pub record NoWord {V : Type 0} (Says : List ℕ → V → Type 0) (rest : List ℕ) (at p : ℕ) : Type 0 where
  pub count : ℕ
  pub place : p ≡ at + count
  pub none : NoFront Says rest count

-- a word says the value v, and `left` is left after it, at the place `next`
pub record Stands {V : Type 0} (Says : List ℕ → V → Type 0) (rest : List ℕ) (at : ℕ) (left : List ℕ) (next : ℕ) (v : V) : Type 0 where
  pub count : ℕ
  pub place : next ≡ at + count
  pub after : left ≡ drop count rest
  pub front : Front Says rest count v

-- a word says the value v, a space follows, and `left` is left after that, at the place `next`
pub record Parted {V : Type 0} (Says : List ℕ → V → Type 0) (rest : List ℕ) (at : ℕ) (left : List ℕ) (next : ℕ) (v : V) : Type 0 where
  pub count : ℕ
  pub place : next ≡ at + count + 1
  pub after : left ≡ drop (count + 1) rest
  pub front : Front Says rest count v
  pub space : ByteAt 32 rest count

-- as much as goes on to a text that says a value stops at the place p, and says none or has no space after it
pub record NotParted {V : Type 0} (Says : List ℕ → V → Type 0) (rest : List ℕ) (at p : ℕ) : Type 0 where
  pub count : ℕ
  pub place : p ≡ at + count
  pub longest : Longest (Saying Says) rest count
  pub refused : ByteAt 32 rest count → Saying Says (take count rest) → ⊥

-- ---- the words after a letter and a space ----

-- the texts that may follow the letter
abbrev pub Rest : Letter → List ℕ → Type 0
Rest letter.Begin = Saying SaysNumber
Rest letter.Read = Then SaysNumber (λ _. Saying SaysNumber)
Rest letter.Write = Then SaysNumber (λ _. Then SaysNumber (λ _. Saying SaysHeight))
Rest letter.End = Saying SaysNumber
Rest letter.GiveUp = Saying SaysNumber
Rest letter.GroupSize = Saying SaysNumber

-- the letter of a request
abbrev pub letter_for : Request ℤ → Letter
letter_for (request.Begin class) = letter.Begin
letter_for (request.Read ticket cell) = letter.Read
letter_for (request.Write ticket cell height) = letter.Write
letter_for (request.End ticket) = letter.End
letter_for (request.GiveUp ticket) = letter.GiveUp
letter_for (request.GroupSize size) = letter.GroupSize

-- what follows its letter and a space
abbrev pub body : Request ℤ → List ℕ
body (request.Begin class) = decimal class
body (request.Read ticket cell) = decimal ticket ++ 32 ∷ decimal cell
body (request.Write ticket cell height) = decimal ticket ++ 32 ∷ (decimal cell ++ 32 ∷ signed_decimal height)
body (request.End ticket) = decimal ticket
body (request.GiveUp ticket) = decimal ticket
body (request.GroupSize size) = decimal size

-- the text makes the request after the letter
pub record Makes (k : Letter) (text : List ℕ) (r : Request ℤ) : Type 0 where
  pub letter : letter_for r ≡ k
  pub fits : Fits r
  pub is : text ≡ body r

-- what is left after the letter makes the request, or goes wrong at the place
abbrev pub RequestAfter : Letter → List ℕ → ℕ → Result (Request ℤ) ℕ → Type 0
RequestAfter k rest at (Ok r) = Makes k rest r
RequestAfter k rest at (Err p) = FaultAt (Rest k) rest at p
