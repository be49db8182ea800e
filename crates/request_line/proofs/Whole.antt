-- The permitted lines: a letter, a space and what may follow that letter. Assumes nothing.
use Rattle.std.proofs.Common.{◌≡◌, ℕ, List, [], ◌∷◌, ◌++◌, ℤ, pos, Ok, Err, Result, decimal, sym, refl, ap, ◌∙◌, subst, arith}
use Rattle.numerals.specs.Places.{Fault}
use Rattle.request_line.proofs.Figures.{plain_letter, plain_number}
use Rattle.request_line.proofs.Languages.{joined, not_parted, same_fault, second}
use Rattle.request_line.specs.declared.word.Letter.{Letter}
use Rattle.request_line.specs.declared.word.Letter.TheVariants.{Begin, End, GiveUp, GroupSize, Read, Write}
use Rattle.request_line.specs.Lines.{Fits, HeightFits, NumberFits, Permitted, Reads, shown}
use Rattle.request_line.specs.Words.{FaultAt, NotParted, Parted, RequestAfter, Rest, Saying, SaysHeight, SaysLetter, SaysNumber, Then, body, letter_byte, letter_for}
use Rattle.schedule.specs.declared.request.Request.{Request}
use Rattle.schedule.specs.declared.request.Request.TheVariants as request
use Rattle.std.specs.Fmt.{signed_decimal}

-- ---- what may follow the letter and a space ----

abbrev pub Number : List ℕ → Type 0
Number = Saying SaysNumber

-- a number and a height
abbrev pub Pair : List ℕ → Type 0
Pair = Then SaysNumber (λ _. Saying SaysHeight)

number : (n : ℕ) → NumberFits n → Number (decimal n)
number n f = record { value = n; says = record { fits = f; is = refl } }

height : (z : ℤ) → HeightFits z → Saying SaysHeight (signed_decimal z)
height z f = record { value = z; says = record { fits = f; is = refl } }

then : (M : List ℕ → Type 0) (n : ℕ) (ys : List ℕ) → NumberFits n → M ys → Then SaysNumber (λ _. M) (decimal n ++ 32 ∷ ys)
then M n ys f m = record { front = decimal n; back = ys; value = n; first = record { fits = f; is = refl }; second = m; is = refl }

pub some_number : (m : List ℕ) × Number m
some_number = (decimal 0, number 0 (omega arith))

pub some_height : (m : List ℕ) × Saying SaysHeight m
some_height = (signed_decimal (pos 0), height (pos 0) (omega arith))

pub some_pair : (m : List ℕ) × Pair m
some_pair = (_, then (Saying SaysHeight) 0 some_height.0 (omega arith) some_height.1)

some_rest : (k : Letter) → (m : List ℕ) × Rest k m
some_rest Begin = some_number
some_rest Read = (_, then Number 0 some_number.0 (omega arith) some_number.1)
some_rest Write = (_, then Pair 0 some_pair.0 (omega arith) some_pair.1)
some_rest End = some_number
some_rest GiveUp = some_number
some_rest GroupSize = some_number

-- ---- the permitted lines are the letters with a right rest ----

pub shown_is : (r : Request ℤ) → shown r ≡ letter_byte (letter_for r) ∷ 32 ∷ body r
shown_is (request.Begin class) = refl
shown_is (request.Read ticket cell) = refl
shown_is (request.Write ticket cell height) = refl
shown_is (request.End ticket) = refl
shown_is (request.GiveUp ticket) = refl
shown_is (request.GroupSize size) = refl

rest_of : (r : Request ℤ) → Fits r → Rest (letter_for r) (body r)
rest_of (request.Begin n) f = number n f
rest_of (request.Read t c) f = then Number t _ f.0 (number c f.1)
rest_of (request.Write t c z) f = then Pair t _ f.0 (then (Saying SaysHeight) c _ f.1 (height z f.2))
rest_of (request.End n) f = number n f
rest_of (request.GiveUp n) f = number n f
rest_of (request.GroupSize n) f = number n f

from : (line : List ℕ) → Permitted line → Then SaysLetter Rest line
from line p = record {
  front = letter_byte (letter_for p.request) ∷ [];
  back = body p.request;
  value = letter_for p.request;
  first = record { is = refl };
  second = rest_of p.request p.fits;
  is = p.is ∙ shown_is p.request;
}

permitted : (r : Request ℤ) (xs : List ℕ) → Fits r → xs ≡ body r → Permitted (letter_byte (letter_for r) ∷ 32 ∷ xs)
permitted r xs f e = record { request = r; fits = f; is = ap (λ (l : List ℕ). letter_byte (letter_for r) ∷ 32 ∷ l) e ∙ sym (shown_is r) }

by_letter : (k : Letter) (xs : List ℕ) → Rest k xs → Permitted (letter_byte k ∷ 32 ∷ xs)
by_letter Begin xs n = permitted (request.Begin n.value) xs n.says.fits n.says.is
by_letter Read xs t =
    permitted (request.Read t.value t.second.value) xs (t.first.fits, t.second.says.fits) (t.is ∙ (λ i. t.first.is i ++ 32 ∷ t.second.says.is i))
by_letter Write xs t =
    let p = t.second in
    permitted (request.Write t.value p.value p.second.value) xs (t.first.fits, p.first.fits, p.second.says.fits)
    (t.is ∙ (λ i. t.first.is i ++ 32 ∷ (p.is ∙ (λ j. p.first.is j ++ 32 ∷ p.second.says.is j)) i))
by_letter End xs n = permitted (request.End n.value) xs n.says.fits n.says.is
by_letter GiveUp xs n = permitted (request.GiveUp n.value) xs n.says.fits n.says.is
by_letter GroupSize xs n = permitted (request.GroupSize n.value) xs n.says.fits n.says.is

to : (line : List ℕ) → Then SaysLetter Rest line → Permitted line
to line t = subst Permitted (sym (t.is ∙ ap (λ (l : List ℕ). l ++ 32 ∷ t.back) t.first.is)) (by_letter t.value t.back t.second)

-- ---- what a line says ----

fault : (line : List ℕ) (p : ℕ) → FaultAt (Then SaysLetter Rest) line 0 p → Fault Permitted line p
fault line p f = let e : f.count ≡ p = let q = f.place in omega arith in subst (Fault Permitted line) e (same_fault to from f.fault)

-- no letter and a space begin it
pub no_request : (line : List ℕ) (p : ℕ) → NotParted SaysLetter line 0 p → Fault Permitted line p
no_request line p u = fault line p (not_parted plain_letter Rest some_rest u)

-- the letter k and a space begin it: it says what is left after them
pub says_after : (k : Letter) (line left : List ℕ) (next : ℕ) (said : Result (Request ℤ) ℕ) → Parted SaysLetter line 0 left next k → RequestAfter k left next said → Reads line said
says_after k line left next (Ok r) h m =
    (m.fits, joined plain_letter Rest h ∙ (λ i. (h.front.says.is ∙ ap (λ (j : Letter). letter_byte j ∷ []) (sym m.letter)) i ++ 32 ∷ m.is i) ∙ sym (shown_is r))
says_after k line left next (Err p) h f = fault line p (second plain_letter Rest h f)

-- where the words of a read or a write go wrong
module _ (k : Letter) (rest : List ℕ) (at : ℕ) (said : Result (Request ℤ) ℕ) (p : ℕ) (wrong : said ≡ Err p) where
  at_place : FaultAt (Rest k) rest at p → RequestAfter k rest at said
  at_place f = rw wrong f

  module _ (read : k ≡ Read) where
    pub wrong_ticket_read : NotParted SaysNumber rest at p → RequestAfter k rest at said
    wrong_ticket_read u = at_place (rw read (not_parted plain_number (λ _. Number) (λ _. some_number) u))

    pub wrong_cell_read : (left : List ℕ) (next v : ℕ) → Parted SaysNumber rest at left next v → FaultAt Number left next p → RequestAfter k rest at said
    wrong_cell_read left next v l f = at_place (rw read (second plain_number (λ _. Number) l f))

  module _ (write : k ≡ Write) where
    pub wrong_ticket : NotParted SaysNumber rest at p → RequestAfter k rest at said
    wrong_ticket u = at_place (rw write (not_parted plain_number (λ _. Pair) (λ _. some_pair) u))

    module _ (left : List ℕ) (next v : ℕ) (l : Parted SaysNumber rest at left next v) where
      pub wrong_cell : NotParted SaysNumber left next p → RequestAfter k rest at said
      wrong_cell u = at_place (rw write (second plain_number (λ _. Pair) l (not_parted plain_number (λ _. Saying SaysHeight) (λ _. some_height) u)))

      pub wrong_height : (last : List ℕ) (end w : ℕ) → Parted SaysNumber left next last end w → FaultAt (Saying SaysHeight) last end p → RequestAfter k rest at said
      wrong_height last end w m f = at_place (rw write (second plain_number (λ _. Pair) l (second plain_number (λ _. Saying SaysHeight) m f)))

-- for the request that the words after a letter make
pub ruleset wrong_words = (wrong_ticket_read, wrong_cell_read, wrong_ticket, wrong_cell, wrong_height)
