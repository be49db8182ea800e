-- The words of a text, which its spaces part, and the numbers that they write.
use Rattle.std.proofs.Common.{◌≡◌, ◌≢◌, ℕ, ◌^◌, ◌<◌, ◌≤◌, false, eqb, List, [], ◌∷◌, ◌++◌, get_or, ℤ, pos, negsuc, suc, map, decimal, refl, arith}
use lib.Signed.{mag}
use Rattle.std.proofs.lemmas.Bool.Decides.{nat_tests}
use Rattle.std.proofs.lemmas.Fmt.{decimal_is_IsNumeral}
use Rattle.std.proofs.lemmas.List.Elements.{All-append, All-cons, All-from_get_or, All-weaker}
use Rattle.std.proofs.lemmas.List.Splits.{slice_split_at, slice_split_none}
use Rattle.std.proofs.lemmas.Str.Parse.{digit_at}
use Rattle.std.specs.Fmt.{signed_decimal}
use Rattle.std.specs.List.{All, slice_split}
use Rattle.std.specs.Str.Parse.{signed_digits_value}

abbrev pub numbers : List ℕ → List ℤ
numbers bytes = map (signed_digits_value 10) (slice_split (λ byte. eqb byte 32) bytes)

-- a number is written with digits
figures : (n : ℕ) → n < 2 ^ 64 → All (λ byte. 48 ≤ byte) (decimal n)
figures n short = All-from_get_or (λ byte. 48 ≤ byte) (decimal n) 0 (λ i inside. (digit_at (decimal n) i (decimal_is_IsNumeral n short).0.1 inside).0)

no_space : (n : ℕ) → n < 2 ^ 64 → All (λ byte. eqb byte 32 ≡ false) (decimal n)
no_space n short = All-weaker (λ byte. 48 ≤ byte) (λ byte. eqb byte 32 ≡ false) (λ byte h. grind (arith, nat_tests)) (decimal n) (figures n short)

-- no sign stands before a number
value_decimal : (n : ℕ) → n < 2 ^ 64 → signed_digits_value 10 (decimal n) ≡ pos n
value_decimal n short =
    let digits = decimal_is_IsNumeral n short in
    let first = figures n short 0 0 digits.0.0 in
    let no_minus : eqb (get_or (decimal n) 0 0) 45 ≡ false = grind (arith, nat_tests) in
    let no_plus : eqb (get_or (decimal n) 0 0) 43 ≡ false = grind (arith, nat_tests) in
    rw (no_minus, no_plus, digits.1)

pub first_number : (n : ℕ) (rest : List ℕ) → n < 2 ^ 64 → numbers (decimal n ++ 32 ∷ rest) ≡ pos n ∷ numbers rest
first_number n rest short = rw (slice_split_at (λ byte. eqb byte 32) (decimal n) 32 rest (no_space n short) refl, value_decimal n short)

pub last_number : (n : ℕ) → n < 2 ^ 64 → numbers (decimal n) ≡ pos n ∷ []
last_number n short = rw (slice_split_none (λ byte. eqb byte 32) (decimal n) (no_space n short), value_decimal n short)

pub two_numbers : (m n : ℕ) → m < 2 ^ 64 → n < 2 ^ 64 → numbers (decimal m ++ 32 ∷ decimal n) ≡ pos m ∷ pos n ∷ []
two_numbers m n p q = rw (first_number m (decimal n) p, last_number n q)

pub last_height : (z : ℤ) → mag z < 2 ^ 31 → numbers (signed_decimal z) ≡ z ∷ []
last_height (pos n) short = last_number n (omega arith)
last_height (negsuc n) short =
    let after = no_space (suc n) (omega arith) in
    let digits = decimal_is_IsNumeral (suc n) (omega arith) in
    rw (slice_split_none (λ byte. eqb byte 32) (45 ∷ decimal (suc n)) (All-cons (λ byte. eqb byte 32 ≡ false) 45 (decimal (suc n)) refl after), digits.1)

-- ---- what ends no line ----

abbrev pub GoesOn : List ℕ → Type 0
GoesOn bytes = All (λ byte. byte ≢ 10) bytes

pub byte_goes_on : (byte : ℕ) (rest : List ℕ) → byte ≢ 10 → GoesOn rest → GoesOn (byte ∷ rest)
byte_goes_on byte rest other more = All-cons (λ b. b ≢ 10) byte rest other more

pub words_go_on : (xs ys : List ℕ) → GoesOn xs → GoesOn ys → GoesOn (xs ++ 32 ∷ ys)
words_go_on xs ys h more = All-append (λ b. b ≢ 10) xs (32 ∷ ys) h (byte_goes_on 32 ys (λ e. omega arith) more)

pub number_goes_on : (n : ℕ) → n < 2 ^ 64 → GoesOn (decimal n)
number_goes_on n short = All-weaker (λ b. 48 ≤ b) (λ b. b ≢ 10) (λ b h e. omega arith) (decimal n) (figures n short)

pub height_goes_on : (z : ℤ) → mag z < 2 ^ 31 → GoesOn (signed_decimal z)
height_goes_on (pos n) short = number_goes_on n (omega arith)
height_goes_on (negsuc n) short = byte_goes_on 45 (decimal (suc n)) (λ e. omega arith) (number_goes_on (suc n) (omega arith))
