-- The numerals of a range of numbers. Assumes nothing.
use Rattle.std.specs.Prelude.{◌≡◌, ◌≢◌, ℕ, ◌+◌, ◌-◌, ◌*◌, ◌<◌, ◌≤◌, List, take, Some, None, decimal, Option, unwrap_or}
use Rattle.numerals.specs.declared.range.Range.{Range}
use Rattle.numerals.specs.declared.range.Range.TheVariants as range
use Rattle.numerals.specs.Places.{Longest}

-- the least number of a range
abbrev pub low : Range → ℕ
low range.Number = 0
low range.Height = 0
low range.Depth = 1

-- the greatest number of a range
abbrev pub high : Range → ℕ
high range.Number = 4294967295
high range.Height = 2147483647
high range.Depth = 2147483648

-- the text is the numeral, with no leading zero, of a number of the range
pub record Numeral (range : Range) (text : List ℕ) : Type 0 where
  pub number : ℕ
  pub above : low range ≤ number
  pub below : number ≤ high range
  pub is : text ≡ decimal number

-- the first count bytes of the text are as much as goes on to a numeral of the range, and value is the number that they
-- write
pub record Scanned (range : Range) (text : List ℕ) (count value : ℕ) : Type 0 where
  pub longest : Longest (Numeral range) text count
  pub above : 0 < count → low range ≤ value
  pub below : 0 < count → value ≤ high range
  pub is : 0 < count → take count text ≡ decimal value

-- the number that the digits so far write; of none, 0
abbrev pub so_far : Option ℕ → ℕ
so_far written = unwrap_or written 0

-- after the digits that write a number, if there are any, the byte is a digit with which a numeral of the range goes on
pub record GoesOn (written : Option ℕ) (byte : ℕ) (range : Range) : Type 0 where
  pub digit : (48 ≤ byte) × (byte ≤ 57)
  pub no_zero : written ≢ Some 0
  pub above : low range ≤ so_far written * 10 + (byte - 48)
  pub below : so_far written * 10 + (byte - 48) ≤ high range

-- the number with that digit, if a numeral goes on so
abbrev pub Next : Option ℕ → ℕ → Range → Option ℕ → Type 0
Next written byte range None = GoesOn written byte range → ⊥
Next written byte range (Some number) = GoesOn written byte range × (number ≡ so_far written * 10 + (byte - 48))
