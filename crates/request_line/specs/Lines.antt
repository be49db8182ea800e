-- The permitted request lines, and what a line says. Assumes nothing.
use Rattle.std.specs.Prelude.{◌≡◌, ℕ, ◌≤◌, List, ◌++◌, ℤ, pos, negsuc, Ok, Err, codes, decimal, Result}
use Rattle.numerals.specs.Places.{Fault}
use Rattle.schedule.specs.declared.request.Request.{Request}
use Rattle.schedule.specs.declared.request.Request.TheVariants.{Begin, End, GiveUp, GroupSize, Read, Write}
use Rattle.std.specs.Fmt.{signed_decimal}

-- a number of 32 bits
abbrev pub NumberFits : ℕ → Type 0
NumberFits n = n ≤ 4294967295

-- a height lies in -2147483648 to 2147483647 (negsuc n is -(n + 1))
abbrev pub HeightFits : ℤ → Type 0
HeightFits (pos n) = n ≤ 2147483647
HeightFits (negsuc n) = n ≤ 2147483647

-- the numbers of a request have their widths
abbrev pub Fits : Request ℤ → Type 0
Fits (Begin class) = NumberFits class
Fits (Read ticket cell) = NumberFits ticket × NumberFits cell
Fits (Write ticket cell height) = NumberFits ticket × NumberFits cell × HeightFits height
Fits (End ticket) = NumberFits ticket
Fits (GiveUp ticket) = NumberFits ticket
Fits (GroupSize size) = NumberFits size

-- the line that a request shows: a letter and its words, parted by one space each; decimal and signed_decimal write
-- numbers with no leading zero
abbrev pub shown : Request ℤ → List ℕ
shown (Begin class) = codes "B " ++ decimal class
shown (Read ticket cell) = codes "R " ++ (decimal ticket ++ (codes " " ++ decimal cell))
shown (Write ticket cell height) = codes "W " ++ (decimal ticket ++ (codes " " ++ (decimal cell ++ (codes " " ++ signed_decimal height))))
shown (End ticket) = codes "E " ++ decimal ticket
shown (GiveUp ticket) = codes "G " ++ decimal ticket
shown (GroupSize size) = codes "L " ++ decimal size

-- the line is what some request shows
pub record Permitted (line : List ℕ) : Type 0 where
  pub request : Request ℤ
  pub fits : Fits request
  pub is : line ≡ shown request

-- what a line says: the request that it shows, or the greatest place up to which it begins a permitted line
abbrev pub Reads : List ℕ → Result (Request ℤ) ℕ → Type 0
Reads line (Ok request) = Fits request × (line ≡ shown request)
Reads line (Err place) = Fault Permitted line place

-- the line says nothing else
abbrev pub OnlyReading : List ℕ → Result (Request ℤ) ℕ → Type 0
OnlyReading line said = (other : Result (Request ℤ) ℕ) → Reads line other → other ≡ said

-- two requests never share a line
abbrev pub NoSharedLine : Type 0
NoSharedLine = (p q : Request ℤ) → Fits p → Fits q → shown p ≡ shown q → p ≡ q
