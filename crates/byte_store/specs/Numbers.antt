-- Signed numbers of 32 bits in bytes, four to a number, the highest byte first.
use Rattle.std.specs.Prelude.{ℕ, ◌+◌, ◌*◌, ◌/◌, List, ◌++◌, length, take, drop, map, ℤ, nat_lt, if◌then◌else◌}
use Rattle.std.specs.Int.{cast_signed, cast_unsigned, from_be_bytes, to_be_bytes, w32}
use Rattle.std.specs.Simd.{first_chunks}

-- the number in four bytes: of 2 ^ 31 and above they stand for a negative one (two's complement)
abbrev pub number : List ℕ → ℤ
number four = cast_signed w32 (from_be_bytes w32 four)

-- the four bytes of a number
abbrev pub bytes_of : ℤ → List ℕ
bytes_of z = to_be_bytes w32 (cast_unsigned w32 z)

-- the numbers in a row of bytes; up to three bytes left over at the end are part of none
abbrev pub numbers : List ℕ → List ℤ
numbers bytes = map number (first_chunks 4 (length bytes / 4) bytes)

-- the bytes past the last number
abbrev pub left_over : List ℕ → List ℕ
left_over bytes = drop (4 * (length bytes / 4)) bytes

-- the bytes after a put of number i: its four are replaced; past the last number nothing changes
abbrev pub put_number : List ℕ → ℕ → ℤ → List ℕ
put_number bytes i z =
    if nat_lt i (length bytes / 4) then take (4 * i) bytes ++ bytes_of z ++ drop (4 * i + 4) bytes else bytes
