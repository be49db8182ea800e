-- How many digits a number has at most, and how many bytes the end of a line has.
use Rattle.std.proofs.Common.{◌≡◌, ℕ, ◌-◌, ◌^◌, ◌<◌, ◌≤◌, List, drop, length, decimal, sym, ap, ◌∙◌, arith}
use Rattle.std.proofs.lemmas.Fmt.{length-decimal-le}
use Rattle.std.proofs.lemmas.List.{length-drop}

pub at_most_20_digits : (n : ℕ) → n < 2 ^ 64 → length (decimal n) ≤ 20
at_most_20_digits n short = length-decimal-le 20 n (omega arith) (omega arith) short

pub at_most_10_digits : (n : ℕ) → n < 2 ^ 32 → length (decimal n) ≤ 10
at_most_10_digits n short = length-decimal-le 10 n (omega arith) (omega arith) (omega arith)

pub bytes_of_end : (bytes : List ℕ) (at : ℕ) {end : List ℕ} → length bytes ≡ 64 → drop at bytes ≡ end → length end ≡ 64 - at
bytes_of_end bytes at long is = sym (ap length is) ∙ length-drop at bytes ∙ ap (λ (k : ℕ). k - at) long
