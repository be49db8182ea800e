-- What one turn of the scan of a numeral keeps, and why it stops. Assumes nothing.
use Rattle.std.proofs.Common.{◌≡◌, ℕ, ◌+◌, ◌-◌, ◌*◌, ◌/◌, ◌%◌, ◌^◌, ◌<◌, ◌≤◌, List, [], ◌∷◌, ◌++◌, length, get_or, take, Some, None, Option, decimal, sym, refl, ap, ◌∙◌, subst, ⊎_elim, append-nil, le_refl, arith, length-append, length-take-le}
use lib.Seq.{get_or_at}
use Rattle.numerals.specs.declared.range.Range.{Range}
use Rattle.numerals.specs.declared.range.Range.TheVariants.{Depth, Height, Number}
use Rattle.numerals.specs.Numerals.{GoesOn, Numeral, Scanned, high, low, so_far}
use Rattle.numerals.specs.Places.{Begins}
use Rattle.std.proofs.lemmas.Fmt.{decimal_digit, decimal_is_IsNumeral, decimal_step, first_decimal}
use Rattle.std.proofs.lemmas.Int.Digits.{digits_value_push}
use Rattle.std.proofs.lemmas.List.Prefix.{front_reads}
use Rattle.std.proofs.lemmas.List.{take_more}
use Rattle.std.proofs.lemmas.Str.Parse.{digit_at}
use Rattle.std.proofs.lemmas.Bool.Decides.{nat_tests}
use Rattle.std.proofs.str.Laws.{order as either_way}
use Rattle.std.specs.Str.Parse.{digits_value, digits_value_after}
use Rattle.std.specs.Int.{IsInRange}
use Rattle.std.specs.Char.{digit_value}

-- what the scan needs of a range
record Bounds (r : Range) : Type 0 where
  start : low r ≤ 1
  some : low r ≤ high r
  fits : high r < 2 ^ 64

bounds : (r : Range) → Bounds r
bounds Number = record { start = omega arith; some = omega arith; fits = omega arith }
bounds Height = record { start = omega arith; some = omega arith; fits = omega arith }
bounds Depth = record { start = omega arith; some = omega arith; fits = omega arith }

digit_value_is : (b : ℕ) → 48 ≤ b → b ≤ 57 → digit_value b ≡ b - 48
digit_value_is b h l = grind (arith, nat_tests)

digits_value_after_ge : (n : ℕ) (ds : List ℕ) → n ≤ digits_value_after 10 n ds
digits_value_after_ge n [] = le_refl n
digits_value_after_ge n (c ∷ cs) = omega (arith, digits_value_after_ge (n * 10 + digit_value c) cs)

value_append : (n : ℕ) (xs ys : List ℕ) → digits_value_after 10 n (xs ++ ys) ≡ digits_value_after 10 (digits_value_after 10 n xs) ys
value_append n [] ys = refl
value_append n (x ∷ xs) ys = value_append (n * 10 + digit_value x) xs ys

-- digits after a front make its number no less
value_front : (xs ys : List ℕ) → digits_value 10 xs ≤ digits_value 10 (xs ++ ys)
value_front xs ys = rw (value_append 0 xs ys) (digits_value_after_ge (digits_value 10 xs) ys)

-- one more digit after a numeral that is not 0
decimal_push : (v d : ℕ) → 0 < v → d < 10 → v * 10 + d < 2 ^ 64 → decimal v ++ ((48 + d) ∷ []) ≡ decimal (v * 10 + d)
decimal_push v d some small fits =
    let q : (v * 10 + d) / 10 ≡ v = omega arith in
    let r : (v * 10 + d) % 10 ≡ d = omega arith in
    sym (decimal_step (v * 10 + d) (omega arith) fits ∙ (λ i. decimal (q i) ++ ((48 + r i) ∷ [])))

-- the first n bytes of xs write v, a number of the range
pub record Wrote (range : Range) (xs : List ℕ) (n v : ℕ) : Type 0 where
  pub within : n ≤ length xs
  pub some : 0 < n
  pub above : low range ≤ v
  pub below : v ≤ high range
  pub is : take n xs ≡ decimal v

-- the same of the number that is written so far, if there is one
abbrev pub Written : Range → List ℕ → ℕ → Option ℕ → Type 0
Written range xs n None = n ≡ 0
Written range xs n (Some v) = Wrote range xs n v

within : (range : Range) (xs : List ℕ) (n : ℕ) (o : Option ℕ) → Written range xs n o → n ≤ length xs
within range xs n None w = omega arith
within range xs n (Some v) w = w.within

module _ (range : Range) (xs : List ℕ) {n b : ℕ} (more : n < length xs) (at : b ≡ get_or xs n 0) where
  pushed : take (n + 1) xs ≡ take n xs ++ (b ∷ [])
  pushed = take_more xs n 0 more ∙ ap (λ (y : ℕ). take n xs ++ (y ∷ [])) (sym at)

  written : (o : Option ℕ) → Written range xs n o → GoesOn o b range → take (n + 1) xs ≡ decimal (so_far o * 10 + (b - 48))
  written None w g =
      let h = g.digit in
      let back : 48 + (b - 48) ≡ b = omega arith in
      let e : 0 * 10 + (b - 48) ≡ b - 48 = omega arith in
      pushed ∙ ap (λ (m : ℕ). take m xs ++ (b ∷ [])) w ∙ ap (λ (y : ℕ). y ∷ []) (sym back) ∙ sym (decimal_digit (b - 48) (omega arith)) ∙ ap decimal (sym e)
  written (Some v) w g =
      let h = g.digit in
      let back : 48 + (b - 48) ≡ b = omega arith in
      let f = g.below in
      let t = (bounds range).fits in
      let some : 0 < v = ⊎_elim (λ (h : 0 < v). h) (λ (h : v ≤ 0). let z : v ≡ 0 = omega arith in absurd (g.no_zero (ap Some z))) (either_way 0 v) in
      pushed ∙ (λ i. w.is i ++ (sym back i ∷ [])) ∙ decimal_push v (b - 48) some (omega arith) (omega arith)

  pub one_more : (o : Option ℕ) → Written range xs n o → GoesOn o b range → Wrote range xs (n + 1) (so_far o * 10 + (b - 48))
  one_more o w g = record { within = omega arith; some = omega arith; above = g.above; below = g.below; is = written o w g }

  value_written : (o : Option ℕ) → Written range xs n o → digits_value 10 (take n xs) ≡ so_far o
  value_written None w = ap (λ (m : ℕ). digits_value 10 (take m xs)) w
  value_written (Some v) w = let t = (bounds range).fits in let l = w.below in ap (digits_value 10) w.is ∙ (decimal_is_IsNumeral v (omega arith)).1

  -- no numeral goes on after a zero at its front
  zero_ends : (m : ℕ) (ys : List ℕ) → n + 1 ≤ length (decimal m) → (take n xs ++ (b ∷ [])) ++ ys ≡ decimal m → m < 2 ^ 64 → take n xs ≡ 48 ∷ [] → 0 < n → ⊥
  zero_ends m ys long front fits zero some =
      let e : get_or (decimal m) 0 0 ≡ 48 = ap (λ (l : List ℕ). get_or l 0 0) (sym front) ∙ ap (λ (t : List ℕ). get_or ((t ++ (b ∷ [])) ++ ys) 0 0) zero in
      ⊎_elim
      (λ (h : 0 < m). let f = first_decimal m h fits in omega arith)
      (λ (h : m ≤ 0). let z : m ≡ 0 = omega arith in let l = ap (λ (k : ℕ). length (decimal k)) z ∙ ap length (decimal_digit 0 (omega arith)) in omega arith)
      (either_way 0 m)

  module _ (m : ℕ) (ys : List ℕ) (long : n + 1 ≤ length (decimal m)) (front : (take n xs ++ (b ∷ [])) ++ ys ≡ decimal m) (fits : m < 2 ^ 64) where
    not_zero : (o : Option ℕ) → Written range xs n o → o ≡ Some 0 → ⊥
    not_zero None w e = absurd (cc)
    not_zero (Some v) w e =
        let z : v ≡ 0 = cc in
        zero_ends m ys long front fits (w.is ∙ ap decimal z ∙ decimal_digit 0 (omega arith)) w.some

    at_least : (o : Option ℕ) → Written range xs n o → (o ≡ Some 0 → ⊥) → get_or (decimal m) n 0 ≡ b → low range ≤ m → 48 ≤ b → low range ≤ so_far o * 10 + (b - 48)
    at_least None w not here l d =
        let start = (bounds range).start in
        ⊎_elim
        (λ (h : 0 < low range). let f = first_decimal m (omega arith) fits in let e = ap (λ (k : ℕ). get_or (decimal m) k 0) w in omega arith)
        (λ (h : low range ≤ 0). omega arith)
        (either_way 0 (low range))
    at_least (Some v) w not here l d =
        let start = (bounds range).start in
        ⊎_elim (λ (h : 0 < v). omega arith) (λ (h : v ≤ 0). let z : v ≡ 0 = omega arith in absurd (not (ap Some z))) (either_way 0 v)

  -- a byte with which some numeral goes on passes the tests
  going : (o : Option ℕ) → Written range xs n o → Begins (Numeral range) (take (n + 1) xs) → GoesOn o b range
  going o w (ys, num) =
      let m = num.number in
      let ml = num.above in
      let mh = num.below in
      let fits = (bounds range).fits in
      let front : (take n xs ++ (b ∷ [])) ++ ys ≡ decimal m = ap (λ (zs : List ℕ). zs ++ ys) (sym pushed) ∙ num.is in
      let reads = decimal_is_IsNumeral m (omega arith) in
      let len = length-take-le n xs (within range xs n o w) in
      let wide = length-append (take n xs) (b ∷ []) in
      let long : n + 1 ≤ length (decimal m) = omega (arith, ap length front, length-append (take n xs ++ (b ∷ [])) ys) in
      let here : get_or (decimal m) n 0 ≡ b =
      front_reads 0 (decimal m) (take n xs ++ (b ∷ [])) ys (sym front) n (omega arith) ∙ get_or_at (take n xs) b [] 0 n len in
      let dig : IsInRange 48 57 b = subst (IsInRange 48 57) here (digit_at (decimal m) n reads.0.1 (omega arith)) in
      let not = not_zero m ys long front (omega arith) o w in
      record {
        digit = dig;
        no_zero = not;
        above = at_least m ys long front (omega arith) o w not here ml dig.0;
        below =
            let f = value_front (take n xs ++ (b ∷ [])) ys in
            let e = ap (digits_value 10) front in
            let p = digits_value_push 10 (take n xs) b in
            let u = value_written o w in
            let d = digit_value_is b dig.0 dig.1 in
            omega (arith, reads.1);
      }

  pub stopped : (o : Option ℕ) → Written range xs n o → (GoesOn o b range → ⊥) → Begins (Numeral range) (take (n + 1) xs) → ⊥
  stopped o w not begins = not (going o w begins)

pub scanned : (range : Range) (xs : List ℕ) (n : ℕ) (o : Option ℕ) → Written range xs n o → (n < length xs → Begins (Numeral range) (take (n + 1) xs) → ⊥) → Scanned range xs n (so_far o)
scanned range xs n None w stops = record {
  longest = record {
    within = omega arith;
    begins =
        (decimal (low range), record { number = low range; above = le_refl (low range); below = (bounds range).some; is = ap (λ (m : ℕ). take m xs ++ decimal (low range)) w });
    stops = stops;
  };
  above = λ some. absurd (omega arith);
  below = λ some. absurd (omega arith);
  is = λ some. absurd (omega arith);
}
scanned range xs n (Some v) w stops = record {
  longest = record {
    within = w.within;
    begins = ([], record { number = v; above = w.above; below = w.below; is = append-nil (take n xs) ∙ w.is });
    stops = stops;
  };
  above = λ some. w.above;
  below = λ some. w.below;
  is = λ some. w.is;
}
