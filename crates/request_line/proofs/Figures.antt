-- The words that say a letter, a number or a height, from what was scanned. Assumes nothing.
use Rattle.std.proofs.Common.{◌≡◌, ℕ, zero, suc, ◌+◌, ◌^◌, ◌<◌, ◌≤◌, cond, eqb, List, [], ◌∷◌, ◌++◌, length, get_or, take, ℤ, pos, negsuc, neg_ℤ, decimal, sym, refl, ap, ◌∙◌, subst, suc-add, add-one, arith}
use lib.Signed.{mag}
use Rattle.numerals.specs.declared.range.Range.{Range}
use Rattle.numerals.specs.declared.range.Range.TheVariants as range
use Rattle.numerals.specs.Numerals.{Numeral, Scanned, high}
use Rattle.numerals.specs.Places.{Longest}
use Rattle.request_line.proofs.Languages.{NoSpace, Plain, head_eq, same_longest, tail_eq}
use Rattle.request_line.specs.declared.word.Letter.{Letter}
use Rattle.request_line.specs.declared.word.Letter.TheVariants.{Begin, End, GiveUp, GroupSize, Read, Write}
use Rattle.request_line.specs.Lines.{HeightFits}
use Rattle.request_line.specs.declared.word.Word.TheVariants as word
use Rattle.request_line.specs.Words.{Front, IsWord, NoFront, Saying, SaysHeight, SaysLetter, SaysNumber, letter_byte, letter_said}
use Rattle.std.specs.Borrow.{Bor}
use Rattle.std.proofs.lemmas.Fmt.{decimal_injective, decimal_is_IsNumeral, decimal_nonempty, signed_decimal_injective}
use Rattle.std.proofs.lemmas.Grind.{common_steps}
use Rattle.std.specs.Str.Parse.{AllDigits}
use Rattle.std.specs.Char.{digit_value}
use Rattle.std.specs.Fmt.{signed_decimal}

-- ---- letters ----

letter_back : ℕ → Letter
letter_back n = cond (eqb n 66) Begin (cond (eqb n 82) Read (cond (eqb n 87) Write (cond (eqb n 69) End (cond (eqb n 71) GiveUp GroupSize))))

back_byte : (k : Letter) → letter_back (letter_byte k) ≡ k
unfolding letter_back
back_byte Begin = refl
back_byte Read = refl
back_byte Write = refl
back_byte End = refl
back_byte GiveUp = refl
back_byte GroupSize = refl

pub same_letter : (j k : Letter) → letter_byte j ≡ letter_byte k → j ≡ k
same_letter j k e = sym (back_byte j) ∙ ap letter_back e ∙ back_byte k

no_space_letter : (k : Letter) → letter_byte k ≡ 32 → ⊥
no_space_letter Begin e = omega arith
no_space_letter Read e = omega arith
no_space_letter Write e = omega arith
no_space_letter End e = omega arith
no_space_letter GiveUp e = omega arith
no_space_letter GroupSize e = omega arith

pub plain_letter : Plain SaysLetter
plain_letter = record {
  free = λ text k s. subst NoSpace (sym s.is) (no_space_letter k, tt);
  same = λ text j k s t. same_letter j k (head_eq (sym s.is ∙ t.is));
}

pub no_letter : (xs : List ℕ) → ((k : Letter) → 0 < length xs → get_or xs 0 0 ≡ letter_byte k → ⊥) → NoFront SaysLetter xs 0
no_letter xs not = record {
  longest = record {
    within = omega arith;
    begins = (letter_byte Begin ∷ [], record { value = Begin; says = record { is = refl } });
    stops = stops xs not;
  };
  refused = λ s. let e = ap length s.says.is in omega arith;
}
  where
    stops : (xs : List ℕ) → ((k : Letter) → 0 < length xs → get_or xs 0 0 ≡ letter_byte k → ⊥) → 0 < length xs → (ys : List ℕ) × Saying SaysLetter (take (0 + 1) xs ++ ys) → ⊥
    stops [] not more b = omega arith
    stops (x ∷ xs) not more b = not b.1.value more (head_eq b.1.says.is)

a_letter : (xs : List ℕ) (k : Letter) → 0 < length xs → get_or xs 0 0 ≡ letter_byte k → Front SaysLetter xs 1 k
a_letter [] k some e = absurd (omega arith)
a_letter (x ∷ xs) k some e = record {
  longest = record {
    within = omega arith;
    begins = ([], record { value = k; says = record { is = ap (λ (y : ℕ). y ∷ []) e } });
    stops = λ more b. longer xs b.0 (omega arith) b.1;
  };
  says = record { is = ap (λ (y : ℕ). y ∷ []) e };
}
  where
    longer : (xs ys : List ℕ) → 0 < length xs → Saying SaysLetter (take 2 (x ∷ xs) ++ ys) → ⊥
    longer [] ys more s = omega arith
    longer (z ∷ xs) ys more s = let e = ap length s.says.is in omega arith

pub letter_word : (part : Bor (List ℕ)) (rest : List ℕ) (at : ℕ) (k : Letter) → 0 < length rest → get_or rest 0 0 ≡ letter_byte k → part.now ≡ take 1 rest → IsWord SaysLetter letter_said rest at (word.Letter part at k)
letter_word part rest at k some e cut = record { count = 1; value = k; front = a_letter rest k some e; part = cut; place = refl; says = refl }

-- ---- numbers ----

digits_no_space : (ds : List ℕ) → AllDigits 10 ds → NoSpace ds
digits_no_space [] h = tt
digits_no_space (d ∷ ds) h = ((λ e. let f : digit_value 32 < 10 = subst (λ (x : ℕ). digit_value x < 10) e h.0 in omega arith), digits_no_space ds h.1)

pub plain_number : Plain SaysNumber
plain_number = record {
  free = λ text v s. let b = s.fits in subst NoSpace (sym s.is) (digits_no_space _ (decimal_is_IsNumeral v (omega arith)).0.1);
  same = λ text v w s t. let a = s.fits in let b = t.fits in decimal_injective v w (omega arith) (omega arith) (sym s.is ∙ t.is);
}

to_number : (xs : List ℕ) → Numeral range.Number xs → Saying SaysNumber xs
to_number xs k = record { value = k.number; says = record { fits = k.below; is = k.is } }

from_number : (xs : List ℕ) → Saying SaysNumber xs → Numeral range.Number xs
from_number xs s = record { number = s.value; above = omega arith; below = s.says.fits; is = s.says.is }

-- no numeral is empty
numeral_some : (r : Range) → high r < 2 ^ 64 → Numeral r [] → ⊥
numeral_some r h k = let b = k.below in let e = ap length k.is in let s = decimal_nonempty k.number (omega arith) in omega arith

pub no_number : (xs : List ℕ) → Longest (Numeral range.Number) xs 0 → NoFront SaysNumber xs 0
no_number xs l = record {
  longest = same_longest to_number from_number l;
  refused = λ s. numeral_some range.Number (omega arith) (from_number [] s);
}

pub a_number : (xs : List ℕ) (n v : ℕ) → 0 < n → Scanned range.Number xs n v → Front SaysNumber xs n v
a_number xs n v some s = record {
  longest = same_longest to_number from_number s.longest;
  says = record { fits = s.below some; is = s.is some };
}

-- ---- heights ----

pub height_mag : (z : ℤ) → HeightFits z → mag z ≤ 2147483647
height_mag (pos n) f = f
height_mag (negsuc n) f = f

pub same_height : (y z : ℤ) → HeightFits y → HeightFits z → signed_decimal y ≡ signed_decimal z → y ≡ z
same_height y z f g e = let a = height_mag y f in let b = height_mag z g in signed_decimal_injective y z (omega arith) (omega arith) e

-- with a minus

first_digit : (n : ℕ) → n < 2 ^ 64 → (c : ℕ) (ys : List ℕ) → c ∷ ys ≡ decimal n → digit_value c < 10
first_digit n h c ys e = (subst (AllDigits 10) (sym e) (decimal_is_IsNumeral n h).0.1).0

after_minus : (ys : List ℕ) (z : ℤ) → HeightFits z → 45 ∷ ys ≡ signed_decimal z → Numeral range.Depth ys
after_minus ys (pos n) w e = absurd (let h = first_digit n (omega arith) 45 ys e in omega arith)
after_minus ys (negsuc n) w e = record { number = suc n; above = omega arith; below = omega arith; is = tail_eq e }

minus_of : (ys : List ℕ) (n : ℕ) → 1 ≤ n → n ≤ 2147483648 → ys ≡ decimal n → Saying SaysHeight (45 ∷ ys)
minus_of ys zero l h e = absurd (omega arith)
minus_of ys (suc n) l h e = record { value = negsuc n; says = record { fits = omega arith; is = ap (λ (t : List ℕ). 45 ∷ t) e } }

minus_longest : (ys : List ℕ) (n : ℕ) → Longest (Numeral range.Depth) ys n → Longest (Saying SaysHeight) (45 ∷ ys) (suc n)
minus_longest ys n l = record {
  within = let w = l.within in omega arith;
  begins = (l.begins.0, minus_of _ l.begins.1.number l.begins.1.above l.begins.1.below l.begins.1.is);
  stops = λ more b.
      let e : 45 ∷ take (n + 1) ys ++ b.0 ≡ take (suc n + 1) (45 ∷ ys) ++ b.0 = ap (λ (j : ℕ). take j (45 ∷ ys) ++ b.0) (sym (suc-add n 1)) in
      l.stops (omega arith) (b.0, after_minus _ b.1.value b.1.says.fits (e ∙ b.1.says.is));
}

negated : (v : ℕ) (z : ℤ) → 1 ≤ v → v ≤ 2147483648 → z ≡ neg_ℤ (pos v) → HeightFits z × (45 ∷ decimal v ≡ signed_decimal z)
negated zero z l h e = absurd (omega arith)
negated (suc v) z l h e = (subst HeightFits (sym e) (omega arith), ap signed_decimal (sym e))

pub a_minus : (text xs : List ℕ) (end n v : ℕ) (z : ℤ) → text ≡ 45 ∷ xs → end ≡ n + 1 → 0 < n → Scanned range.Depth xs n v → z ≡ neg_ℤ (pos v) → Front SaysHeight text end z
a_minus text xs end n v z t f some s e =
    let m = negated v z (s.above some) (s.below some) e in
    let next : suc n ≡ end = omega arith in
    rw t (subst (λ (j : ℕ). Front SaysHeight (45 ∷ xs) j z) next (record {
      longest = minus_longest xs n s.longest;
      says = record { fits = m.0; is = ap (λ (t : List ℕ). 45 ∷ t) (s.is some) ∙ m.1 };
    }))

pub no_minus : (xs : List ℕ) → Longest (Numeral range.Depth) xs 0 → NoFront SaysHeight (45 ∷ xs) 1
no_minus xs l = record {
  longest = minus_longest xs 0 l;
  refused = λ s. numeral_some range.Depth (omega arith) (after_minus [] s.value s.says.fits s.says.is);
}

-- without

plain_of : (xs : List ℕ) → (get_or xs 0 0 ≡ 45 → ⊥) → (z : ℤ) → SaysHeight xs z → Numeral range.Height xs
plain_of xs not (pos n) s = record { number = n; above = omega arith; below = s.fits; is = s.is }
plain_of xs not (negsuc n) s = absurd (not (ap (λ (l : List ℕ). get_or l 0 0) s.is))

first_of : (xs zs : List ℕ) (n : ℕ) → n < length xs → get_or (take (n + 1) xs ++ zs) 0 0 ≡ get_or xs 0 0
first_of [] zs n h = absurd (omega arith)
first_of (x ∷ xs) zs n h = ap (λ (j : ℕ). get_or (take j (x ∷ xs) ++ zs) 0 0) (add-one n)

plain_longest : (xs : List ℕ) (n : ℕ) → (get_or xs 0 0 ≡ 45 → ⊥) → Longest (Numeral range.Height) xs n → Longest (Saying SaysHeight) xs n
plain_longest xs n not l = record {
  within = l.within;
  begins = let k = l.begins.1 in (l.begins.0, record { value = pos k.number; says = record { fits = k.below; is = k.is } });
  stops = λ more b. l.stops more (b.0, plain_of _ (λ e. not (sym (first_of xs b.0 n more) ∙ e)) b.1.value b.1.says);
}

pub a_height : (xs : List ℕ) (n v : ℕ) (z : ℤ) → (get_or xs 0 0 ≡ 45 → ⊥) → 0 < n → Scanned range.Height xs n v → z ≡ pos v → Front SaysHeight xs n z
a_height xs n v z not some s e = record {
  longest = plain_longest xs n not s.longest;
  says = record { fits = subst HeightFits (sym e) (s.below some); is = s.is some ∙ ap signed_decimal (sym e) };
}

pub no_height : (xs : List ℕ) → (get_or xs 0 0 ≡ 45 → ⊥) → Longest (Numeral range.Height) xs 0 → NoFront SaysHeight xs 0
no_height xs not l = record {
  longest = plain_longest xs 0 not l;
  refused = λ s. numeral_some range.Height (omega arith) (plain_of [] (λ e. omega arith) s.value s.says);
}

-- for a text that no height begins
pub ruleset no_heights = (common_steps, no_height, no_minus)
