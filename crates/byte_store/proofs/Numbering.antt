-- Bytes as numbers: how many there are, and that writing the four bytes of one replaces that number alone.
use Rattle.std.proofs.Common.{◌≡◌, ℕ, zero, suc, ◌+◌, ◌*◌, ◌/◌, ◌<◌, ◌≤◌, List, [], ◌∷◌, ◌++◌, length, slice_get, take, drop, map, set, ℤ, Some, sym, refl, ap, ◌∙◌, arith, length-append, length-take, length-drop, to_z-of_z, w32, SFits, to_z, of_z}
use Rattle.std.proofs.lemmas.List.{drop-append-le, drop-drop, drop_at, length-map, map-set, take-append-drop, take-append-le, take_at}
use Rattle.std.proofs.lemmas.Nat.{from_be_bytes-to_be_bytes_4}
pub use Rattle.std.proofs.lemmas.Slice.{overwrites}
use Rattle.std.specs.Simd.{first_chunks}
use borrow.Rule.Slice.PartMut.{put_mid}
use mathlib.Core.Path.{ap₂}
use mir.ValLaws.{of_z_fits}
use Rattle.byte_store.specs.Numbers.{bytes_of, number, numbers}

length-first_chunks : (k : ℕ) (bytes : List ℕ) → length (first_chunks 4 k bytes) ≡ k
length-first_chunks zero bytes = refl
length-first_chunks (suc k) bytes = ap suc (length-first_chunks k (drop 4 bytes))

pub length-numbers : (bytes : List ℕ) → length (numbers bytes) ≡ length bytes / 4
length-numbers bytes = length-map _ number ∙ length-first_chunks (length bytes / 4) bytes

-- number i of the first k is made by the four bytes from 4 * i on
number-first_chunks : (k i : ℕ) (bytes : List ℕ) → i < k → slice_get (map number (first_chunks 4 k bytes)) i ≡ Some (number (take 4 (drop (4 * i) bytes)))
number-first_chunks zero i bytes h = absurd (omega arith)
number-first_chunks (suc k) zero bytes h = refl
number-first_chunks (suc k) (suc i) bytes h = let e : 4 * suc i ≡ 4 + 4 * i = omega arith in rw (e, ← drop-drop) (number-first_chunks k i (drop 4 bytes) (omega arith))

-- number i is made by the four bytes from 4 * i on
pub numbers_at : (bytes : List ℕ) (i : ℕ) → i < length bytes / 4 → slice_get (numbers bytes) i ≡ Some (number (take 4 (drop (4 * i) bytes)))
numbers_at bytes i = number-first_chunks (length bytes / 4) i bytes

-- the four bytes of a number make that number
number-bytes_of : (z : ℤ) → SFits w32 z → number (bytes_of z) ≡ z
number-bytes_of z fits =
    let below = of_z_fits w32 z fits in
    ap (to_z w32) (from_be_bytes-to_be_bytes_4 (of_z w32 z) below.fits) ∙ to_z-of_z fits

-- four bytes in place of four others, past i chunks, replace chunk i alone
first_chunks-replaced : (k i : ℕ) (front four old back : List ℕ) → length front ≡ 4 * i → length four ≡ 4 → length old ≡ 4 → i < k
    → first_chunks 4 k (front ++ (four ++ back)) ≡ set (first_chunks 4 k (front ++ (old ++ back))) i four
first_chunks-replaced zero i front four old back f n o h = absurd (omega arith)
first_chunks-replaced (suc k) zero [] four old back f n o h =
    ap₂ ◌∷◌ (take_at four back 4 n) (ap (first_chunks 4 k) (drop_at four back 4 n ∙ sym (drop_at old back 4 o)))
first_chunks-replaced (suc k) zero (x ∷ front) four old back f n o h = absurd (omega arith)
first_chunks-replaced (suc k) (suc i) front four old back f n o h =
    let long : 4 ≤ length front = omega arith in
    let rest : length (drop 4 front) ≡ 4 * i = omega (arith, length-drop 4 front) in
    simp (take-append-le, drop-append-le)
    (ap (λ l. take 4 front ∷ l) (first_chunks-replaced k i (drop 4 front) four old back rest n o (omega arith)))

-- the numbers after a write of four bytes, those of a number
pub numbers-put_mid : (bytes four : List ℕ) (i k : ℕ) (z : ℤ) → SFits w32 z → i < length (numbers bytes) → k ≡ 4 → four ≡ bytes_of z
    → numbers (put_mid (4 * i) k bytes four) ≡ set (numbers bytes) i z
numbers-put_mid bytes four i k z fits within four_each written =
    let n = length bytes / 4 in
    let front = take (4 * i) bytes in
    let old = take 4 (drop (4 * i) bytes) in
    let back = drop 4 (drop (4 * i) bytes) in
    let new = front ++ (bytes_of z ++ back) in
    let h : i < n = omega (arith, length-numbers bytes) in
    let f : length front ≡ 4 * i = omega (arith, length-take (4 * i) bytes) in
    let o : length old ≡ 4 = omega (arith, length-take 4 (drop (4 * i) bytes), length-drop (4 * i) bytes) in
    let whole : front ++ (old ++ back) ≡ bytes =
    ap (λ l. front ++ l) (take-append-drop 4 (drop (4 * i) bytes)) ∙ take-append-drop (4 * i) bytes
    in
    let same : length new ≡ length bytes =
    simp length-append (omega (arith, length-drop 4 (drop (4 * i) bytes), length-drop (4 * i) bytes))
    in
    ap₂ (λ m l. numbers (put_mid (4 * i) m bytes l)) four_each written
    ∙ ap (λ l. map number (first_chunks 4 (l / 4) new)) same
    ∙ ap (map number) (first_chunks-replaced n i front (bytes_of z) old back f refl o h)
    ∙ ap (λ l. map number (set (first_chunks 4 n l) i (bytes_of z))) whole
    ∙ map-set number (first_chunks 4 n bytes) i (bytes_of z)
    ∙ ap (set (numbers bytes) i) (number-bytes_of z fits)

-- what the store's methods need
pub ruleset numbering = (length-numbers, numbers-put_mid, overwrites)
