-- A line says what its first 36 bytes say, since no permitted line has more than 35. Assumes nothing.
use Rattle.std.proofs.Common.{ℕ, ◌+◌, ◌<◌, ◌≤◌, List, ◌∷◌, ◌++◌, length, take, ℤ, Ok, Err, decimal, Result, sym, ap, ◌∙◌, subst, ⊎_elim, arith, length-append, length-take-le, take_all, take-take}
use Rattle.numerals.specs.Places.{Fault}
use Rattle.request_line.proofs.Figures.{height_mag}
use Rattle.request_line.proofs.Whole.{shown_is}
use Rattle.request_line.specs.Words.{body}
use Rattle.request_line.specs.Lines.{Fits, HeightFits, NumberFits, Permitted, Reads}
use Rattle.schedule.specs.declared.request.Request.{Request}
use Rattle.schedule.specs.declared.request.Request.TheVariants as request
use Rattle.std.proofs.lemmas.Fmt.{length-decimal-le, length_signed_le}
use Rattle.std.proofs.str.Laws.{order as either_way}
use Rattle.std.specs.Fmt.{signed_decimal}

number_short : (n : ℕ) → NumberFits n → length (decimal n) ≤ 10
number_short n f = length-decimal-le 10 n (omega arith) (omega arith) (omega arith)

height_short : (z : ℤ) → HeightFits z → length (signed_decimal z) ≤ 11
height_short z f = let m = height_mag z f in length_signed_le 10 z (omega arith) (omega arith)

parted_short : (n : ℕ) (ys : List ℕ) (k : ℕ) → NumberFits n → length ys ≤ k → length (decimal n ++ 32 ∷ ys) ≤ k + 11
parted_short n ys k f h = omega (arith, number_short n f, length-append (decimal n) (32 ∷ ys))

body_short : (r : Request ℤ) → Fits r → length (body r) ≤ 33
body_short (request.Begin n) f = omega (arith, number_short n f)
body_short (request.Read a b) f = omega (arith, parted_short a (decimal b) 10 f.0 (number_short b f.1))
body_short (request.Write a b z) f = parted_short a _ 22 f.0 (parted_short b _ 11 f.1 (height_short z f.2))
body_short (request.End n) f = omega (arith, number_short n f)
body_short (request.GiveUp n) f = omega (arith, number_short n f)
body_short (request.GroupSize n) f = omega (arith, number_short n f)

-- a permitted line has at most 35 bytes
pub permitted_short : (line : List ℕ) → Permitted line → length line ≤ 35
permitted_short line p = let b = body_short p.request p.fits in let e = ap length (p.is ∙ shown_is p.request) in omega arith

-- the front of a long line is no permitted line, and goes wrong where the line does
cut_fault : (line : List ℕ) (n : ℕ) → 36 < length line → Fault Permitted (take 36 line) n → Fault Permitted line n
cut_fault line n long f =
    let l = f.longest in
    let w = l.within in
    let cut = length-take-le 36 line (omega arith) in
    let begun = permitted_short _ l.begins.1 in
    let front = length-take-le n (take 36 line) w in
    let less : n < 36 = omega (arith, length-append (take n (take 36 line)) l.begins.0) in
    record {
      longest = record {
        within = omega arith;
        begins = (l.begins.0, subst (λ (t : List ℕ). Permitted (t ++ l.begins.0)) (take-take n 36 line (omega arith)) l.begins.1);
        stops = λ more b. l.stops (omega arith) (b.0, subst (λ (t : List ℕ). Permitted (t ++ b.0)) (sym (take-take (n + 1) 36 line (omega arith))) b.1);
      };
      refused = λ p. let h = permitted_short line p in omega arith;
    }

pub long_lines : (line : List ℕ) (said : Result (Request ℤ) ℕ) → Reads (take 36 line) said → Reads line said
long_lines line said s =
    ⊎_elim
    (λ (h : 36 < length line). cut line said h s)
    (λ (h : length line ≤ 36). subst (λ (t : List ℕ). Reads t said) (take_all 36 line h) s)
    (either_way 36 (length line))
  where
    cut : (line : List ℕ) (said : Result (Request ℤ) ℕ) → 36 < length line → Reads (take 36 line) said → Reads line said
    cut line (Ok r) h s =
        let p = permitted_short (take 36 line) (record { request = r; fits = s.0; is = s.1 }) in
        let e = length-take-le 36 line (omega arith) in
        absurd (omega arith)
    cut line (Err n) h s = cut_fault line n h s
