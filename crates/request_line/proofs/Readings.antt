-- Two requests never share a line, and a line says one thing alone. Assumes nothing.
use Rattle.std.proofs.Common.{◌≡◌, ℕ, ◌+◌, ◌<◌, ◌≤◌, List, ◌∷◌, ◌++◌, take, drop, ℤ, pos, Ok, Err, decimal, Result, sym, refl, ap, ◌∙◌, subst, ⊎_elim, append_assoc, arith, take-append-drop, take-take}
use Rattle.numerals.specs.Places.{Begins, Longest}
use Rattle.request_line.proofs.Figures.{plain_number, same_height, same_letter}
use Rattle.request_line.proofs.Languages.{head_eq, split, tail_eq}
use Rattle.request_line.proofs.Whole.{no_request, says_after, shown_is}
use Rattle.request_line.specs.Words.{NotParted, Parted, RequestAfter, SaysLetter, body, letter_for}
use Rattle.request_line.specs.declared.word.Letter.{Letter}
use Rattle.request_line.specs.declared.word.Letter.TheVariants.{Begin, End, GiveUp, GroupSize, Read, Write}
use Rattle.request_line.specs.Lines.{Fits, NoSharedLine, NumberFits, OnlyReading, Permitted, Reads}
use Rattle.schedule.specs.declared.request.Request.{Request}
use Rattle.schedule.specs.declared.request.Request.TheVariants as request
use Rattle.std.proofs.str.Laws.{order}
use Rattle.std.specs.Fmt.{signed_decimal}

-- ---- two requests never share a line ----

-- the request of a letter, from as many of two numbers and a height as it takes
make : Letter → ℕ → ℕ → ℤ → Request ℤ
make Begin a b z = request.Begin a
make Read a b z = request.Read a b
make Write a b z = request.Write a b z
make End a b z = request.End a
make GiveUp a b z = request.GiveUp a
make GroupSize a b z = request.GroupSize a

record Made (r : Request ℤ) : Type 0 where
  first : ℕ
  second : ℕ
  third : ℤ
  is : r ≡ make (letter_for r) first second third

made : (r : Request ℤ) → Made r
unfolding make
made (request.Begin a) = record { first = a; second = 0; third = pos 0; is = refl }
made (request.Read a b) = record { first = a; second = b; third = pos 0; is = refl }
made (request.Write a b z) = record { first = a; second = b; third = z; is = refl }
made (request.End a) = record { first = a; second = 0; third = pos 0; is = refl }
made (request.GiveUp a) = record { first = a; second = 0; third = pos 0; is = refl }
made (request.GroupSize a) = record { first = a; second = 0; third = pos 0; is = refl }

same_number : (a b : ℕ) → NumberFits a → NumberFits b → decimal a ≡ decimal b → a ≡ b
same_number a b f g e = plain_number.same (decimal a) a b (record { fits = f; is = refl }) (record { fits = g; is = e })

parts : (a b : ℕ) (r m : List ℕ) → NumberFits a → NumberFits b → decimal a ++ (32 ∷ r) ≡ decimal b ++ (32 ∷ m) → (a ≡ b) × (r ≡ m)
parts a b r m f g e =
    let s = split (decimal a) (decimal b) r m (plain_number.free _ a (record { fits = f; is = refl })) (plain_number.free _ b (record { fits = g; is = refl })) e in
    (same_number a b f g s.0, s.1)

same_made : (k : Letter) (a b : ℕ) (y : ℤ) (c d : ℕ) (z : ℤ) → Fits (make k a b y) → Fits (make k c d z) → body (make k a b y) ≡ body (make k c d z) → make k a b y ≡ make k c d z
unfolding make
same_made Begin a b y c d z f g e = ap request.Begin (same_number a c f g e)
same_made Read a b y c d z f g e =
    let s = parts a c (decimal b) (decimal d) f.0 g.0 e in
    let t = same_number b d f.1 g.1 s.1 in
    λ i. request.Read (s.0 i) (t i)
same_made Write a b y c d z f g e =
    let s = parts a c (decimal b ++ (32 ∷ signed_decimal y)) (decimal d ++ (32 ∷ signed_decimal z)) f.0 g.0 e in
    let t = parts b d (signed_decimal y) (signed_decimal z) f.1 g.1 s.1 in
    let u = same_height y z f.2 g.2 t.1 in
    λ i. request.Write (s.0 i) (t.0 i) (u i)
same_made End a b y c d z f g e = ap request.End (same_number a c f g e)
same_made GiveUp a b y c d z f g e = ap request.GiveUp (same_number a c f g e)
same_made GroupSize a b y c d z f g e = ap request.GroupSize (same_number a c f g e)

pub no_shared_line : NoSharedLine
no_shared_line p q f g e =
    let shows = sym (shown_is p) ∙ e ∙ shown_is q in
    let k = same_letter (letter_for p) (letter_for q) (head_eq shows) in
    let m = made p in
    let n = made q in
    let at : q ≡ make (letter_for p) n.first n.second n.third = n.is ∙ ap (λ (l : Letter). make l n.first n.second n.third) (sym k) in
    m.is ∙
    same_made (letter_for p) m.first m.second m.third n.first n.second n.third (subst Fits m.is f) (subst Fits at g)
    (ap body (sym m.is) ∙ tail_eq (tail_eq shows) ∙ ap body at) ∙
    sym at

-- ---- a line says one thing alone ----

module _ (L : List ℕ → Type 0) (xs : List ℕ) where
  begins_less : (m n : ℕ) → m ≤ n → Begins L (take n xs) → Begins L (take m xs)
  begins_less m n h (ys, l) =
      let e : take m xs ++ drop m (take n xs) ≡ take n xs = ap (λ (t : List ℕ). t ++ drop m (take n xs)) (sym (take-take m n xs h)) ∙ take-append-drop m (take n xs) in
      (drop m (take n xs) ++ ys, subst L (ap (λ (t : List ℕ). t ++ ys) (sym e) ∙ append_assoc (take m xs) (drop m (take n xs)) ys) l)

  not_less : (m n : ℕ) → Longest L xs m → Longest L xs n → m < n → ⊥
  not_less m n l k h = let w = k.within in l.stops (omega arith) (begins_less (m + 1) n (omega arith) k.begins)

  one_place : (m n : ℕ) → Longest L xs m → Longest L xs n → m ≡ n
  one_place m n l k =
      ⊎_elim
      (λ (h : m < n). absurd (not_less m n l k h))
      (λ (h : n ≤ m). ⊎_elim (λ (g : n < m). absurd (not_less n m k l g)) (λ (g : m ≤ n). let e : m ≡ n = omega arith in e) (order n m))
      (order m n)

pub only_reading : (line : List ℕ) (said : Result (Request ℤ) ℕ) → Reads line said → OnlyReading line said
only_reading line (Ok p) s (Ok q) o = ap Ok (no_shared_line q p o.0 s.0 (sym o.1 ∙ s.1))
only_reading line (Ok p) s (Err n) o = absurd (o.refused (record { request = p; fits = s.0; is = s.1 }))
only_reading line (Err m) s (Ok q) o = absurd (s.refused (record { request = q; fits = o.0; is = o.1 }))
only_reading line (Err m) s (Err n) o = ap Err (one_place Permitted line n m o.longest s.longest)

-- of a line that no letter and a space begin
pub none_other : (line : List ℕ) (p : ℕ) (other : Result (Request ℤ) ℕ) → NotParted SaysLetter line 0 p → Reads line other → other ≡ Err p
none_other line p other u o = only_reading line (Err p) (no_request line p u) other o

-- of one that they begin
pub no_other : (k : Letter) (line left : List ℕ) (next : ℕ) (said other : Result (Request ℤ) ℕ) → Parted SaysLetter line 0 left next k → RequestAfter k left next said → Reads line other → other ≡ said
no_other k line left next said other h m o = only_reading line said (says_after k line left next said h m) other o

-- for the reading of a line
pub ruleset sole_readings = (no_request, says_after, none_other, no_other, no_shared_line)
