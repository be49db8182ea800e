-- Where a text that says a value, a space and more goes wrong. Assumes nothing.
use Rattle.std.proofs.Common.{◌≡◌, ℕ, suc, ◌+◌, ◌<◌, ◌≤◌, ◌⊎◌, List, [], ◌∷◌, ◌++◌, length, get_or, take, drop, sym, refl, ap, ◌∙◌, subst, inl, inr, ⊎_elim, append_assoc, suc-add, arith, length-append, length-drop, take-append-drop, length-take-le, take_all}
use lib.Seq.{take-append-add}
use Rattle.numerals.specs.Places.{Fault, Longest}
use Rattle.request_line.specs.Words.{ByteAt, FaultAt, NotParted, NoWord, Parted, Saying, Stands, Then}
use Rattle.std.proofs.lemmas.List.{drop_more, take_more}
use Rattle.std.proofs.str.Laws.{order}

-- ---- lists ----

pub head_eq : {x y : ℕ} {xs ys : List ℕ} → x ∷ xs ≡ y ∷ ys → x ≡ y
head_eq e = cc

pub tail_eq : {x y : ℕ} {xs ys : List ℕ} → x ∷ xs ≡ y ∷ ys → xs ≡ ys
tail_eq e = cc

-- no byte of the text is a space
abbrev pub NoSpace : List ℕ → Type 0
NoSpace [] = Unit {0}
NoSpace (x ∷ xs) = (x ≡ 32 → ⊥) × NoSpace xs

no_space_front : (xs ys : List ℕ) → NoSpace (xs ++ ys) → NoSpace xs
no_space_front [] ys h = tt
no_space_front (x ∷ xs) ys h = (h.0, no_space_front xs ys h.1)

not_a_space : (k m : List ℕ) → NoSpace (k ++ 32 ∷ m) → ⊥
not_a_space [] m h = h.0 refl
not_a_space (x ∷ k) m h = not_a_space k m h.1

-- the first space parts two texts in one way
pub split : (k l r m : List ℕ) → NoSpace k → NoSpace l → k ++ 32 ∷ r ≡ l ++ 32 ∷ m → (k ≡ l) × (r ≡ m)
split [] [] r m h g e = (refl, tail_eq e)
split [] (y ∷ l) r m h g e = absurd (g.0 (sym (head_eq e)))
split (x ∷ k) [] r m h g e = absurd (h.0 (head_eq e))
split (x ∷ k) (y ∷ l) r m h g e = let t = split k l r m h.1 g.1 (tail_eq e) in ((λ i. head_eq e i ∷ t.0 i), t.1)

-- p, b and more are k, a space and more: k goes past b, or stops before it
further : (b : ℕ) (p k m zs : List ℕ) → NoSpace p → (p ++ b ∷ []) ++ zs ≡ k ++ 32 ∷ m → ((ws : List ℕ) × (k ≡ (p ++ b ∷ []) ++ ws)) ⊎ ((k ≡ p) × (b ≡ 32))
further b [] [] m zs h e = inr (refl, head_eq e)
further b [] (y ∷ k) m zs h e = inl (k, ap (λ (v : ℕ). v ∷ k) (sym (head_eq e)))
further b (x ∷ p) [] m zs h e = absurd (h.0 (head_eq e))
further b (x ∷ p) (y ∷ k) m zs h e =
    ⊎_elim
    (λ (t : (ws : List ℕ) × (k ≡ (p ++ b ∷ []) ++ ws)). inl (t.0, λ i. sym (head_eq e) i ∷ t.1 i))
    (λ (t : (k ≡ p) × (b ≡ 32)). inr ((λ i. sym (head_eq e) i ∷ t.0 i), t.1))
    (further b p k m zs h.1 (tail_eq e))

-- ---- faults ----

-- a text that stops to begin one of L before its end is none of L
pub faulty : {L : List ℕ → Type 0} {xs : List ℕ} {n : ℕ} → Longest L xs n → (n ≡ length xs → L xs → ⊥) → Fault L xs n
faulty {L} {xs} {n} l short = record {
  longest = l;
  refused = λ k.
      let w = l.within in
      ⊎_elim
      (λ (more : n < length xs). l.stops more (drop (n + 1) xs, subst L (sym (take-append-drop (n + 1) xs)) k))
      (λ (all : length xs ≤ n). short (omega arith) k)
      (order n (length xs));
}

-- languages with the same texts
module _ {K L : List ℕ → Type 0} (to : (xs : List ℕ) → K xs → L xs) (from : (xs : List ℕ) → L xs → K xs) where
  pub same_longest : {xs : List ℕ} {n : ℕ} → Longest K xs n → Longest L xs n
  same_longest l = record { within = l.within; begins = (l.begins.0, to _ l.begins.1); stops = λ more b. l.stops more (b.0, from _ b.1) }

  pub same_fault : {xs : List ℕ} {n : ℕ} → Fault K xs n → Fault L xs n
  same_fault f = record { longest = same_longest f.longest; refused = λ t. f.refused (from _ t) }

-- after a first byte
module _ {L : List ℕ → Type 0} {x : ℕ} where
  -- x and a text stop to begin one of L one byte past where the text alone stops to begin what may follow an x in L
  pub cons_longest : {xs : List ℕ} {n : ℕ} → Longest (λ ys. L (x ∷ ys)) xs n → Longest L (x ∷ xs) (suc n)
  cons_longest l = record { within = omega arith; begins = l.begins; stops = λ more b. l.stops (omega arith) (b.0, rw suc-add at b.1) }

  -- the same where the text is none of those, and so x and the text are none of L
  pub cons_fault : {xs : List ℕ} {n : ℕ} → Fault (λ ys. L (x ∷ ys)) xs n → Fault L (x ∷ xs) (suc n)
  cons_fault f = record { longest = cons_longest f.longest; refused = f.refused }

-- ---- the last word ----

module _ {V : Type 0} {Says : List ℕ → V → Type 0} {rest : List ℕ} {at : ℕ} where
  pub no_word : {p : ℕ} → NoWord Says rest at p → FaultAt (Saying Says) rest at p
  no_word b = record {
    count = b.count;
    place = b.place;
    fault = faulty b.none.longest (λ all t. b.none.refused (subst (Saying Says) (sym (take_all b.count rest (omega arith))) t));
  }

  -- more follows the word
  pub past : {left : List ℕ} {next : ℕ} {v : V} → Stands Says rest at left next v → 0 < length left → FaultAt (Saying Says) rest at next
  past s more =
      let e = ap length s.after in
      let d = length-drop s.count rest in
      record { count = s.count; place = s.place; fault = faulty s.front.longest (λ all t. absurd (omega arith)) }

-- ---- a word, a space and more ----

-- a space is left first after the word
pub spaced : {V : Type 0} (Says : List ℕ → V → Type 0) (rest after left : List ℕ) (at next end : ℕ) (v : V) → Stands Says rest at after next v → after ≡ 32 ∷ left → end ≡ next + 1 → Parted Says rest at left end v
spaced Says rest after left at next end v s e f =
    let n = s.count in
    let place = s.place in
    let size = ap length (sym s.after ∙ e) in
    let d = length-drop n rest in
    let more : n < length rest = omega arith in
    let cut = sym (drop_more rest n 0 more) ∙ sym s.after ∙ e in
    record { count = n; place = omega arith; after = sym (tail_eq cut); front = s.front; space = record { inside = more; here = head_eq cut } }

-- no text that says a value has a space, and each says one value
pub record Plain {V : Type 0} (Says : List ℕ → V → Type 0) : Type 0 where
  pub free : (text : List ℕ) (v : V) → Says text v → NoSpace text
  pub same : (text : List ℕ) (v w : V) → Says text v → Says text w → v ≡ w

module _ {V : Type 0} {Says : List ℕ → V → Type 0} (plain : Plain Says) (Rest : V → List ℕ → Type 0) where
  -- the first word stops the line
  first_fault : {xs : List ℕ} {n : ℕ} → ((v : V) → (m : List ℕ) × Rest v m) → Longest (Saying Says) xs n → (ByteAt 32 xs n → Saying Says (take n xs) → ⊥) → Fault (Then Says Rest) xs n
  first_fault {xs} {n} some l bad =
      let begun = l.begins in
      let v = begun.1.value in
      let clear : NoSpace (take n xs) = no_space_front (take n xs) begun.0 (plain.free _ v begun.1.says) in
      faulty
      (record {
        within = l.within;
        begins = (
          begun.0 ++ 32 ∷ (some v).0,
          record {
            front = take n xs ++ begun.0;
            back = (some v).0;
            value = v;
            first = begun.1.says;
            second = (some v).1;
            is = sym (append_assoc (take n xs) begun.0 (32 ∷ (some v).0));
          },
        );
        stops = λ more b.
            let t = b.1 in
            let one : take (n + 1) xs ≡ take n xs ++ get_or xs n 0 ∷ [] = take_more xs n 0 more in
            let e : (take n xs ++ get_or xs n 0 ∷ []) ++ b.0 ≡ t.front ++ 32 ∷ t.back = ap (λ (l : List ℕ). l ++ b.0) (sym one) ∙ t.is in
            ⊎_elim
            (λ (w : (ws : List ℕ) × (t.front ≡ (take n xs ++ get_or xs n 0 ∷ []) ++ ws)).
            l.stops more (w.0, record { value = t.value; says = subst (λ (k : List ℕ). Says k t.value) (w.1 ∙ ap (λ (l : List ℕ). l ++ w.0) (sym one)) t.first }))
            (λ (w : (t.front ≡ take n xs) × (get_or xs n 0 ≡ 32)).
            bad (record { inside = more; here = w.1 }) (record { value = t.value; says = subst (λ (k : List ℕ). Says k t.value) w.0 t.first }))
            (further (get_or xs n 0) (take n xs) t.front t.back b.0 clear e);
      })
      (λ all t. not_a_space t.front t.back (subst NoSpace (take_all n xs (omega arith) ∙ t.is) clear))

  -- what follows the first word of such a text
  after : (k r : List ℕ) (v : V) → Says k v → Then Says Rest (k ++ 32 ∷ r) → Rest v r
  after k r v is t =
      let s = split k t.front r t.back (plain.free k v is) (plain.free t.front t.value t.first) t.is in
      let e = plain.same k v t.value is (subst (λ (f : List ℕ). Says f t.value) (sym s.0) t.first) in
      subst (λ (w : V). Rest w r) (sym e) (subst (Rest t.value) (sym s.1) t.second)

  take_past : (k rest : List ℕ) (p : ℕ) → take (length k + suc p) (k ++ 32 ∷ rest) ≡ k ++ 32 ∷ take p rest
  take_past k rest p = take-append-add k (32 ∷ rest) (suc p)

  after_front : (k rest : List ℕ) (p : ℕ) (v : V) → Says k v → Fault (Rest v) rest p → Fault (Then Says Rest) (k ++ 32 ∷ rest) (length k + suc p)
  after_front k rest p v is f =
      let l = f.longest in
      let begun = l.begins in
      let whole = length-append k (32 ∷ rest) in
      record {
        longest = record {
          within = let w = l.within in omega arith;
          begins = (
            begun.0,
            record {
              front = k;
              back = take p rest ++ begun.0;
              value = v;
              first = is;
              second = begun.1;
              is = ap (λ (l : List ℕ). l ++ begun.0) (take_past k rest p) ∙ append_assoc k (32 ∷ take p rest) begun.0;
            },
          );
          stops = λ more b.
              let e : take (length k + suc p + 1) (k ++ 32 ∷ rest) ++ b.0 ≡ k ++ 32 ∷ (take (p + 1) rest ++ b.0) =
              ap (λ (l : List ℕ). l ++ b.0) (ap (λ (j : ℕ). take j (k ++ 32 ∷ rest)) (omega arith) ∙ take_past k rest (p + 1)) ∙ append_assoc k (32 ∷ take (p + 1) rest) b.0 in
              l.stops (omega arith) (b.0, after k (take (p + 1) rest ++ b.0) v is (subst (Then Says Rest) e b.1));
        };
        refused = λ t. f.refused (after k rest v is t);
      }

  module _ {rest : List ℕ} {at : ℕ} where
    pub not_parted : {p : ℕ} → ((v : V) → (m : List ℕ) × Rest v m) → NotParted Says rest at p → FaultAt (Then Says Rest) rest at p
    not_parted some u = record { count = u.count; place = u.place; fault = first_fault some u.longest u.refused }

    module _ {left : List ℕ} {next : ℕ} {v : V} (l : Parted Says rest at left next v) where
      pub joined : rest ≡ take l.count rest ++ 32 ∷ left
      joined =
          sym (take-append-drop l.count rest) ∙
          ap (λ (ys : List ℕ). take l.count rest ++ ys) (drop_more rest l.count 0 l.space.inside ∙ (λ i. l.space.here i ∷ sym l.after i))

      -- the first word stands, and a space after it: what is left stops the line
      pub second : {p : ℕ} → FaultAt (Rest v) left next p → FaultAt (Then Says Rest) rest at p
      second f =
          let e = l.place in
          let q = f.place in
          let k = take l.count rest in
          let size = length-take-le l.count rest l.front.longest.within in
          record {
            count = length k + suc f.count;
            place = omega arith;
            fault = subst (λ (t : List ℕ). Fault (Then Says Rest) t (length k + suc f.count)) (sym joined) (after_front k left f.count v l.front.says f.fault);
          }
