-- Pieces of an input one after the other, and what may be forgotten of a long line.
use Rattle.std.proofs.Common.{◌≡◌, ℕ, zero, suc, ◌+◌, ◌<◌, Bool, true, false, cond, eqb, List, [], ◌∷◌, ◌++◌, length, get_or, take, sym, refl, ap, ◌∙◌, subst, append_assoc, append-nil, arith, lit≤}
use Rattle.std.proofs.lemmas.Grind.{common_steps}
use Rattle.std.proofs.lemmas.List.{take_more, take-take}
use Rattle.transcript.specs.Lines.{AllAnswered, Answering, Completes, Finished, GoesOn, Taken, Takes, Told, last_line, lines_after}

-- a front is as good as the whole for the front of what it is the start of
front_extended : (n : ℕ) (x ys : List ℕ) → take n (take n x ++ ys) ≡ take n (x ++ ys)
front_extended zero x ys = refl
front_extended (suc n) [] ys = refl
front_extended (suc n) (c ∷ x) ys = ap (λ (l : List ℕ). c ∷ l) (front_extended n x ys)

fronts_extended : (n : ℕ) (x y ys : List ℕ) → take n x ≡ take n y → take n (x ++ ys) ≡ take n (y ++ ys)
fronts_extended n x y ys e = sym (front_extended n x ys) ∙ ap (λ (l : List ℕ). take n (l ++ ys)) e ∙ front_extended n y ys

module _ {B : Type 0} (Answers : Answering B) where
  -- one piece after the other
  pub takes_both : (b : B) (line piece texts : List ℕ) (b₁ : B) (line₁ piece₁ texts₁ : List ℕ) (b₂ : B) (line₂ : List ℕ)
      → Takes Answers b line piece texts b₁ line₁
      → Takes Answers b₁ line₁ piece₁ texts₁ b₂ line₂
      → Takes Answers b line (piece ++ piece₁) (texts ++ texts₁) b₂ line₂
  takes_both b line piece texts b₁ line₁ piece₁ texts₁ b₂ line₂ s t rest more b' a =
      rw (append_assoc, append_assoc) (s (piece₁ ++ rest) (texts₁ ++ more) b' (t rest more b' a))

  -- a last line, which is not empty, is answered too
  pub last_answered : (b : B) (line text : List ℕ) (b₁ : B) → 0 < length line → Answers line b text b₁ → AllAnswered Answers b (lines_after line []) text b₁
  last_answered b [] text b₁ some answered = absurd (omega arith)
  last_answered b (x ∷ line) text b₁ some answered = (text, [], b₁, sym (append-nil text), answered, (refl, refl))

  -- a byte that is not 10 goes on with the line
  pub takes_byte : (b : B) (line : List ℕ) (x : ℕ) → eqb x 10 ≡ false → Takes Answers b line (x ∷ []) [] b (line ++ x ∷ [])
  takes_byte b line x other rest more b' a = rw other a

  -- ---- of a long line the front is enough ----

  module _ (alike : (x y text : List ℕ) (b b' : B) → take 36 x ≡ take 36 y → Answers x b text b' → Answers y b text b') where
    last_alike : (x y more : List ℕ) (b b' : B) → take 36 x ≡ take 36 y → AllAnswered Answers b (last_line x) more b' → AllAnswered Answers b (last_line y) more b'
    last_alike [] [] more b b' e a = a
    last_alike [] (y ∷ ys) more b b' e a = absurd (let z : ◌≡◌ {A = ℕ} 0 1 = cc in omega arith)
    last_alike (x ∷ xs) [] more b b' e a = absurd (let z : ◌≡◌ {A = ℕ} 0 1 = cc in omega arith)
    last_alike (x ∷ xs) (y ∷ ys) more b b' e a = (a.0, a.1, a.2, a.3, alike (x ∷ xs) (y ∷ ys) a.0 b a.2 e a.4, a.5)

    byte_alike : (t : Bool) (x y x₁ y₁ rest more : List ℕ) (b b' : B) → take 36 x ≡ take 36 y
        → (AllAnswered Answers b (lines_after x₁ rest) more b' → AllAnswered Answers b (lines_after y₁ rest) more b')
        → AllAnswered Answers b (cond t (x ∷ lines_after [] rest) (lines_after x₁ rest)) more b'
        → AllAnswered Answers b (cond t (y ∷ lines_after [] rest) (lines_after y₁ rest)) more b'
    byte_alike true x y x₁ y₁ rest more b b' e on a = (a.0, a.1, a.2, a.3, alike x y a.0 b a.2 e a.4, a.5)
    byte_alike false x y x₁ y₁ rest more b b' e on a = on a

    -- lines with the same front are answered the same, whatever comes after
    pub front_is_enough : (x y rest more : List ℕ) (b b' : B) → take 36 x ≡ take 36 y
        → AllAnswered Answers b (lines_after x rest) more b'
        → AllAnswered Answers b (lines_after y rest) more b'
    front_is_enough x y [] more b b' e a = last_alike x y more b b' e a
    front_is_enough x y (c ∷ rest) more b b' e a =
        byte_alike (eqb c 10) x y (x ++ c ∷ []) (y ++ c ∷ []) rest more b b' e
        (front_is_enough (x ++ c ∷ []) (y ++ c ∷ []) rest more b b' (fronts_extended 36 x y (c ∷ []) e)) a

    -- such a byte, of which no more is kept than the front of the line has room for
    pub takes_kept : (b : B) (line : List ℕ) (x : ℕ) → eqb x 10 ≡ false → Takes Answers b line (x ∷ []) [] b (take 36 (line ++ x ∷ []))
    takes_kept b line x other rest more b' a =
        takes_byte b line x other rest more b'
        (front_is_enough (take 36 (line ++ x ∷ [])) (line ++ x ∷ []) rest more b b' (take-take 36 36 (line ++ x ∷ []) (lit≤ tt)) a)

-- ---- what has been told in all ----

module _ {B : Type 0} {Answers : Answering B} {b : B} {line piece told : List ℕ} {b₁ : B} {line₁ told₁ : List ℕ} where
  -- one piece after the other, where the second is answered the same
  pub taken_both : {Later : Answering B} {piece₁ : List ℕ} {b₂ : B} {line₂ told₂ : List ℕ} → Later ≡ Answers
      → Taken Answers b line piece told b₁ line₁ told₁
      → Taken Later b₁ line₁ piece₁ told₁ b₂ line₂ told₂
      → Taken Answers b line (piece ++ piece₁) told b₂ line₂ told₂
  taken_both {piece₁ = piece₁} {b₂ = b₂} {line₂ = line₂} {told₂ = told₂} same s later =
      let t = subst (λ (A : Answering B). Taken A b₁ line₁ piece₁ told₁ b₂ line₂ told₂) same later in
      record {
        texts = s.texts ++ t.texts;
        appended = t.appended ∙ ap (λ (l : List ℕ). l ++ t.texts) s.appended ∙ append_assoc told s.texts t.texts;
        takes = takes_both Answers b line piece s.texts b₁ line₁ piece₁ t.texts b₂ line₂ s.takes t.takes;
      }

  pub goes_on : Taken Answers b line piece told b₁ line₁ told₁ → GoesOn Answers b line piece told b₁ line₁ told₁
  unfolding GoesOn
  goes_on t b₀ input texts s =
      (t.texts, t.appended, takes_both Answers b₀ [] input texts b line piece t.texts b₁ line₁ s t.takes)

-- one byte more of a piece
pub taken_one_more : {B : Type 0} {Answers Later : Answering B} {b : B} {line told : List ℕ} {b₁ : B} {line₁ told₁ : List ℕ} {b₂ : B} {line₂ told₂ : List ℕ}
    (piece : List ℕ) (i : ℕ) → i < length piece → Later ≡ Answers
    → Taken Answers b line (take i piece) told b₁ line₁ told₁
    → Taken Later b₁ line₁ (get_or piece i 0 ∷ []) told₁ b₂ line₂ told₂
    → Taken Answers b line (take (i + 1) piece) told b₂ line₂ told₂
taken_one_more piece i inside same s t = rw (take_more piece i 0 inside) (taken_both same s t)

-- ---- the end of the input ----

module _ {B : Type 0} (Answers : Answering B) (b : B) (line told : List ℕ) where
  -- what is finished is the whole input
  completes : (b₁ : B) (told₁ : List ℕ) → Finished Answers b line told b₁ told₁ → Completes Answers b line told b₁ told₁
  unfolding Completes
  completes b₁ told₁ f b₀ input texts s =
      (f.texts, f.appended, rw append-nil at (s [] f.texts b₁ f.answered))

  -- the input ends where no line is begun
  pub completes_there : length line ≡ 0 → Completes Answers b line told b told
  completes_there none =
      let ended : Finished Answers b line told b told = grind (arith, common_steps) in
      completes b told ended

  -- the input ends with a line that is not empty, and is answered
  pub completes_by_line : (b₁ : B) (told₁ : List ℕ) → 0 < length line → Told Answers b line told b₁ told₁ → Completes Answers b line told b₁ told₁
  completes_by_line b₁ told₁ some t =
      completes b₁ told₁ (record { texts = t.text; appended = t.appended; answered = last_answered Answers b line t.text b₁ some t.answered })

-- what the end of an input needs
pub ruleset ending = (goes_on, completes_there, completes_by_line)
