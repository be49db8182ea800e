-- Lines with the same first 36 bytes say the same, and are answered the same.
use Rattle.std.proofs.Common.{◌≡◌, ◌≢◌, ℕ, ◌+◌, ◌<◌, ◌≤◌, ◌↔◌, List, [], ◌∷◌, ◌++◌, length, take, ℤ, Ok, Err, Result, IsOk, OnErr, OnOk, sym, refl, ◌∙◌, subst, ⊎_elim, arith, append-nil, length-append, length-take-le, take_all, take-take}
use Rattle.numerals.specs.Places.{Fault}
use Rattle.request_line.proofs.LongLines.{long_lines, permitted_short}
use Rattle.request_line.specs.Lines.{Permitted, Reads}
use Rattle.schedule.specs.Books.{Book}
use Rattle.schedule.specs.declared.request.Request.{Request}
use Rattle.schedule.specs.Verdicts.{May}
use Rattle.std.proofs.lemmas.Bool.{ne_eqb}
use Rattle.std.proofs.lemmas.List.{take-append-le}
use Rattle.std.proofs.str.Laws.{order as either_way}
use Rattle.transcript.proofs.Pieces.{takes_kept}
use Rattle.transcript.specs.Answering.{AnswersLine}
use Rattle.transcript.specs.Lines.{Taken, Takes}

-- a long line goes wrong within its front, and the front there too
front_fault : (line : List ℕ) (n : ℕ) → 36 < length line → Fault Permitted line n → Fault Permitted (take 36 line) n
front_fault line n long f =
    let l = f.longest in
    let w = l.within in
    let cut = length-take-le 36 line (omega arith) in
    let begun = permitted_short _ l.begins.1 in
    let front = length-take-le n line w in
    let less : n < 36 = omega (arith, length-append (take n line) l.begins.0) in
    record {
      longest = record {
        within = omega arith;
        begins = (l.begins.0, subst (λ (t : List ℕ). Permitted (t ++ l.begins.0)) (sym (take-take n 36 line (omega arith))) l.begins.1);
        stops = λ more b. l.stops (omega arith) (b.0, subst (λ (t : List ℕ). Permitted (t ++ b.0)) (take-take (n + 1) 36 line (omega arith)) b.1);
      };
      refused = λ p. let h = permitted_short (take 36 line) p in omega arith;
    }

long_front : (line : List ℕ) (said : Result (Request ℤ) ℕ) → 36 < length line → Reads line said → Reads (take 36 line) said
long_front line (Ok r) h s = let p = permitted_short line (record { request = r; fits = s.0; is = s.1 }) in absurd (omega arith)
long_front line (Err n) h s = front_fault line n h s

-- the front of a line says what the line says
front_says : (line : List ℕ) (said : Result (Request ℤ) ℕ) → Reads line said → Reads (take 36 line) said
front_says line said s =
    ⊎_elim
    (λ (h : 36 < length line). long_front line said h s)
    (λ (h : length line ≤ 36). subst (λ (t : List ℕ). Reads t said) (sym (take_all 36 line h)) s)
    (either_way 36 (length line))

pub same_front : (may : May) (x y text : List ℕ) (b b' : Book ℤ) → take 36 x ≡ take 36 y → AnswersLine may x b text b' → AnswersLine may y b text b'
same_front may x y text b b' e a =
    record {
      said = a.said;
      reads = long_lines y a.said (subst (λ (t : List ℕ). Reads t a.said) e (front_says x a.said a.reads));
      is = a.is;
      after = a.after;
    }

-- of a byte more no more is kept than the front has room for
front_kept : {E : Type 0} (line front : List ℕ) (x : ℕ) (pushed : Result (Unit {0}) E)
    → IsOk pushed ↔ (length line < 36)
    → OnOk pushed (front ≡ line ++ x ∷ [])
    → OnErr pushed (front ≡ line)
    → OnErr pushed (length line ≡ 36)
    → front ≡ take 36 (line ++ x ∷ [])
front_kept line front x (Ok u) room more same full =
    let fits = room.0 refl in
    more ∙ sym (take_all 36 (line ++ x ∷ []) (omega (arith, length-append line (x ∷ []))))
front_kept line front x (Err e) room more same full =
    same ∙ sym (take-append-le 36 line (x ∷ []) (omega arith) ∙ take_all 36 line (omega arith))

-- a byte more of the line
pub byte_kept : {E : Type 0} (may : May) (b : Book ℤ) (line told front : List ℕ) (x : ℕ) (pushed : Result (Unit {0}) E) → x ≢ 10
    → IsOk pushed ↔ (length line < 36)
    → OnOk pushed (front ≡ line ++ x ∷ [])
    → OnErr pushed (front ≡ line)
    → OnErr pushed (length line ≡ 36)
    → Taken (AnswersLine may) b line (x ∷ []) told b front told
byte_kept may b line told front x pushed other room more same full =
    record {
      texts = [];
      appended = sym (append-nil told);
      takes =
          subst (λ (l : List ℕ). Takes (AnswersLine may) b line (x ∷ []) [] b l) (sym (front_kept line front x pushed room more same full))
          (takes_kept (AnswersLine may) (same_front may) b line x (ne_eqb x 10 other));
    }
