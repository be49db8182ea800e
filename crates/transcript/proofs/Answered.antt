-- A line that says a request, submitted to a book.
use Rattle.std.proofs.Common.{◌≡◌, ℕ, List, ℤ, Ok, Err, Result, sym, ap, ◌∙◌, subst}
use Rattle.request_line.specs.Lines.{OnlyReading}
use Rattle.schedule.specs.Books.{Book}
use Rattle.schedule.specs.declared.request.Event.{Event}
use Rattle.schedule.specs.declared.request.Request.{Request}
use Rattle.schedule.specs.Verdicts.{May}
use Rattle.theorem.specs.Theorem.{KeepsSerializable, step}
use Rattle.transcript.specs.Answering.{KeepsSerializableByLine}

pub submitted_keeps : (may : May) (line : List ℕ) (b b' : Book ℤ) (q : Request ℤ) (e : Event ℤ) → step may b q ≡ (e, b')
    → OnlyReading line (Ok q)
    → KeepsSerializable may e b b'
    → KeepsSerializableByLine may line b b'
submitted_keeps may line b b' q e s only k =
    record {
      by_request = λ r said.
          let same : ◌≡◌ {A = Result (Request ℤ) ℕ} (Ok r) (Ok q) = only (Ok r) said in
          let is : q ≡ r = cc in
          subst (λ (x : Event ℤ). KeepsSerializable may x b b')
          (ap (λ (p : Event ℤ × Book ℤ). p.0) (sym s) ∙ ap (λ (x : Request ℤ). (step may b x).0) is) k;
      by_none = λ place said.
          let same : ◌≡◌ {A = Result (Request ℤ) ℕ} (Err place) (Ok q) = only (Err place) said in
          absurd (cc same);
    }
