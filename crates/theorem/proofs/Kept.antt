-- A book that is as the invariant says, and one to which an event without effect happens.
use Rattle.std.proofs.Common.{List, ◌∷◌}
use Rattle.schedule.specs.Books.{Book}
use Rattle.schedule.specs.Verdicts.{May}
use Rattle.theorem.proofs.Granting.{idle}
use Rattle.theorem.proofs.Invariant.{Invariant, view}
use Rattle.theorem.proofs.Shapes.{Shape}
use Rattle.theorem.specs.Histories.{Effect, nothing}

-- the book b is as the invariant says after the effects E
abbrev pub Kept : {C : Type 0} → May → List C → List (Effect C) → Book C → Type 0
Kept may first E b = Shape b.state × Invariant may first E (view b.state) b.main b.draft

pub stays : {C : Type 0} (may : May) (first : List C) (E : List (Effect C)) (b : Book C) → Kept may first E b
    → Kept may first (nothing ∷ E) b
stays may first E b K = (K.0, idle may first E (view b.state) b.main b.draft K.1)
