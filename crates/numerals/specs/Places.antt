-- The place at which a text stops to begin a text of a language. A language is given by what it is to belong to it.
-- Assumes nothing.
use Rattle.std.specs.Prelude.{ℕ, ◌+◌, ◌<◌, ◌≤◌, List, ◌++◌, length, take}

-- some text of the language L begins with the front
abbrev pub Begins : (List ℕ → Type 0) → List ℕ → Type 0
Begins L front = (rest : List ℕ) × L (front ++ rest)

-- place is the greatest up to which the text begins a text of L: the place, counted from 0, of the first byte at which
-- none begins so, or the length of the text
pub record Longest (L : List ℕ → Type 0) (text : List ℕ) (place : ℕ) : Type 0 where
  pub within : place ≤ length text
  pub begins : Begins L (take place text)
  pub stops : place < length text → Begins L (take (place + 1) text) → ⊥

-- the same of a text that is none of L
pub record Fault (L : List ℕ → Type 0) (text : List ℕ) (place : ℕ) : Type 0 where
  pub longest : Longest L text place
  pub refused : L text → ⊥
