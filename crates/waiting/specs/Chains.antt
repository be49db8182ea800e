-- Chains of waits under a test of who may wait for whom. Assumes nothing.
use Rattle.std.specs.Prelude.{◌≡◌, Bool, true, false, ◌&&◌, List, [], ◌∷◌, ◌++◌}

-- the first may wait for the head of the rest, and each of the rest for the next
abbrev pub chain_from : {P : Type 0} → (P → P → Bool) → P → List P → Bool
chain_from may first [] = true
chain_from may first (next ∷ rest) = may first next && chain_from may next rest

-- no chain, however long, comes back to its start
abbrev pub NoCycle : {P : Type 0} → (P → P → Bool) → Type 0
NoCycle {P} may = (start : P) (between : List P) → chain_from may start (between ++ (start ∷ [])) ≡ false
