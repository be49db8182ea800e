-- The two laws of a rule leave no cycle of waits. Assumes nothing.
use Rattle.std.proofs.Common.{◌≡◌, Bool, true, false, List, [], ◌∷◌, ◌++◌, arith}
use Rattle.waiting.specs.Chains.{chain_from, NoCycle}

module _ {P : Type 0} (may : P → P → Bool) (transitive : (a b c : P) → may a b ≡ true → may b c ≡ true → may a c ≡ true) where
  -- the first of a chain may wait for the last
  first_for_last : (first : P) (between : List P) (last : P) → chain_from may first (between ++ (last ∷ [])) ≡ true → may first last ≡ true
  first_for_last first [] last h = grind arith
  first_for_last first (next ∷ between) last h = grind (arith, transitive, first_for_last next between last)

  -- so were the last the first again, it could wait for itself
  pub no_cycle : ((a : P) → may a a ≡ false) → NoCycle may
  no_cycle irreflexive start between = grind (arith, irreflexive, first_for_last)
