-- The table's entries are the sentence's, and so the rule of classes is transitive. Assumes nothing.
use Rattle.std.specs.Prelude.{◌≡◌, true}
use Rattle.std.proofs.Common.{arith, rules}
use Rattle.std.proofs.lemmas.Bool.Decides.{nat_tests}
use Rattle.waiting.specs.Rules.{classes}
use Rattle.waiting.specs.Table.{entry_of, in_words}
use Rattle.waiting.specs.declared.class.Class.{Class}
use Rattle.waiting.specs.declared.party.Party.{Party}

-- each entry is what the sentence says of its two classes
pub entry_in_words : (waiter blocker : Class) → entry_of waiter blocker ≡ in_words waiter blocker
entry_in_words waiter blocker = search rules

pub classes_transitive : (a b c : Party) → classes a b ≡ true → classes b c ≡ true → classes a c ≡ true
classes_transitive a b c h k = grind (arith, nat_tests, entry_in_words)
