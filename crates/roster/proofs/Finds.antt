-- The search for the first element that passes a test is std's `position`.
use Rattle.std.proofs.Common.{◌≡◌, Bool, List, [], ◌∷◌, arith}
use Rattle.std.proofs.lemmas.Bool.Decides.{nat_tests}
use Rattle.std.specs.List.{position}
use Rattle.schedule.specs.Jobs.{find}

pub find_is_position : {X : Type 0} (p : X → Bool) (xs : List X) → find p xs ≡ position p xs
find_is_position p [] = grind (arith, nat_tests)
find_is_position p (x ∷ xs) = grind (arith, nat_tests, find_is_position p xs)
