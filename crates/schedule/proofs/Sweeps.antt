-- A loop that changes each element of a vector by the same function, in place.
use Rattle.std.proofs.Common.{◌≡◌, ℕ, ◌+◌, ◌<◌, List, ◌++◌, map, length, get_or, take, drop, set, ap, ◌∙◌}
use Rattle.std.proofs.lemmas.List.Edits.{map_over_more}
use Rattle.std.proofs.lemmas.List.{get_or_default}

-- the first i elements are changed by f, and the others are as they were; now the element at i is changed too
pub swept_more :
    {X : Type 0} (f : X → X) (xs ys : List X) (i : ℕ) (d y : X) →
    i < length xs → i < length ys → ys ≡ map f (take i xs) ++ drop i xs → y ≡ f (get_or ys i d) →
    set ys i y ≡ map f (take (i + 1) xs) ++ drop (i + 1) xs
swept_more f xs ys i d y h k s e =
    ap (set ys i) e ∙ map_over_more f xs ys i (get_or ys i d) h s (get_or_default ys i d (get_or ys i d) k)
