-- Classes and their numbers, from 0 to 3. Assumes nothing.
use Rattle.std.specs.Prelude.{ℕ, [], ◌∷◌, Option}
use Rattle.std.specs.List.{slice_get}
use Rattle.waiting.specs.declared.class.Class.{Class}
use Rattle.waiting.specs.declared.class.Class.TheVariants.{Zero, One, Two, Three}

-- the number of a class
abbrev pub class_number : Class → ℕ
class_number Zero = 0
class_number One = 1
class_number Two = 2
class_number Three = 3

-- the class that stands at n when the four are put in order; none past the fourth
abbrev pub class_of : ℕ → Option Class
class_of n = slice_get (Zero ∷ One ∷ Two ∷ Three ∷ []) n
