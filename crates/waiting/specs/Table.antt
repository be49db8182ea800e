-- The table of classes, and the sentence that it stands for. Assumes nothing.
use Rattle.std.specs.Prelude.{ℕ, ◌+◌, ◌*◌, Bool, cond, ◌&&◌, ◌||◌, List, [], ◌∷◌, ◌==◌, slice_index_or}
use Rattle.waiting.specs.Numbers.{class_number}
use Rattle.waiting.specs.declared.class.Class.{Class}
use Rattle.waiting.specs.declared.table.Decision.{Decision}
use Rattle.waiting.specs.declared.table.Decision.TheVariants.{No, Yes, Elder}

-- four rows of four: the row is the class that would wait, the column the class waited for
abbrev pub table : List Decision
table =
    Elder ∷ No ∷ No ∷ No ∷
    Yes ∷ Elder ∷ No ∷ No ∷
    Yes ∷ No ∷ Elder ∷ No ∷
    Yes ∷ Yes ∷ Yes ∷ Elder ∷ []

-- the table's entry for two classes
abbrev pub entry_of : Class → Class → Decision
entry_of waiter blocker = slice_index_or table (4 * class_number waiter + class_number blocker) No

-- the class has the number n
abbrev pub is : Class → ℕ → Bool
is class n = class_number class == n

-- Class 3 may wait for 0, 1 and 2; classes 1 and 2 may wait for 0; equal classes follow elder; all else is no.
abbrev pub in_words : Class → Class → Decision
in_words waiter blocker =
    cond (is waiter 3 && (is blocker 0 || is blocker 1 || is blocker 2)) Yes
    (cond ((is waiter 1 || is waiter 2) && is blocker 0) Yes
    (cond (is waiter (class_number blocker)) Elder
    No))
