-- The theorem over every run: the ended jobs read and leave what a serial execution of them gives, and no wait is for ever
-- on a cycle.
use Rattle.std.specs.Prelude.{◌≡◌, ℕ, zero, suc, true, cond, List, [], ◌∷◌, Some, None, Option, slice_set}
use Rattle.schedule.specs.Books.{Book, book_begin, book_end, book_give_up, book_group_size, book_read, book_write, fresh_book}
use Rattle.schedule.specs.declared.request.Event.{Event}
use Rattle.schedule.specs.declared.request.Event.TheVariants as event
use Rattle.schedule.specs.declared.request.Request.{Request}
use Rattle.schedule.specs.declared.request.Request.TheVariants as request
use Rattle.theorem.specs.Histories.{Access, Effect, History, effects, is_open, read_gave, serial_order, wait_of, wrote}
use Rattle.schedule.specs.Verdicts.{May}
use Rattle.std.specs.List.{slice_get}

-- ---- serial execution ----

-- `Executes row accesses row'`: carried out one after the other on the row, the accesses finish with row', and each read gives
-- the cell that it gave in the run
abbrev pub Executes : {C : Type 0} → List C → List (Access C) → List C → Type 0
Executes row [] row' = row ≡ row'
Executes row (read_gave cell c ∷ rest) row' = (slice_get row cell ≡ Some c) × Executes row rest row'
Executes row (wrote cell c ∷ rest) row' = Executes (slice_set row cell c) rest row'

-- ---- the wait-for graph of the open jobs ----

-- what an option leads to
abbrev pub given : {X Y : Type 0} → Option X → Y → (X → Y) → Y
given None y f = y
given (Some x) y f = f x

-- the open job that the job t waits for
abbrev pub waits_for : {C : Type 0} → List (Effect C) → ℕ → Option ℕ
waits_for h t = given (wait_of h t) None (λ u. cond (is_open h u) (Some u) None)

-- a path from t to u along the waits of open jobs, of one step or more
pub data Path {C : Type 0} (h : List (Effect C)) : ℕ → ℕ → Type 0 where
  one : {t u : ℕ} → is_open h t ≡ true → waits_for h t ≡ Some u → Path h t u
  more : {t u v : ℕ} → is_open h t ≡ true → waits_for h t ≡ Some u → Path h u v → Path h t v

-- the job that following the waits from t reaches in at most n steps
abbrev pub following : {C : Type 0} → List (Effect C) → ℕ → ℕ → ℕ
following h zero t = t
following h (suc n) t = given (waits_for h t) t (λ u. following h n u)

-- ---- runs ----

-- one request: the event, and the book after it
abbrev pub step : {C : Type 0} → May → Book C → Request C → Event C × Book C
step may b (request.Begin class) = (event.Begin class (book_begin b class).0, (book_begin b class).1)
step may b (request.Read ticket cell) = (event.Read ticket cell (book_read may b ticket cell).0, (book_read may b ticket cell).1)
step may b (request.Write ticket cell c) = (event.Write ticket cell c (book_write may b ticket cell c).0, (book_write may b ticket cell c).1)
step may b (request.End ticket) = (event.End ticket (book_end b ticket).0, (book_end b ticket).1)
step may b (request.GiveUp ticket) = (event.GiveUp ticket (book_give_up b ticket).0, (book_give_up b ticket).1)
step may b (request.GroupSize size) = (event.GroupSize size (book_group_size b size).0, (book_group_size b size).1)

-- `Run may first h b`: a fresh book over the main row `first` and some draft row got the requests of the history h and
-- nothing else, gave its answers, and is the book b then
pub data Run {C : Type 0} (may : May) (first : List C) : History C → Book C → Type 0 where
  opened : (draft : List C) → Run may first [] (fresh_book first draft)
  asked : {h : History C} {b : Book C} → Run may first h b → (q : Request C) → Run may first ((step may b q).0 ∷ h) (step may b q).1

-- ---- the theorem ----

-- what holds of a history over the first row, and of the main row then
pub record SerializableWithoutDeadlock {C : Type 0} (first : List C) (h : List (Effect C)) (main : List C) : Type 0 where
  -- every read granted to an ended job gave the cell that the serial execution gives there, which finishes with the main row
  pub serializable : Executes first (serial_order h) main
  -- there is no cycle in the wait-for graph of the open jobs
  pub no_cycle : (t : ℕ) → Path h t t → ⊥
  -- from an open job, following the waits reaches in at most 31 steps an open job that waits for nobody
  pub someone_goes_on : (t : ℕ) → is_open h t ≡ true → (is_open h (following h 31 t) ≡ true) × (waits_for h (following h 31 t) ≡ None)

-- The theorem on one request: whatever run led to the book before it, all this holds there; and by this event the run
-- goes on to the book after it, and it holds again.
abbrev pub KeepsSerializable : {C : Type 0} → May → Event C → Book C → Book C → Type 0
KeepsSerializable {C = C} may e before after =
    (first : List C) (h : History C)
    → Run may first h before
    → SerializableWithoutDeadlock first (effects h) before.main
    × Run may first (e ∷ h) after
    × SerializableWithoutDeadlock first (effects (e ∷ h)) after.main

-- the theorem itself, for a waiting rule
abbrev pub EveryRun : May → Type 1
EveryRun may = (C : Type 0) (first : List C) (h : History C) (b : Book C) → Run may first h b → SerializableWithoutDeadlock first (effects h) b.main
