-- The theorem as calls promise it: at the opening of a book, and over a list of requests.
use Rattle.std.specs.Prelude.{◌≡◌, List, [], ◌∷◌}
use Rattle.schedule.specs.Books.{Book}
use Rattle.schedule.specs.declared.request.Event.{Event}
use Rattle.schedule.specs.declared.request.Event.TheVariants as event
use Rattle.schedule.specs.declared.request.Request.{Request}
use Rattle.schedule.specs.declared.request.Request.TheVariants as request
use Rattle.schedule.specs.Verdicts.{May}
use Rattle.theorem.specs.Histories.{History, effects}
use Rattle.theorem.specs.Theorem.{Run, SerializableWithoutDeadlock, step}

-- the request that an event answers
abbrev pub request_of : {C : Type 0} → Event C → Request C
request_of (event.Begin class r) = request.Begin class
request_of (event.Read ticket cell r) = request.Read ticket cell
request_of (event.Write ticket cell c r) = request.Write ticket cell c
request_of (event.End ticket r) = request.End ticket
request_of (event.GiveUp ticket r) = request.GiveUp ticket
request_of (event.GroupSize size r) = request.GroupSize size

-- a fresh book is the run of the empty history over its main row, and all holds there
abbrev pub StartsSerializable : {C : Type 0} → May → List C → Book C → Type 0
StartsSerializable may first b = Run may first [] b × SerializableWithoutDeadlock first (effects []) b.main

-- the book after a list of requests
abbrev pub after_all : {C : Type 0} → May → Book C → List (Request C) → Book C
after_all may b [] = b
after_all may b (q ∷ qs) = after_all may (step may b q).1 qs

-- the history h' goes on from h by these requests, in order, each with some answer
abbrev pub Extends : {C : Type 0} → List (Request C) → History C → History C → Type 0
Extends [] h h' = h ≡ h'
Extends {C = C} (q ∷ qs) h h' = (e : Event C) × (request_of e ≡ q) × Extends qs (e ∷ h) h'

-- The theorem over a list of requests: whatever run led to the book before them, it goes on by them to the book after
-- them, and all holds of it.
abbrev pub KeepsSerializableThrough : {C : Type 0} → May → List (Request C) → Book C → Book C → Type 0
KeepsSerializableThrough {C = C} may qs before after =
    (first : List C) (h : History C)
    → Run may first h before
    → (h' : History C)
    × Extends qs h h'
    × Run may first h' after
    × SerializableWithoutDeadlock first (effects h') after.main
