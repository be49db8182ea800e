-- The books that a fresh one can lead to.
use Rattle.std.specs.Prelude.{◌≡◌, List, length}
use Rattle.schedule.specs.Books.{Book, book_begin, book_end, book_give_up, book_group_size, book_read, book_write, fresh_book, size_over}
use Rattle.schedule.specs.declared.request.Request.{Request}
use Rattle.schedule.specs.declared.request.Request.TheVariants as request
use Rattle.schedule.specs.Verdicts.{May}

-- the book after a request
abbrev pub after : {C : Type 0} → May → Book C → Request C → Book C
after may b (request.Begin class) = (book_begin b class).1
after may b (request.Read ticket cell) = (book_read may b ticket cell).1
after may b (request.Write ticket cell c) = (book_write may b ticket cell c).1
after may b (request.End ticket) = (book_end b ticket).1
after may b (request.GiveUp ticket) = (book_give_up b ticket).1
after may b (request.GroupSize size) = (book_group_size b size).1

-- a fresh book over any two rows, after any requests in any order
pub data Reachable {C : Type 0} (may : May) : Book C → Type 0 where
  opened : (main draft : List C) → Reachable may (fresh_book main draft)
  later : {b : Book C} → Reachable may b → (q : Request C) → Reachable may (after may b q)

-- there are as many records as cells in the book: the least of the two rows' lengths and 256
abbrev pub Sized : {C : Type 0} → Book C → Type 0
Sized b = length b.state.cells ≡ size_over b.main b.draft
