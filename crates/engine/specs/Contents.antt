-- What a caller sees of an open book.
use Rattle.std.specs.Prelude.{◌≡◌, List}
use Rattle.schedule.specs.Books.{Book}
use Rattle.soundness.specs.Soundness.{StateSound}

-- its stores, its waiting rule, and the book: the rows of the stores beside the state of the ledger
pub record Contents (M D W C : Type 0) : Type 0 where
  pub main : M
  pub draft : D
  pub rule : W
  pub book : Book C

-- the book's two rows are those that its stores hold, as `row_of_main` and `row_of_draft` tell them, and its state is sound
abbrev pub BookSound : {M D W C : Type 0} → (M → List C) → (D → List C) → Contents M D W C → Type 0
BookSound row_of_main row_of_draft c = (row_of_main c.main ≡ c.book.main) × (row_of_draft c.draft ≡ c.book.draft) × StateSound c.book.state
