-- What a window shows of the store below it.
use Rattle.std.specs.Prelude.{List, take, drop}
use Rattle.window_store.specs.declared.window.Window.{Window}

-- the window's row, by what gives the row of the store below: `count` of its cells from `start` on, or as many as there are
abbrev pub window_row : {S C : Type 0} → (S → List C) → Window S → List C
window_row row_below window = take window.count (drop window.start (row_below window.below))
