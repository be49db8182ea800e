-- In a book that has as many records as its size says, a read's refusal changes nothing, and 5 comes exactly past the end.
use Rattle.std.proofs.Common.{◌≡◌, ℕ, length, Ok, Err, List, slice_set, arith, length-set}
use Rattle.engine.specs.Promises.{PastTheEndExactly}
use Rattle.schedule.proofs.Admitting.{admitted_outside, admitted_outside_only}
use Rattle.schedule.specs.Answers.{Reply}
use Rattle.schedule.specs.Books.{Book, book_read, book_write}
use Rattle.schedule.specs.declared.answer.NotGranted.TheVariants as not_granted
use Rattle.schedule.specs.declared.answer.Refusal.TheVariants as refusal
use Rattle.schedule.specs.declared.job.Kind.{Kind}
use Rattle.schedule.specs.declared.job.Kind.TheVariants as kind
use Rattle.schedule.specs.Promises.{RefusalKeeps}
use Rattle.schedule.specs.Reachable.{Sized}
use Rattle.schedule.specs.Steps.{admitted}
use Rattle.schedule.specs.Verdicts.{May}
use Rattle.std.proofs.lemmas.Bool.Decides.{nat_tests}
use Rattle.std.proofs.lemmas.Option.{slice_get_cases}

-- a put keeps the number of cells
pub put_keeps_length : {C : Type 0} (row : List C) (i : ℕ) (c : C) → length (slice_set row i c) ≡ length row
put_keeps_length row i c = length-set row i c

module _ {C : Type 0} (may : May) (b : Book C) (sized : Sized b) (ticket cell : ℕ) where
  pub read_refusal_keeps : (r : Reply C) (after : Book C) → book_read may b ticket cell ≡ (r, after) → RefusalKeeps r b after
  read_refusal_keeps (Ok c) after e = tt
  read_refusal_keeps (Err (not_granted.Wait blocker)) after e = tt
  read_refusal_keeps (Err (not_granted.Rejected why)) after e = tt
  read_refusal_keeps (Err (not_granted.Refused why)) after e = grind (arith, nat_tests, slice_get_cases b.main cell, slice_get_cases b.draft cell)

  past_the_end_exactly : {X : Type 0} (k : Kind) (r : Reply X)
      → (admitted (length b.state.cells) b.state.jobs ticket cell k ≡ Err refusal.NoSuchCell → r ≡ Err (not_granted.Refused refusal.NoSuchCell))
      → (r ≡ Err (not_granted.Refused refusal.NoSuchCell) → admitted (length b.state.cells) b.state.jobs ticket cell k ≡ Err refusal.NoSuchCell)
      → PastTheEndExactly b ticket cell r
  past_the_end_exactly k r gets_it only =
      record {
        past_the_end = λ s le. gets_it (admitted_outside (length b.state.cells) b.state.jobs ticket cell k s (omega arith));
        open_job = λ no. (admitted_outside_only (length b.state.cells) b.state.jobs ticket cell k (only no)).0;
        no_cell = λ no. let outside = admitted_outside_only (length b.state.cells) b.state.jobs ticket cell k (only no) in omega arith;
      }

  pub read_past_the_end : PastTheEndExactly b ticket cell (book_read may b ticket cell).0
  read_past_the_end =
      past_the_end_exactly kind.Read (book_read may b ticket cell).0 (λ q. grind arith)
      (λ q. grind (arith, nat_tests, slice_get_cases b.main cell, slice_get_cases b.draft cell))

  pub write_past_the_end : (c : C) → PastTheEndExactly b ticket cell (book_write may b ticket cell c).0
  write_past_the_end c = past_the_end_exactly kind.Write (book_write may b ticket cell c).0 (λ q. grind arith) (λ q. grind arith)
