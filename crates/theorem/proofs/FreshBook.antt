-- A fresh book is as the invariant says.
use Rattle.std.proofs.Common.{◌≡◌, ℕ, zero, suc, Bool, false, List, [], get_or, replicate, None, Option, refl, arith}
use Rattle.schedule.specs.Books.{fresh_book, size_over}
use Rattle.schedule.specs.Cells.{fresh_record, is_reader, no_record}
use Rattle.schedule.specs.declared.cell.CellRecord.{CellRecord}
use Rattle.schedule.specs.declared.job.Job.{Job}
use Rattle.schedule.specs.States.{State, fresh_state}
use Rattle.schedule.specs.Verdicts.{May}
use Rattle.std.proofs.lemmas.List.{get_or-replicate, length-replicate}
use Rattle.theorem.proofs.Executions.{ReadsRight}
use Rattle.theorem.proofs.Invariant.{Invariant, Sound, View, bare, view}
use Rattle.theorem.proofs.Kept.{Kept}
use Rattle.theorem.proofs.Shapes.{Shape}
use Rattle.theorem.specs.Histories.{serial_up_to}

-- what holds of a fresh entry and of none holds everywhere
at_replicate : {X : Type 0} (P : X → Type 0) (x d : X) → P x → P d → (n q : ℕ) → P (get_or (replicate n x) q d)
at_replicate P x d p e zero q = e
at_replicate P x d p e (suc n) zero = p
at_replicate P x d p e (suc n) (suc q) = at_replicate P x d p e n q

module _ (size : ℕ) where
  abbrev s : State
  s = fresh_state size

  no_job : (i : ℕ) → (view s).job i ≡ None
  no_job = at_replicate (λ (o : Option Job). bare o ≡ None) None None refl refl 32

  no_writer : (cell : ℕ) → (view s).writer cell ≡ None
  no_writer = at_replicate (λ (r : CellRecord). r.writer ≡ None) fresh_record no_record refl refl size

  no_reader : (cell i : ℕ) → (view s).reader cell i ≡ false
  no_reader cell i =
      at_replicate (λ (r : CellRecord). is_reader r i ≡ false) fresh_record no_record (at_replicate (λ (x : Bool). x ≡ false) false false refl refl 32 i) refl size cell

  fresh_shape : Shape s
  fresh_shape =
      record {
        rows = refl;
        readers = λ cell l. let m = length-replicate size fresh_record in
            rw (get_or-replicate size cell fresh_record no_record (omega arith));
      }

-- ---- with no job, no writer and no reader all holds at the start ----

module _ {C : Type 0} where
  serial_none : (g : ℕ) → serial_up_to {C = C} [] g ≡ []
  serial_none zero = refl
  serial_none (suc g) = rw (serial_none g)

  serial_right : (first : List C) (g : ℕ) → ReadsRight first (serial_up_to [] g)
  serial_right first g = rw (serial_none g) tt

module _ (V : View) (no_job : (i : ℕ) → V.job i ≡ None) (no_writer : (cell : ℕ) → V.writer cell ≡ None)
    (no_reader : (cell i : ℕ) → V.reader cell i ≡ false) where
  empty_sound : Sound V
  empty_sound = grind (arith, no_job, no_writer, no_reader)

  empty_invariant : {C : Type 0} (may : May) (first draft : List C) → Invariant may first [] V first draft
  empty_invariant may first draft = grind (arith, empty_sound, no_job, no_writer, no_reader, serial_right first)

pub fresh_kept : {C : Type 0} (may : May) (first draft : List C) → Kept may first [] (fresh_book first draft)
fresh_kept may first draft =
    let n = size_over first draft in
    (fresh_shape n, empty_invariant (view (fresh_state n)) (no_job n) (no_writer n) (no_reader n) may first draft)
