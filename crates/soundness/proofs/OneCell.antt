-- One record stays sound: under a change of the open jobs, and under each change of the record.
use Rattle.std.proofs.Common.{◌≡◌, ◌≢◌, ℕ, zero, suc, ◌≤◌, Bool, true, false, List, [], ◌∷◌, map, get_or, set, replicate, Some, Option, ◌⊎◌, inl, inr, refl, arith, get_or-set_other}
use Rattle.schedule.specs.Cells.{fresh_record, no_record, released, stamped, with_reader, with_writer}
use Rattle.schedule.specs.declared.cell.CellRecord.{CellRecord}
use Rattle.soundness.specs.Soundness.{CellSound, ReadersEarlier, WriterLater}
use Rattle.std.proofs.lemmas.Bool.{cases_eq}
use Rattle.std.proofs.lemmas.Grind.{common_steps}

-- what holds of each element holds still after one is changed, if it holds of the new one
pub each_set : {X : Type 0} (P : X → Type 0) (d x : X) (xs : List X) (i : ℕ) → ((k : ℕ) → P (get_or xs k d)) → P x → (k : ℕ) → P (get_or (set xs i x) k d)
each_set P d x [] i h p k = h k
each_set P d x (y ∷ ys) zero h p zero = p
each_set P d x (y ∷ ys) zero h p (suc k) = h (suc k)
each_set P d x (y ∷ ys) (suc i) h p zero = h zero
each_set P d x (y ∷ ys) (suc i) h p (suc k) = each_set P d x ys i (λ n. h (suc n)) p k

-- or after all are changed
pub each_map : {X : Type 0} (P Q : X → Type 0) (f : X → X) (d : X) (xs : List X) → ((k : ℕ) → P (get_or xs k d)) → ((x : X) → P x → Q (f x)) → Q d → (k : ℕ) → Q (get_or (map f xs) k d)
each_map P Q f d [] h s q k = q
each_map P Q f d (y ∷ ys) h s q zero = s y (h zero)
each_map P Q f d (y ∷ ys) h s q (suc k) = each_map P Q f d ys (λ n. h (suc n)) s q k

-- what holds of an element holds of each in a list of its copies
pub each_same : {X : Type 0} (P : X → Type 0) (d x : X) (n k : ℕ) → P x → P d → P (get_or (replicate n x) k d)
each_same P d x zero k p q = q
each_same P d x (suc n) zero p q = p
each_same P d x (suc n) (suc k) p q = each_same P d x n k p q

-- past the last record
pub no_record_sound : (at : ℕ → Option ℕ) → CellSound at no_record
no_record_sound at = record { readers_open = λ k e. absurd cc; writer_open = λ w e. absurd cc; readers_earlier = λ w k g h e f n a b. cc }

-- the record of an untouched cell
pub fresh_record_sound : (at : ℕ → Option ℕ) → CellSound at fresh_record
fresh_record_sound at = record {
  readers_open = λ k e. let n = none k in absurd cc;
  writer_open = λ w e. absurd cc;
  readers_earlier = λ w k g h e f n a b. cc;
}
  where
    none : (k : ℕ) → get_or (replicate 32 false) k false ≡ false
    none k = each_same (λ b. b ≡ false) false false 32 k refl refl

module _ {at : ℕ → Option ℕ} {r : CellRecord} (c : CellSound at r) where
  -- open jobs stay, with their groups
  pub cell_sound_grows : (at' : ℕ → Option ℕ) → ((k g : ℕ) → at k ≡ Some g → at' k ≡ Some g) → CellSound at' r
  cell_sound_grows at' m = record {
    readers_open = λ k e. grind (arith, m, c.readers_open);
    writer_open = λ w e. grind (arith, m, c.writer_open);
    readers_earlier = λ w k g h e f n a b. grind (arith, m, c.readers_open, c.writer_open, c.readers_earlier);
  }

  -- the job in a row closes
  pub cell_sound_released : (at' : ℕ → Option ℕ) (row : ℕ) → ((k g : ℕ) → k ≢ row → at k ≡ Some g → at' k ≡ Some g) → CellSound at' (released row r)
  cell_sound_released at' row m = record {
    readers_open = λ k e. grind (arith, common_steps, m, c.readers_open);
    writer_open = λ w e. grind (arith, m, c.writer_open);
    readers_earlier = λ w k g h e f n a b. grind (arith, common_steps, m, c.readers_open, c.writer_open, c.readers_earlier);
  }

  -- the write of a job is kept
  pub cell_sound_stamped : (row g : ℕ) → CellSound at (stamped row g r)
  cell_sound_stamped row g = record { readers_open = c.readers_open; writer_open = c.writer_open; readers_earlier = c.readers_earlier }

  module _ (row g : ℕ) (of_group : at row ≡ Some g) where
    -- a job in a row is granted a read
    pub cell_sound_read : WriterLater at r row g → CellSound at (with_reader r row g)
    cell_sound_read later = record {
      readers_open = λ k e. reader k (cases_eq k row) e;
      writer_open = c.writer_open;
      readers_earlier = λ w k a b e f n p q. grind (arith, common_steps, c.readers_earlier, later);
    }
      where
        reader : (k : ℕ) → (k ≡ row) ⊎ (k ≢ row) → get_or (set r.readers row true) k false ≡ true → (h : ℕ) × (at k ≡ Some h) × (h ≤ (with_reader r row g).read_mark)
        reader k (inl same) e = (g, grind arith, grind arith)
        reader k (inr other) e = grind (arith, get_or-set_other {A = Bool}, c.readers_open)

    -- a job in a row is granted a write
    pub cell_sound_written : ReadersEarlier at r row g → CellSound at (with_writer r row)
    cell_sound_written earlier = record {
      readers_open = c.readers_open;
      writer_open = λ w e. (g, grind arith);
      readers_earlier = λ w k a b e f n p q. grind (arith, earlier);
    }
