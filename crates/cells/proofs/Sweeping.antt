-- A sweep over the records, in place, comes to one more of them.
use Rattle.std.proofs.Common.{◌≡◌, ℕ, ◌+◌, ◌<◌, List, ◌++◌, length, get_or, take, drop, set, sym, ap, ◌∙◌}
use Rattle.schedule.proofs.Sweeps.{swept_more}
use Rattle.schedule.specs.Cells.{all_released, all_stamped, no_record, released, stamped}
use Rattle.schedule.specs.declared.cell.CellRecord.{CellRecord}
use Rattle.std.proofs.lemmas.Simd.{map-map}

pub released_more :
    (row : ℕ) (xs ys : List CellRecord) (i : ℕ) (r : CellRecord) →
    i < length xs → i < length ys → ys ≡ all_released (take i xs) row ++ drop i xs →
    r ≡ released row (get_or ys i no_record) →
    set ys i r ≡ all_released (take (i + 1) xs) row ++ drop (i + 1) xs
released_more row xs ys i r = swept_more (released row) xs ys i no_record r

-- one sweep does to each record what two, one after the other, would do
pub kept_more :
    (row group : ℕ) (xs ys : List CellRecord) (i : ℕ) (r : CellRecord) →
    i < length xs → i < length ys → ys ≡ all_released (all_stamped (take i xs) row group) row ++ drop i xs →
    r ≡ released row (stamped row group (get_or ys i no_record)) →
    set ys i r ≡ all_released (all_stamped (take (i + 1) xs) row group) row ++ drop (i + 1) xs
kept_more row group xs ys i r h k s e =
    swept_more (λ x. released row (stamped row group x)) xs ys i no_record r h k
    (s ∙ ap (λ l. l ++ drop i xs) (map-map (released row) (stamped row group) (take i xs))) e
    ∙ ap (λ l. l ++ drop (i + 1) xs) (sym (map-map (released row) (stamped row group) (take (i + 1) xs)))
