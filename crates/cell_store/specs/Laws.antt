-- Seeing the rows of what is kept commutes with reading and changing it.
use Rattle.std.specs.Prelude.{◌≡◌, ℕ, ◌+◌, ◌<◌, true, List, [], map, length, slice_index, Some, option_map}
use Rattle.std.specs.List.{sum_by}
use Rattle.layer_mean.specs.Tree.{LayerTree}
use Rattle.layer_mean.specs.State.{number_at, rows_at, row_at, has_room, with_number, with_rows, with_row}
use Rattle.layer_mean.specs.State.{without_front}
use Rattle.layer_mean.specs.Visit.{fresh}
use Rattle.layer_mean.specs.declared.run.Row.{Row}
use Rattle.cell_store.specs.Kept.{Kept, state_of, kept_number, kept_rows, kept_row, kept_capacity, keeps_room}
use Rattle.cell_store.specs.Kept.{with_kept_number, with_kept_rows, with_last, with_first, without_first, without_last}
use Rattle.cell_store.specs.Kept.{first_row, last_row, rows_in, emptied, kept_at, queues_kept}
use Rattle.cell_store.specs.Fresh.{kept_fresh, IsFor}
use Rattle.cell_store.specs.Frames.{capacity_in}

-- What is read of the state that is seen is what is kept.
pub record ReadsAreSeen (R : Type 0) : Type 0 where
  pub number : (see : R → Row) (k : Kept R) (c i : ℕ) → number_at (state_of see k) c i ≡ kept_number k c i
  pub rows : (see : R → Row) (k : Kept R) (c i : ℕ) → rows_at (state_of see k) c i ≡ map see (kept_rows k c i)
  pub row : (see : R → Row) (k : Kept R) (c i j : ℕ) → row_at (state_of see k) c i j ≡ option_map see (kept_row k c i j)
  pub room : (see : R → Row) (k : Kept R) (c i capacity : ℕ) → has_room (state_of see k) c i capacity ≡
      keeps_room k c i capacity

-- What is kept after a change is seen as the state after that change.
pub record ChangesAreSeen (R : Type 0) : Type 0 where
  pub number : (see : R → Row) (k : Kept R) (c i v : ℕ) → state_of see (with_kept_number k c i v) ≡
      with_number (state_of see k) c i v
  pub rows : (see : R → Row) (k : Kept R) (c i : ℕ) (rows : List R) →
      state_of see (with_kept_rows k c i rows) ≡ with_rows (state_of see k) c i (map see rows)
  pub last : (see : R → Row) (k : Kept R) (c i : ℕ) (row : R) → state_of see (with_last k c i row) ≡
      with_row (state_of see k) c i (see row)
  pub first : (see : R → Row) (k : Kept R) (c i : ℕ) → state_of see (without_first k c i) ≡
      without_front (state_of see k) c i
  pub fresh : (see : R → Row) (layer : LayerTree) (me n ltime most : ℕ) →
      state_of see (kept_fresh layer me n ltime most) ≡ fresh layer me n ltime

-- Cells that are those of a layer stay so, and their queues keep as many rows as it says.
pub record LayersStay (R : Type 0) : Type 0 where
  pub fresh : (layer : LayerTree) (me n ltime most : ℕ) → IsFor {R = R} layer (kept_fresh layer me n ltime most)
  pub number : (layer : LayerTree) (k : Kept R) (c i v : ℕ) → IsFor layer k → IsFor layer (with_kept_number k c i v)
  pub rows : (layer : LayerTree) (k : Kept R) (c i : ℕ) (rows : List R) → IsFor layer k →
      IsFor layer (with_kept_rows k c i rows)
  pub capacity : (layer : LayerTree) (k : Kept R) (c : ℕ) → IsFor layer k →
      kept_capacity k c ≡ slice_index (map (λ c. capacity_in c.form) layer.cells) c
  pub emptied : (layer : LayerTree) (old new : Kept R) → emptied new ≡ emptied old → IsFor layer old → IsFor layer new

-- There is no row at first, and the sum of any measure of all rows changes by that of the rows that come and go.
pub record RowsWeigh (R : Type 0) : Type 0 where
  pub rows : (weigh : R → ℕ) (k : Kept R) (c i : ℕ) (rows : List R) → i < length (queues_kept (kept_at k c)) →
      sum_by weigh (rows_in (with_kept_rows k c i rows)) + sum_by weigh (kept_rows k c i) ≡
      sum_by weigh (rows_in k) + sum_by weigh rows
  pub last : (weigh : R → ℕ) (k : Kept R) (c i capacity : ℕ) (row : R) → keeps_room k c i capacity ≡ true →
      sum_by weigh (rows_in (with_last k c i row)) ≡ sum_by weigh (rows_in k) + weigh row
  pub fresh : (layer : LayerTree) (me n ltime most : ℕ) → rows_in {R = R} (kept_fresh layer me n ltime most) ≡ []
  pub first : (weigh : R → ℕ) (k : Kept R) (c i : ℕ) (row : R) → first_row k c i ≡ Some row →
      sum_by weigh (rows_in k) ≡ sum_by weigh (rows_in (without_first k c i)) + weigh row

-- A row that is put back in front, or taken back, leaves what was kept before.
pub record ChangesAreUndone (R : Type 0) : Type 0 where
  pub first : (k : Kept R) (c i : ℕ) (row : R) → first_row k c i ≡ Some row → with_first (without_first k c i) c i row ≡
      k
  pub last : (k : Kept R) (c i capacity : ℕ) (row : R) → keeps_room k c i capacity ≡ true →
      (last_row (with_last k c i row) c i ≡ Some row) × (without_last (with_last k c i row) c i ≡ k)
