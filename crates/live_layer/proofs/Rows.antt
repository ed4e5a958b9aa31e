-- Rows of the queues of a desk: one is put at the back, and the front one is taken.
use Rattle.std.proofs.Common.{◌≡◌, ℕ, ◌+◌, ◌<◌, List, [], ◌∷◌, ◌++◌, inl, inr, length, drop, get_or, flat_map, ap}
use Rattle.std.proofs.Common.{arith}
use Rattle.std.specs.List.{AllByRecursion}
use Rattle.std.proofs.lemmas.List.{get_or_past}
use Rattle.slot_pool.specs.Held.{Held}
use Rattle.slot_pool.specs.Times.{times}
use Rattle.slot_pool.proofs.Held.{below_or_not}
use Rattle.cell_store.specs.Kept.{KeptCell, numbers, queues, Kept, nothing_kept, queues_kept, kept_at, kept_rows}
use Rattle.cell_store.specs.Kept.{rows_set, with_kept_rows, with_last, without_first}
use Rattle.pool_message.specs.Seen.{row_refs, RowLies}
use Rattle.pool_message.specs.declared.row.PoolRow.{PoolRow}
use Rattle.live_layer.specs.Stock.{cell_refs, kept_refs, CellLies}
use Rattle.live_layer.proofs.Lists.{times-both, times-one, times-set, all-set, all-get}

-- A queue that is there is one of a cell that is there.
cell_within : (k : Kept PoolRow) (c i : ℕ) → i < length (queues_kept (kept_at k c)) → c < length k.cells
cell_within k c i within = elim (below_or_not c (length k.cells)) [
  | inl lt ↦ lt
  | inr past ↦
      let none : length (queues_kept (kept_at k c)) ≡ 0 = ap (λ (cell : KeptCell PoolRow). length (queues_kept cell))
      (get_or_past k.cells c nothing_kept past) in
      absurd (omega arith)
]

cell_times : (j i : ℕ) (rows : List PoolRow) (cell : KeptCell PoolRow) → i < length (queues_kept cell) →
    times j (cell_refs (rows_set i rows cell)) + times j (flat_map row_refs (get_or (queues_kept cell) i [])) ≡
    times j (cell_refs cell) + times j (flat_map row_refs rows)
cell_times j i rows (numbers shape ns) within = absurd (omega arith)
cell_times j i rows (queues shape capacity qs) within = times-set (flat_map row_refs) j qs i rows [] within

module _ (k : Kept PoolRow) (c i : ℕ) (within : i < length (queues_kept (kept_at k c))) where
  pub rows_times : (j : ℕ) (rows : List PoolRow) →
      times j (kept_refs (with_kept_rows k c i rows)) + times j (flat_map row_refs (kept_rows k c i)) ≡
      times j (kept_refs k) + times j (flat_map row_refs rows)
  rows_times j rows =
      let one = times-set cell_refs j k.cells c (rows_set i rows (kept_at k c)) nothing_kept (cell_within k c i within)
      in
      let two = cell_times j i rows (kept_at k c) within in omega arith

  pub last_times : (row : PoolRow) (j : ℕ) → times j (kept_refs (with_last k c i row)) ≡
      times j (row_refs row) + times j (kept_refs k)
  last_times row j =
      let all = rows_times j (kept_rows k c i ++ row ∷ []) in let both =
      times-both row_refs j (kept_rows k c i) (row ∷ []) in
      let one = times-one row_refs j row in omega arith

  pub first_times : (row : PoolRow) (rest : List PoolRow) → kept_rows k c i ≡ row ∷ rest → (j : ℕ) →
      times j (kept_refs k) ≡ times j (row_refs row) + times j (kept_refs (without_first k c i))
  first_times row rest is j =
      let all = rows_times j (drop 1 (kept_rows k c i)) in
      let whole = ap (λ rows. times j (flat_map row_refs rows)) is in
      let left = ap (λ rows. times j (flat_map row_refs (drop 1 rows))) is in
      let both = times-both row_refs j (row ∷ []) rest in let one = times-one row_refs j row in omega arith

module _ (p : List Held) where
  cell_set : (i : ℕ) (rows : List PoolRow) (cell : KeptCell PoolRow) → CellLies p cell →
      AllByRecursion (RowLies p) rows → CellLies p (rows_set i rows cell)
  cell_set i rows (numbers shape ns) lie one = tt
  cell_set i rows (queues shape capacity qs) lie one = all-set (AllByRecursion (RowLies p)) qs i rows lie one

  module _ (k : Kept PoolRow) (c i : ℕ) (lie : AllByRecursion (CellLies p) k.cells) where
    cell_lies : CellLies p (kept_at k c)
    cell_lies = all-get (CellLies p) k.cells c nothing_kept lie tt

    pub rows_lie : AllByRecursion (RowLies p) (kept_rows k c i)
    rows_lie = all-get (AllByRecursion (RowLies p)) (queues_kept (kept_at k c)) i [] cell_lies tt

    pub rows_set_lie : (rows : List PoolRow) → AllByRecursion (RowLies p) rows →
        AllByRecursion (CellLies p) (with_kept_rows k c i rows).cells
    rows_set_lie rows one = all-set (CellLies p) k.cells c (rows_set i rows (kept_at k c)) lie
        (cell_set i rows (kept_at k c) cell_lies one)
