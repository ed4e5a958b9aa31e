-- Rows stay as they are while other references move.
use Rattle.std.proofs.Common.{◌≡◌, ℕ, List, ◌++◌, map, refl, ap, flat_map}
use Rattle.std.specs.List.{AllByRecursion}
use Rattle.slot_pool.specs.Held.{Held}
use Rattle.slot_pool.specs.References.{Moved, Covers}
use Rattle.layer_mean.specs.State as state
use Rattle.cell_store.specs.Kept.{KeptCell, numbers, queues, contents_seen}
use Rattle.pool_message.specs.Seen.{row_refs, row_seen, RowLies}
use Rattle.pool_message.specs.declared.row.PoolRow.{PoolRow}
use Rattle.pool_message.proofs.Lists.{each_stays}
use Rattle.pool_message.proofs.Stays.{row_stays}
use Rattle.live_layer.specs.Stock.{queues_refs, cell_refs, QueuesLie, CellLies}

module _ (p q : List Held) (a b : List ℕ) (moved : Moved p q a b) where
  queue_stays : (rows : List PoolRow) → Covers p (a ++ flat_map row_refs rows) → AllByRecursion (RowLies p) rows →
      AllByRecursion (RowLies q) rows × (map (row_seen q) rows ≡ map (row_seen p) rows)
  queue_stays = each_stays row_refs (RowLies p) (RowLies q) (row_seen p) (row_seen q) p a (row_stays p q a b moved)

  queues_stay : (qs : List (List PoolRow)) → Covers p (a ++ queues_refs qs) → QueuesLie p qs →
      QueuesLie q qs × (map (map (row_seen q)) qs ≡ map (map (row_seen p)) qs)
  queues_stay = each_stays (flat_map row_refs) (AllByRecursion (RowLies p)) (AllByRecursion (RowLies q))
      (map (row_seen p)) (map (row_seen q)) p a queue_stays

  cell_stays : (cell : KeptCell PoolRow) → Covers p (a ++ cell_refs cell) → CellLies p cell →
      CellLies q cell × (contents_seen (row_seen q) cell ≡ contents_seen (row_seen p) cell)
  cell_stays (numbers shape ns) covers lies = (tt, refl)
  cell_stays (queues shape capacity qs) covers lies =
      let kept = queues_stay qs covers lies in (kept.0, ap (λ seen. state.queues seen) kept.1)

  pub cells_stay : (cells : List (KeptCell PoolRow)) → Covers p (a ++ flat_map cell_refs cells) →
      AllByRecursion (CellLies p) cells →
      AllByRecursion (CellLies q) cells ×
      (map (contents_seen (row_seen q)) cells ≡ map (contents_seen (row_seen p)) cells)
  cells_stay = each_stays cell_refs (CellLies p) (CellLies q) (contents_seen (row_seen p)) (contents_seen (row_seen q))
      p a cell_stays
