-- A desk's rows refer to no more slots than there are rows with messages.
use Rattle.std.proofs.Common.{ℕ, ◌≤◌, List, [], ◌∷◌, cond, Option, Some, None, map, length, flat_map, arith}
use Rattle.std.specs.List.{sum_by, count_by}
use Rattle.std.proofs.lemmas.List.{length-append}
use Rattle.std.proofs.lemmas.List.Sums.{sum_by-cons}
use Rattle.slot_pool.specs.Held.{Held}
use Rattle.layer_stage.specs.Kept.{has_message, rows_kept}
use Rattle.cell_store.specs.Kept.{KeptCell, numbers, queues, contents_seen}
use Rattle.pool_message.specs.Seen.{refs_if, seen_if, row_refs, row_seen}
use Rattle.pool_message.specs.declared.message.PoolMessage.{PoolMessage}
use Rattle.pool_message.specs.declared.row.PoolRow.{PoolRow}
use Rattle.live_layer.specs.Stock.{queues_refs, cell_refs}
use Rattle.live_layer.specs.Few.{body_few}

module _ (p : List Held) where
  row_keeps : (ns : List ℕ) (m : Option PoolMessage) →
      length (refs_if m) ≤ cond (has_message (record { numbers = ns; message = seen_if p m })) 1 0
  row_keeps ns None = omega arith
  row_keeps ns (Some m) = body_few m.body

  queue_keeps : (rows : List PoolRow) → length (flat_map row_refs rows) ≤ count_by has_message (map (row_seen p) rows)
  queue_keeps [] = omega arith
  queue_keeps (row ∷ rows) =
      let first = row_keeps row.numbers row.message in let rest = queue_keeps rows in
      omega (
        arith,
        length-append (row_refs row) (flat_map row_refs rows),
        sum_by-cons (λ row. cond (has_message row) 1 0) (row_seen p row) (map (row_seen p) rows),
      )

  queues_keep : (qs : List (List PoolRow)) →
      length (queues_refs qs) ≤ sum_by (count_by has_message) (map (map (row_seen p)) qs)
  queues_keep [] = omega arith
  queues_keep (q ∷ qs) =
      let first = queue_keeps q in let rest = queues_keep qs in
      omega (
        arith,
        length-append (flat_map row_refs q) (queues_refs qs),
        sum_by-cons (count_by has_message) (map (row_seen p) q) (map (map (row_seen p)) qs),
      )

  cell_keeps : (cell : KeptCell PoolRow) → length (cell_refs cell) ≤ rows_kept (contents_seen (row_seen p) cell)
  cell_keeps (numbers shape ns) = omega arith
  cell_keeps (queues shape capacity qs) = queues_keep qs

  pub cells_keep : (cells : List (KeptCell PoolRow)) →
      length (flat_map cell_refs cells) ≤ sum_by rows_kept (map (contents_seen (row_seen p)) cells)
  cells_keep [] = omega arith
  cells_keep (cell ∷ cells) =
      let first = cell_keeps cell in let rest = cells_keep cells in
      omega (
        arith,
        length-append (cell_refs cell) (flat_map cell_refs cells),
        sum_by-cons rows_kept (contents_seen (row_seen p) cell) (map (contents_seen (row_seen p)) cells),
      )
