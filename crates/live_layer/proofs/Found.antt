-- What is read of rows is what is seen of them.
use Rattle.std.proofs.Common.{◌≡◌, ℕ, List, Some, None, option_map, length, slice_index, refl, sym, ap, subst, ◌∙◌}
use Rattle.std.specs.List.{AllByRecursion}
use Rattle.slot_pool.specs.Held.{Held}
use Rattle.layer_mean.specs.State.{row_at}
use Rattle.layer_mean.specs.Tree.{Carried, part, whole}
use Rattle.layer_mean.specs.Value.{missing, number_in, message_in}
use Rattle.cell_store.specs.Kept.{Kept, kept_rows, kept_row, state_of}
use Rattle.pool_message.specs.Seen.{content_seen, Lies, LiesIf, row_seen, RowLies}
use Rattle.pool_message.specs.Moves.{Counts}
use Rattle.pool_message.specs.declared.message.PoolMessage.{PoolMessage}
use Rattle.pool_message.specs.declared.row.PoolRow.{PoolRow}
use Rattle.live_layer.specs.Stock.{CellLies}
use Rattle.live_layer.proofs.Lists.{all-at}
use Rattle.live_layer.proofs.Queues.{row_at_seen}
use Rattle.live_layer.proofs.Rows.{rows_lie}

module _ (p : List Held) (k : Kept PoolRow) (c i r : ℕ) where
  found : (row : PoolRow) → kept_row k c i r ≡ Some row → row_at (state_of (row_seen p) k) c i r ≡ Some (row_seen p row)
  found row is = row_at_seen (row_seen p) k c i r ∙ ap (option_map (row_seen p)) is

  not_found : kept_row k c i r ≡ None → row_at (state_of (row_seen p) k) c i r ≡ None
  not_found is = row_at_seen (row_seen p) k c i r ∙ ap (option_map (row_seen p)) is

  pub item_found : (n : ℕ) (row : PoolRow) → kept_row k c i r ≡ Some row → slice_index row.numbers n ≡ number_in
      n (row_at (state_of (row_seen p) k) c i r)
  item_found n row is = sym (ap (number_in n) (found row is))

  pub item_none : (n : ℕ) → kept_row k c i r ≡ None → 0 ≡ number_in n (row_at (state_of (row_seen p) k) c i r)
  item_none n is = sym (ap (number_in n) (not_found is))

  -- The message of a row that is there lies in the pool.
  pub row_lies : AllByRecursion (CellLies p) k.cells → (row : PoolRow) → kept_row k c i r ≡ Some row → RowLies p row
  row_lies lie row is = all-at (RowLies p) (kept_rows k c i) r row is (rows_lie p k c i lie)

  none_long : (carried : Carried) → 0 ≡ length (missing carried).body
  none_long part = refl
  none_long (whole blank) = refl

  pub size_found : (carried : Carried) (row : PoolRow) (m : PoolMessage) (n : ℕ) → AllByRecursion (CellLies p) k.cells →
      kept_row k c i r ≡ Some row →
      row.message ≡ Some m → Counts m n → n ≡ length (message_in carried (row_at (state_of (row_seen p) k) c i r)).body
  size_found carried row m n lie is has counts =
      let lies : Lies p m = subst (LiesIf p) has (row_lies lie row is) in
      sym (ap (λ o. length (message_in carried o).body)
      (found row is ∙ (λ j. Some (record { numbers = row.numbers; message = option_map (content_seen p) (has j) }))) ∙
      counts.bytes p lies)

  pub size_bare : (carried : Carried) (row : PoolRow) → kept_row k c i r ≡ Some row → row.message ≡ None →
      0 ≡ length (message_in carried (row_at (state_of (row_seen p) k) c i r)).body
  size_bare carried row is has =
      none_long carried ∙ sym
      (ap (λ o. length (message_in carried o).body)
      (found row is ∙ (λ j. Some (record { numbers = row.numbers; message = option_map (content_seen p) (has j) }))))

  pub size_none : (carried : Carried) → kept_row k c i r ≡ None →
      0 ≡ length (message_in carried (row_at (state_of (row_seen p) k) c i r)).body
  size_none carried is = none_long carried ∙ sym (ap (λ o. length (message_in carried o).body) (not_found is))
