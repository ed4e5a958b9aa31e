-- A row that is read of a layer.
use Rattle.std.proofs.Common.{◌≡◌, ℕ, List, Bor, Option, Some, None, option_map, option_copied, IfSome, refl, sym, ap}
use Rattle.std.proofs.Common.{◌∙◌}
use Rattle.std.specs.List.{AllByRecursion}
use Rattle.slot_pool.specs.Held.{Held}
use Rattle.layer_mean.specs.State.{row_at}
use Rattle.cell_store.specs.Kept.{Kept, kept_row, state_of}
use Rattle.pool_message.specs.Seen.{row_seen, RowLies}
use Rattle.pool_message.specs.declared.row.PoolRow.{PoolRow}
use Rattle.live_layer.specs.Stock.{CellLies}
use Rattle.live_layer.proofs.Found.{row_lies}
use Rattle.live_layer.proofs.Queues.{row_at_seen}

copied_seen : (p : List Held) (o : Option (Bor PoolRow)) → option_map (λ r. row_seen p r.now) o ≡
    option_map (row_seen p) (option_copied o)
copied_seen p None = refl
copied_seen p (Some r) = refl

pub row_read : (p : List Held) (k : Kept PoolRow) (c i j : ℕ) (o : Option (Bor PoolRow)) →
    option_copied o ≡ kept_row k c i j →
    option_map (λ r. row_seen p r.now) o ≡ row_at (state_of (row_seen p) k) c i j
row_read p k c i j o is = copied_seen p o ∙ ap (option_map (row_seen p)) is ∙ sym (row_at_seen (row_seen p) k c i j)

pub read_lies : (p : List Held) (k : Kept PoolRow) (c i j : ℕ) (o : Option (Bor PoolRow)) →
    option_copied o ≡ kept_row k c i j →
    AllByRecursion (CellLies p) k.cells → IfSome o (λ r. RowLies p r.now)
read_lies p k c i j None is lie = tt
read_lies p k c i j (Some r) is lie = row_lies p k c i j lie r.now (sym is)
