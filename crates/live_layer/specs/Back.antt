-- Rows that are given back.
use Rattle.std.specs.Prelude.{◌≤◌, List}
use Rattle.std.specs.List.{flat_map}
use Rattle.slot_pool.specs.Held.{Held, spare}
use Rattle.slot_pool.specs.References.{Moved, Covers}
use Rattle.pool_message.specs.Seen.{row_refs}
use Rattle.pool_message.specs.declared.row.PoolRow.{PoolRow}

-- Of some rows these are left, and the pool counts them; the references of the others are gone.
pub record GoneTo (start p : List Held) (all rest : List PoolRow) : Type 0 where
  pub covers : Covers p (flat_map row_refs rest)
  pub moved : Moved start p (flat_map row_refs all) (flat_map row_refs rest)
  pub slots : spare start ≤ spare p
