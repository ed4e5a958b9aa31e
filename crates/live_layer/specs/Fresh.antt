-- A desk that was made for a layer, before its first event.
use Rattle.std.specs.Prelude.{◌≡◌, ℕ, ◌≤◌, List, [], None, vec_capacity}
use Rattle.circular_buffer.specs.Buffer.{buffer}
use Rattle.slot_pool.specs.Held.{Held}
use Rattle.layer_mean.specs.Tree.{LayerTree}
use Rattle.layer_mean.specs.Visit.{fresh}
use Rattle.desk_needs.specs.Layouts as room
use Rattle.desk_needs.specs.Reserved.{layout_reserve}
use Rattle.desk_needs.specs.declared.reserve.Reserve.{Reserve}
use Rattle.cell_store.specs.Kept.{state_of}
use Rattle.cell_store.specs.Fresh.{kept_fresh}
use Rattle.pool_message.specs.Seen.{row_seen}
use Rattle.live_layer.specs.Stock.{kept_refs}
use Rattle.live_layer.specs.Fits.{most_bound}
use Rattle.live_layer.specs.Ready.{layout_of}
use Rattle.live_layer.specs.Rest.{KeepsFew, IsAtRest}
use Rattle.live_layer.specs.declared.desk.FileDesk.{FileDesk}

-- Nothing lies on the desk, and its cells are those of a layer that has seen no event.
pub record IsEmpty (layer : LayerTree) (me n ltime : ℕ) (d : FileDesk) : Type 0 where
  pub cells : d.cells ≡ kept_fresh layer me n ltime n
  pub numbers : d.numbers.items ≡ []
  pub messages : d.tray.messages.items ≡ []
  pub arrived : d.tray.arrived ≡ None
  pub hand : d.hand.items ≡ []
  pub sent : d.tray.sent ≡ buffer [] 0
  pub numbers_room : most_bound ≤ vec_capacity d.numbers
  pub messages_room : 1 ≤ d.tray.messages.capacity
  pub layout : layout_of d ≡ room.layout_of layer 0

-- The layer at a desk has seen no event: it is at rest in any pool, refers to no slot, and its state is that of a layer
-- at first.
pub record IsFresh (layer : LayerTree) (me n ltime : ℕ) (d : FileDesk) : Type 0 where
  pub rest : (p : List Held) → IsAtRest layer p d
  pub refs : kept_refs d.cells ≡ []
  pub state : (p : List Held) → state_of (row_seen p) d.cells ≡ fresh layer me n ltime

-- What is reserved for a layer's desk, which keeps few rows, and few messages beside them.
pub record IsReserved (layer : LayerTree) (r : Reserve) : Type 0 where
  pub is : r ≡ layout_reserve (room.layout_of layer 0)
  pub few : KeepsFew (room.layout_of layer 0)
