-- A desk between visits.
use Rattle.std.specs.Prelude.{◌≡◌, ℕ, ◌+◌, ◌≤◌, List, [], None, Option, length, vec_capacity}
use Rattle.std.specs.List.{AllByRecursion}
use Rattle.circular_buffer.specs.Buffer.{Buffer}
use Rattle.slot_pool.specs.Held.{Held}
use Rattle.layer_words.specs.declared.events.Dir.{Dir}
use Rattle.layer_words.specs.declared.events.Kind.{Kind}
use Rattle.layer_mean.specs.Tree.{LayerTree}
use Rattle.layer_mean.specs.Visit.{Met, handler_for}
use Rattle.layer_desk.specs.Need.{Layout, visit_need}
use Rattle.layer_stage.specs.Room.{most_kept}
use Rattle.pool_message.specs.declared.event.PoolEvent.{PoolEvent}
use Rattle.pool_message.specs.declared.message.PoolMessage.{PoolMessage}
use Rattle.cell_store.specs.Fresh.{IsFor}
use Rattle.live_layer.specs.Stock.{CellLies}
use Rattle.live_layer.specs.Fits.{CellFits, rows_most, most_own, most_bound}
use Rattle.live_layer.specs.Ready.{layout_of}
use Rattle.live_layer.specs.declared.desk.FileDesk.{FileDesk}

-- A desk of this layout is made for a layer: on every event no part of the layer's tree is a misfit, and a visit takes
-- no more places of the hand than there are.
pub record IsMadeFor (layer : LayerTree) (l : Layout) : Type 0 where
  pub misfits : (places : ℕ) (dir : Dir) (kind : Kind) (m : Met) →
      (visit_need (record l { places = places }) (handler_for layer dir kind m.tag) m).misfits ≡ 0
  pub hand : (places : ℕ) (dir : Dir) (kind : Kind) (m : Met) →
      (visit_need (record l { places = places }) (handler_for layer dir kind m.tag) m).hand ≤ l.hand

-- It keeps few rows, and few messages beside them.
pub record KeepsFew (l : Layout) : Type 0 where
  pub rows : rows_most l.rows ≤ most_kept
  pub own : rows_most l.rows + (l.messages + (2 + l.hand)) ≤ most_own

-- Rows alone lie on the desk, in the pool; its cells are those of the layer.
pub record IsAtRest (layer : LayerTree) (p : List Held) (d : FileDesk) : Type 0 where
  pub lie : AllByRecursion (CellLies p) d.cells.cells
  pub cells : AllByRecursion CellFits d.cells.cells
  pub forms : IsFor layer d.cells
  pub numbers : d.numbers.items ≡ []
  pub messages : d.tray.messages.items ≡ []
  pub arrived : d.tray.arrived ≡ None
  pub hand : d.hand.items ≡ []
  pub sent : d.tray.sent.items ≡ []
  pub numbers_room : most_bound ≤ vec_capacity d.numbers
  pub messages_room : 1 ≤ d.tray.messages.capacity
  pub few : KeepsFew (layout_of d)
  pub made : IsMadeFor layer (layout_of d)

-- A desk on which an event's message is laid, and that adds what it sends to a list.
abbrev pub begins : Option PoolMessage → Buffer (Dir × PoolEvent) → FileDesk → FileDesk
begins message out d = record d {
  tray = record { arrived = message; messages = d.tray.messages; sent = out };
  first = length out.items;
  places = out.capacity;
}

-- A desk with another list of what is sent, to which it adds nothing.
abbrev pub ends : Buffer (Dir × PoolEvent) → FileDesk → FileDesk
ends none d = record d { tray = record d.tray { sent = none }; first = 0; places = 0 }
