-- A desk between visits stays as it is while other references move.
use Rattle.std.proofs.Common.{◌≡◌, ℕ, ◌≤◌, List, ◌++◌, length, arith}
use Rattle.slot_pool.specs.Held.{Held}
use Rattle.slot_pool.specs.References.{Moved, Covers}
use Rattle.layer_mean.specs.Tree.{LayerTree}
use Rattle.cell_store.specs.Kept.{state_of}
use Rattle.pool_message.specs.Seen.{row_seen}
use Rattle.live_layer.specs.Stock.{kept_refs}
use Rattle.live_layer.specs.Rest.{IsAtRest}
use Rattle.live_layer.specs.declared.desk.FileDesk.{FileDesk}
use Rattle.live_layer.specs.Few.{cells_few}
use Rattle.live_layer.specs.Stays.{cells_stay}

pub at_rest_stays : (layer : LayerTree) (p q : List Held) (a b : List ℕ) (d : FileDesk) → Moved p q a b →
    Covers p (a ++ kept_refs d.cells) → IsAtRest layer p d →
    IsAtRest layer q d × (state_of (row_seen q) d.cells ≡ state_of (row_seen p) d.cells)
at_rest_stays layer p q a b d moved covers is =
    let stays = cells_stay p q a b moved d.cells.cells covers is.lie in (
      record {
        lie = stays.0;
        cells = is.cells;
        forms = is.forms;
        numbers = is.numbers;
        messages = is.messages;
        arrived = is.arrived;
        hand = is.hand;
        sent = is.sent;
        numbers_room = is.numbers_room;
        messages_room = is.messages_room;
        few = is.few;
        made = is.made;
      },
      λ k. record { me = d.cells.me; count = d.cells.count; ltime = d.cells.ltime; cells = stays.1 k },
    )

pub keeps_few : (layer : LayerTree) (p : List Held) (d : FileDesk) → IsAtRest layer p d →
    length (kept_refs d.cells) ≤ 32768
keeps_few layer p d is = let all = cells_few d.cells.cells is.cells in let few = is.few.rows in omega arith
