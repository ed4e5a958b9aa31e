use Rattle.std.proofs.Common.{◌<◌, [], ◌∷◌, ◌++◌, length, ap}
use Rattle.cell_store.proofs.Laid.{got}
use Rattle.cell_store.proofs.Changed.{room_there, queue_read, queue_changed, still_slots}
use Rattle.cell_store.proofs.cells.Cells.push.Goals as goal

pub invariant_of-self : goal.invariant_of-self
invariant_of-self g c =
    let within : c.args.cell < length c.self.inside.slots.items =
    room_there _ _ _ _ _ _ _ _ _ c.self.view_is c.requires in
    let at = got c.self.inside.slots.items c.args.cell _ within c.index_mut-slot.ensures.value in
    still_slots _ _ _ _ _ _ _ _ _ _ c.self.invariant at c.push.ensures

pub returns : goal.returns
returns g c =
    let within : c.args.cell < length c.self.inside.slots.items =
    room_there _ _ _ _ _ _ _ _ _ c.self.view_is c.requires in
    let at = got c.self.inside.slots.items c.args.cell _ within c.index_mut-slot.ensures.value in
    queue_changed _ _ _ _ _ _ _ _ _ _ _ _ _ c.self.view_is at c.push.ensures
    (ap (λ rows. rows ++ c.args.row ∷ []) (queue_read _ _ _ _ _ _ _ _ _ _ _ _ c.self.view_is c.self.invariant.laid at))
