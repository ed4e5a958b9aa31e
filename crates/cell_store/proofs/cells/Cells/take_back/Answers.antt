use Rattle.std.proofs.Common.{rules, ◌∙◌, ◌-◌, ◌<◌, length, take, slice_get, ap, arith}
use Rattle.std.proofs.lemmas.List.{length-take-le}
use Rattle.cell_store.specs.Kept.{kept_rows}
use Rattle.cell_store.proofs.Laid.{got}
use Rattle.cell_store.proofs.Changed.{queue_read, queue_changed, still_slots, row_within}
use Rattle.cell_store.proofs.Undone.{room_left}
use Rattle.cell_store.proofs.cells.Cells.take_back.Goals as goal

pub invariant_of-self : goal.invariant_of-self
invariant_of-self g c =
    let within : c.args.cell < length c.self.inside.slots.items = search rules in
    let at = got c.self.inside.slots.items c.args.cell _ within c.index_mut-slot.ensures.value in
    still_slots _ _ _ _ _ _ _ _ _ _ c.self.invariant at c.take_back.ensures.rest

pub returns-then-cell-len-clause-row : goal.returns-then-cell-len-clause-row
returns-then-cell-len-clause-row g c =
    let within : c.args.cell < length c.self.inside.slots.items = search rules in
    let at = got c.self.inside.slots.items c.args.cell _ within c.index_mut-slot.ensures.value in
    c.take_back.ensures.row ∙
    ap (λ rows. slice_get rows (length rows - 1))
    (queue_read _ _ _ _ _ _ _ _ _ _ _ _ c.self.view_is c.self.invariant.laid at)

pub returns-then-cell-len-clause-rest : goal.returns-then-cell-len-clause-rest
returns-then-cell-len-clause-rest g c =
    let within : c.args.cell < length c.self.inside.slots.items = search rules in
    let at = got c.self.inside.slots.items c.args.cell _ within c.index_mut-slot.ensures.value in
    queue_changed _ _ _ _ _ _ _ _ _ _ _ _ _ c.self.view_is at c.take_back.ensures.rest
    (ap (λ rows. take (length rows - 1) rows)
    (queue_read _ _ _ _ _ _ _ _ _ _ _ _ c.self.view_is c.self.invariant.laid at))

pub returns-then-cell-len-clause-room : goal.returns-then-cell-len-clause-room
returns-then-cell-len-clause-room g c =
    let within : c.args.cell < length c.self.inside.slots.items = search rules in
    let at = got c.self.inside.slots.items c.args.cell _ within c.index_mut-slot.ensures.value in
    let rows = queue_read _ _ _ _ _ _ _ _ _ _ _ _ c.self.view_is c.self.invariant.laid at in
    room_left c.take_back.result c.args.self.now _ c.args.cell c.args.index
    (length (kept_rows c.args.self.now c.args.cell c.args.index) - 1)
    (take (length (kept_rows c.args.self.now c.args.cell c.args.index) - 1)
    (kept_rows c.args.self.now c.args.cell c.args.index))
    (c.take_back.ensures.row ∙ ap (λ rows. slice_get rows (length rows - 1)) rows)
    (queue_changed _ _ _ _ _ _ _ _ _ _ _ _ _ c.self.view_is at c.take_back.ensures.rest
    (ap (λ rows. take (length rows - 1) rows) rows))
    (length-take-le (length (kept_rows c.args.self.now c.args.cell c.args.index) - 1)
    (kept_rows c.args.self.now c.args.cell c.args.index) (omega arith))
    (λ row has. row_within _ _ _ _ _ _ _ _ _ _ _ _ _ row c.self.view_is c.self.invariant.laid at
    c.take_back.ensures.within has)
