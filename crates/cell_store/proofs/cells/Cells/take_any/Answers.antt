use Rattle.std.proofs.Common.{◌∙◌, refl, sym, ap}
use Rattle.cell_store.specs.Kept.{emptied}
use Rattle.cell_store.specs.Slots.{slot_rows}
use Rattle.cell_store.proofs.Laid.{got}
use Rattle.cell_store.proofs.Changed.{queue_changed, still_slots}
use Rattle.cell_store.proofs.Rows.{rows_kept, first_there, there_is_first, taken_first, emptied_rows}
use Rattle.cell_store.proofs.cells.Cells.take_any.Goals as goal

pub invariant_of-self : goal.invariant_of-self
invariant_of-self g c =
    let there = first_there _ _ _ _ c.deref.ensures.value c.in-Some.ensures.some in
    let at = got c.self.inside.slots.items c.in-Some.cell _ there.0 c.index_mut-slot.ensures.value in
    still_slots _ _ _ _ _ _ _ _ _ _ c.self.invariant at c.take.ensures.rest

pub returns-in-Some-clause-rows : goal.returns-in-Some-clause-rows
returns-in-Some-clause-rows g c =
    let there = first_there _ _ _ _ c.deref.ensures.value c.in-Some.ensures.some in
    let at = got c.self.inside.slots.items c.in-Some.cell _ there.0 c.index_mut-slot.ensures.value in
    let still = still_slots _ _ _ _ _ _ _ _ _ _ c.self.invariant at c.take.ensures.rest in
    taken_first _ _ _ _ _ _ _ _ _ _ _ _ _ _ _ c.self.view_is c.self.invariant.laid still.laid at there.1
    c.take.ensures.row c.take.ensures.rest refl

pub returns-in-Some-clause-none : goal.returns-in-Some-clause-none
returns-in-Some-clause-none g c =
    let there = first_there _ _ _ _ c.deref.ensures.value c.in-Some.ensures.some in
    let at = got c.self.inside.slots.items c.in-Some.cell _ there.0 c.index_mut-slot.ensures.value in
    there_is_first c.self.inside.slots.items c.in-Some.cell _ _ c.take.result _ at there.1 c.take.ensures.row

pub returns-in-Some-clause-kept : goal.returns-in-Some-clause-kept
returns-in-Some-clause-kept g c =
    let there = first_there _ _ _ _ c.deref.ensures.value c.in-Some.ensures.some in
    let at = got c.self.inside.slots.items c.in-Some.cell _ there.0 c.index_mut-slot.ensures.value in
    ap emptied (queue_changed _ _ _ _ _ _ _ _ _ _ _ _ _ c.self.view_is at c.take.ensures.rest refl) ∙
    emptied_rows _ _ _ _

pub returns-in-None-clause-none : goal.returns-in-None-clause-none
returns-in-None-clause-none g c =
    rows_kept _ _ _ _ _ _ _ _ _ c.self.view_is c.self.invariant.laid ∙ ap slot_rows (sym c.deref.ensures.value) ∙
    c.in-None.ensures.none
