use Rattle.std.proofs.Common.{arith}
use Rattle.cell_store.specs.Kept.{number_set}
use Rattle.cell_store.proofs.Laid.{looked, lies, number_written, number_past, cell_past, past_none}
use Rattle.cell_store.proofs.Changed.{changed, unchanged}
use Rattle.cell_store.proofs.cells.Cells.set.Goals as goal

pub overflow_add-place : goal.overflow_add-place
overflow_add-place g c =
    let s = lies _ _ _ _ _ _ c.self.invariant.laid (looked _ _ _ _ c.deref.ensures.value c.in-Some.ensures) in
    omega (arith, s.before, c.self.inside.block.small, c.self.inside.block.ok)

pub index_mut-requires : goal.index_mut-requires
index_mut-requires g c =
    let s = lies _ _ _ _ _ _ c.self.invariant.laid (looked _ _ _ _ c.deref.ensures.value c.in-Some.ensures) in
    omega (arith, s.before, c.self.inside.block.ok)

pub returns-then-index-slot : goal.returns-then-index-slot
returns-then-index-slot g c =
    changed _ _ _ _ _ (number_set c.args.index c.args.value) _ _ _ c.self.view_is
    (number_written _ _ _ c.self.inside.block.items c.self.inside.slots.items c.args.cell c.args.index c.args.value
    c.in-Some.slot.now
    c.self.invariant.laid (looked _ _ _ _ c.deref.ensures.value c.in-Some.ensures) c.if-index-slot.true)

pub returns-else-index-slot : goal.returns-else-index-slot
returns-else-index-slot g c =
    unchanged _ _ _ _ _ (number_set c.args.index c.args.value) _ _ c.self.view_is
    (number_past _ _ c.self.inside.block.items c.self.inside.slots.items c.args.cell c.args.index c.args.value
    c.in-Some.slot.now
    c.self.invariant.laid (looked _ _ _ _ c.deref.ensures.value c.in-Some.ensures) c.if-index-slot.false)

pub returns-in_default : goal.returns-in_default
returns-in_default g c =
    unchanged _ _ _ _ _ (number_set c.args.index c.args.value) _ _ c.self.view_is
    (cell_past c.self.inside.block.items c.self.inside.slots.items c.args.cell _
    (past_none _ _ (looked _ _ _ _ c.deref.ensures.value c.in_default.ensures)))
