use Rattle.std.proofs.Common.{◌∙◌, ◌+◌, length, slice_index, refl, ap, arith}
use Rattle.cell_store.specs.Kept.{Kept, KeptCell, numbers_kept}
use Rattle.std.proofs.lemmas.List.{get_or_read_under}
use Rattle.cell_store.proofs.Laid.{looked, lies, number_read, number_outside, nothing_read}
use Rattle.cell_store.proofs.cells.Cells.get.Goals as goal

pub overflow_add-slot : goal.overflow_add-slot
overflow_add-slot g c =
    let s = lies _ _ _ _ _ _ c.self.invariant.laid (looked _ _ _ _ c.deref.ensures.value c.in-Some.ensures) in
    omega (arith, s.before, c.self.inside.block.small, c.self.inside.block.ok)

pub index-requires : goal.index-requires
index-requires g c =
    let s = lies _ _ _ _ _ _ c.self.invariant.laid (looked _ _ _ _ c.deref.ensures.value c.in-Some.ensures) in
    omega (arith, s.before, c.self.inside.block.ok)

pub returns-then-index-slot : goal.returns-then-index-slot
returns-then-index-slot g c =
    let at = looked _ _ _ _ c.deref.ensures.value c.in-Some.ensures in
    let s = lies _ _ _ _ _ _ c.self.invariant.laid at in
    get_or_read_under c.self.inside.block.items (c.in-Some.slot.now.at + c.args.index)
    (length c.self.inside.block.items) _ 0 c.index.ensures
    (omega (arith, s.before)) refl
    ∙ number_read _ _ _ _ _ _ _ _ (ap (λ (k : Kept g.row.R.Denot). k.cells) c.self.view_is) c.self.invariant.laid at
    c.if-index-slot.true

pub returns-else-index-slot : goal.returns-else-index-slot
returns-else-index-slot g c =
    number_outside _ _ _ _ _ _ _ _ (ap (λ (k : Kept g.row.R.Denot). k.cells) c.self.view_is) c.self.invariant.laid
    (looked _ _ _ _ c.deref.ensures.value c.in-Some.ensures) c.if-index-slot.false

pub returns-in-None : goal.returns-in-None
returns-in-None g c = ap (λ (cell : KeptCell g.row.R.Denot). slice_index (numbers_kept cell) c.args.index)
    (nothing_read _ _ _ _ (ap (λ (k : Kept g.row.R.Denot). k.cells) c.self.view_is)
    (looked _ _ _ _ c.deref.ensures.value c.in-None.ensures))
