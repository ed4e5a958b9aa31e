use Rattle.layer_ast.specs.View as written
use Rattle.file_mean.specs.Layers as spec
use Rattle.typed_layer.specs.View.{cell_tree}
use Rattle.file_laws.specs.Bounds.{HoldsDeclaration}
use Rattle.file_slots.specs.Place.{placed_of}
use Rattle.file_slots.proofs.Lists.{holds_at, kept_more}
use Rattle.file_lower.proofs.cell.cells.Goals as goal

pub cell-requires : goal.cell-requires
cell-requires c = holds_at (HoldsDeclaration (placed_of c.args.place.now)) written.declaration_tree
    c.args.declarations.now
    c.loop-declaration.declaration-index c.declaration-item.result c.loop-declaration-test.true c.declaration-item.is
    c.requires

pub loop-declaration-preserved : goal.loop-declaration-preserved
loop-declaration-preserved c =
    kept_more written.declaration_tree (spec.cell_in (placed_of c.args.place.now)) cell_tree c.args.declarations.now
    c.loop-declaration.declaration-index c.declaration-item.result c.loop-declaration.all.items _ _
    c.loop-declaration-test.true c.declaration-item.is c.in_ok-cell.ensures c.loop-declaration.invariant
    c.in_ok-push_some.ensures
