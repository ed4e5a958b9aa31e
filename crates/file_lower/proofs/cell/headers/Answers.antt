use Rattle.layer_ast.specs.View as written
use Rattle.file_mean.specs.Layers as spec
use Rattle.typed_layer.specs.View.{header_tree}
use Rattle.file_laws.specs.Bounds.{HoldsDeclaration}
use Rattle.file_slots.specs.Place.{placed_of}
use Rattle.file_slots.proofs.Lists.{holds_at, kept_more}
use Rattle.file_slots.proofs.Places.{few_labels}
use Rattle.file_lower.proofs.cell.headers.Goals as goal

pub header-requires : goal.header-requires
header-requires c = few_labels (placed_of c.args._place.now) (written.declaration_tree c.declaration-item.result)
    (holds_at (HoldsDeclaration (placed_of c.args._place.now)) written.declaration_tree c.args.declarations.now
    c.loop-declaration.declaration-index c.declaration-item.result c.loop-declaration-test.true c.declaration-item.is
    c.requires)

pub loop-declaration-preserved : goal.loop-declaration-preserved
loop-declaration-preserved c =
    kept_more written.declaration_tree spec.header_in header_tree c.args.declarations.now
    c.loop-declaration.declaration-index c.declaration-item.result c.loop-declaration.all.items _ c.header.result
    c.loop-declaration-test.true c.declaration-item.is c.header.ensures c.loop-declaration.invariant
    c.in_ok-push_some.ensures
