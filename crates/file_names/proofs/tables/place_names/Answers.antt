use Rattle.std.proofs.Common.{refl}
use Rattle.layer_ast.specs.Tree.{PlaceTree}
use Rattle.layer_ast.specs.View.{place_tree}
use Rattle.file_names.proofs.Lists.{made_more}
use Rattle.file_names.proofs.tables.place_names.Goals as goal

pub loop-place-preserved : goal.loop-place-preserved
loop-place-preserved c =
    made_more place_tree (λ (x : PlaceTree). x.name) c.args.places.now c.loop-place.place-index c.place-item.result
    c.loop-place.names.items _ _
    c.loop-place-test.true c.place-item.is refl c.loop-place.invariant c.in_ok-push.ensures.items
