use Rattle.std.proofs.Common.{rules}
use Rattle.layer_ast.specs.View.{file_tree}
use Rattle.file_lower.proofs.Stacks.{place_holds, places_more, stack_made}
use Rattle.file_lower.proofs.stack.placed_layers.Goals as goal

pub placed_layer-requires-clause-holds : goal.placed_layer-requires-clause-holds
placed_layer-requires-clause-holds c =
    place_holds c.args.file.now c.loop-place.place-index c.len-number.result c.place-item.result (search rules)
    (search rules)
    (search rules) c.requires

pub loop-place-preserved : goal.loop-place-preserved
loop-place-preserved c = record {
  count = search rules;
  layers = places_more (file_tree c.args.file.now) c.args.file.now.places.items c.loop-place.place-index
      c.len-number.result
      c.place-item.result c.loop-place.layers.items _ c.in_ok-placed_layer.field-0 (search rules) (search rules)
      (search rules)
      c.in_ok-placed_layer.ensures c.loop-place.invariant.layers c.in_ok-push.ensures.items;
}

pub returns : goal.returns
returns c = stack_made c.args.file.now c.loop-place.place-index c.loop-place.layers.items (search rules)
    c.loop-place.invariant.layers
