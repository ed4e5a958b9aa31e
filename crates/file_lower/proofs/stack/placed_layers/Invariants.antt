use Rattle.std.proofs.Common.{◌≡◌, length, map, take}
use Rattle.std.specs.List.{enumerate_from}
use Rattle.layer_ast.specs.View.{file_tree, place_tree}
use Rattle.file_mean.specs.Stack as spec
use Rattle.typed_layer.specs.Places.{rc_tree}
use Rattle.file_lower.proofs.stack.placed_layers.Given as goal

abbrev pub invariant-loop-place : goal.invariant-loop-place
invariant-loop-place l = record {
  count : length l.layers.items ≡ l.place-index;
  layers :
      map rc_tree l.layers.items ≡
      map (λ x. spec.placed_layer (file_tree l.file) x.0 x.1)
      (enumerate_from 0 (map place_tree (take l.place-index l.file.places.items)));
}
