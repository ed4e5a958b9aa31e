use Rattle.std.proofs.Common.{◌≡◌, map, take}
use Rattle.layer_ast.specs.Tree.{PlaceTree}
use Rattle.layer_ast.specs.View.{place_tree}
use Rattle.file_names.proofs.tables.place_names.Given as goal

abbrev pub invariant-loop-place : goal.invariant-loop-place
invariant-loop-place l = l.names.items ≡
    map (λ (place : PlaceTree). place.name) (map place_tree (take l.place-index l.places))
