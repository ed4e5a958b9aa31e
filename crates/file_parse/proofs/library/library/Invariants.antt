use Rattle.std.proofs.Common.{map, take}
use Rattle.layer_ast.specs.View.{layer_tree, place_tree}
use Rattle.file_parse.specs.Library.{Brought}
use Rattle.file_parse.proofs.library.library.Given as goal

abbrev pub invariant-loop-place : goal.invariant-loop-place
invariant-loop-place l =
    Brought (map layer_tree l.fn.layers)
    (map (λ place. place.name.word) (map place_tree (take l.place-index l.fn.places))) l.seen.items
    (map layer_tree l.brought.items)
