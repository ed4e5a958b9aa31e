use Rattle.std.proofs.Common.{flat_map, map, take}
use Rattle.layer_ast.specs.View.{item_tree}
use Rattle.file_names.specs.Found.{Finds}
use Rattle.file_names.specs.Rows.{followed_faults}
use Rattle.file_names.proofs.limits.front.Given as goal

abbrev pub invariant-loop-item : goal.invariant-loop-item
invariant-loop-item l = Finds l.initial.found (flat_map followed_faults (map item_tree (take l.item-index l.items)))
    l.found
