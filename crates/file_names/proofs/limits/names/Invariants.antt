use Rattle.std.proofs.Common.{◌≡◌, map, take}
use Rattle.layer_ast.specs.Tree.{ItemTree}
use Rattle.layer_ast.specs.View.{item_tree}
use Rattle.file_names.proofs.limits.names.Given as goal

abbrev pub invariant-loop-item : goal.invariant-loop-item
invariant-loop-item l = l.all.items ≡ map (λ (i : ItemTree). i.name) (map item_tree (take l.item-index l.items))
