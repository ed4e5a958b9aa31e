use Rattle.std.proofs.Common.{◌≡◌, map, filter, take}
use Rattle.layer_ast.specs.Tree.{ItemTree}
use Rattle.layer_ast.specs.View.{item_tree}
use Rattle.fault_mean.specs.Kinds.{a_number, allows}
use Rattle.file_names.proofs.limits.numbers.Given as goal

abbrev pub invariant-loop-item : goal.invariant-loop-item
invariant-loop-item l =
    l.all.items ≡ map (λ (i : ItemTree). i.name)
    (filter (λ i. allows a_number i.sort) (map item_tree (take l.item-index l.items)))
