use Rattle.std.proofs.Common.{List, [], ◌∷◌, flat_map, map, take, zip}
use Rattle.layer_ast.specs.Tree.{ArgumentTree, ItemTree}
use Rattle.layer_ast.specs.View.{argument_tree, item_tree}
use Rattle.layer_words.specs.declared.sorts.Sort.{Sort}
use Rattle.fault_mean.specs.ExpressionFaults.{argument_faults}
use Rattle.file_expressions.specs.Found.{Finds}
use Rattle.file_scope.specs.Scope.{scope_of}
use Rattle.file_types.proofs.rows.each_item.Given as goal

abbrev pub invariant-loop-k : goal.invariant-loop-k
invariant-loop-k l = Finds l.initial.found
    (flat_map (λ (p : List Sort × ArgumentTree). argument_faults (scope_of l.scope) p.0 p.1)
    (take l.k (zip (map (λ (i : ItemTree). i.sort ∷ []) (map item_tree l.items)) (map argument_tree l.all)))) l.found
