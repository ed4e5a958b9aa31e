use Rattle.std.proofs.Common.{◌≡◌, map, take}
use Rattle.layer_ast.specs.View.{statement_tree, trees}
use Rattle.file_names.specs.Blocks.{block_faults}
use Rattle.file_names.specs.Found.{Finds}
use Rattle.file_scope.specs.Scope.{scope_of, scope_after_all}
use Rattle.file_names.proofs.block.+blocks.Given as goal

abbrev pub invariant-statements-loop-s : goal.invariant-statements-loop-s
invariant-statements-loop-s l =
    Finds l.initial.found (block_faults (scope_of l.initial.scope) (trees (map statement_tree (take l.s-index l.all))))
    l.found
    × (scope_of l.scope ≡ scope_after_all (scope_of l.initial.scope) (map statement_tree (take l.s-index l.all)))
