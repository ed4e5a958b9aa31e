use Rattle.std.proofs.Common.{◌≡◌, map, take, drop}
use Rattle.layer_ast.specs.View as written
use Rattle.file_mean.specs.Statements as spec
use Rattle.typed_layer.specs.View.{statement_tree, trees}
use Rattle.file_laws.specs.Bounds.{HoldsBlock}
use Rattle.file_slots.specs.Scope.{names_of}
use Rattle.file_lower.proofs.statement.+blocks.Given as goal

abbrev pub invariant-statements-loop-s : goal.invariant-statements-loop-s
invariant-statements-loop-s l =
    HoldsBlock (spec.statements_of (names_of l.names) (written.statement_trees (drop l.s-index l.all)))
    × (trees (map statement_tree l.made.items) ≡
    spec.statements_of (names_of l.initial.names) (written.statement_trees (take l.s-index l.all)))
    × (names_of l.names ≡ spec.after_all (written.statement_trees (take l.s-index l.all)) (names_of l.initial.names))
