use Rattle.std.proofs.Common.{map, take}
use Rattle.layer_ast.specs.View.{statement_tree, trees}
use Rattle.miss_mean.specs.Spots.{block_lines}
use Rattle.miss_explain.specs.Search.{Passes}
use Rattle.miss_explain.proofs.statements.+blocks.Given as goal

abbrev pub invariant-pass_statements-loop-s : goal.invariant-pass_statements-loop-s
invariant-pass_statements-loop-s l =
    Passes l.initial.search (block_lines l.case (trees (map statement_tree (take l.s-index l.all)))) l.search
