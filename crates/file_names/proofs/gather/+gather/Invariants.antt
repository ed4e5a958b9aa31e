use Rattle.std.proofs.Common.{map, take}
use Rattle.layer_ast.specs.View.{statement_tree, trees}
use Rattle.file_names.specs.Gathered.{Gathers, statements_in}
use Rattle.file_names.proofs.gather.+gather.Given as goal

abbrev pub invariant-statements-loop-s : goal.invariant-statements-loop-s
invariant-statements-loop-s l = Gathers l.initial.names.items l.initial.maxima
    (statements_in (trees (map statement_tree (take l.s-index l.all)))) l.names.items l.maxima
