use Rattle.std.proofs.Common.{length, map}
use Rattle.layer_ast.specs.Print as print
use Rattle.layer_ast.specs.View.{argument_tree}
use Rattle.grammar_laws.specs.Machine.{more_arguments}
use Rattle.file_parse.specs.Reading.{Gathers}
use Rattle.file_parse.proofs.arguments.more_arguments.Given as goal

abbrev pub invariant-loop-following : goal.invariant-loop-following
invariant-loop-following l =
    Gathers print.more_arguments more_arguments l.room l.fn.tokens (map argument_tree l.all.items) l.rest

abbrev pub decreases-loop-following : goal.decreases-loop-following
decreases-loop-following l = length l.rest
