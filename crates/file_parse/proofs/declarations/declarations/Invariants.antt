use Rattle.std.proofs.Common.{length, map}
use Rattle.layer_ast.specs.Print as print
use Rattle.layer_ast.specs.View.{declaration_tree}
use Rattle.grammar_laws.specs.Machine.{declarations}
use Rattle.file_parse.specs.Reading.{Gathers}
use Rattle.file_parse.proofs.declarations.declarations.Given as goal

abbrev pub invariant-loop-alloc : goal.invariant-loop-alloc
invariant-loop-alloc l = Gathers print.declarations declarations l.room l.fn.tokens (map declaration_tree l.all.items)
    l.rest

abbrev pub decreases-loop-alloc : goal.decreases-loop-alloc
decreases-loop-alloc l = length l.rest
