use Rattle.std.proofs.Common.{length, map}
use Rattle.layer_ast.specs.Print as print
use Rattle.layer_ast.specs.View.{handler_tree}
use Rattle.grammar_laws.specs.Machine.{handlers}
use Rattle.file_parse.specs.Reading.{Gathers}
use Rattle.file_parse.proofs.handlers.handlers.Given as goal

abbrev pub invariant-loop-alloc : goal.invariant-loop-alloc
invariant-loop-alloc l = Gathers print.handlers handlers l.room l.fn.tokens (map handler_tree l.all.items) l.rest

abbrev pub decreases-loop-alloc : goal.decreases-loop-alloc
decreases-loop-alloc l = length l.rest
