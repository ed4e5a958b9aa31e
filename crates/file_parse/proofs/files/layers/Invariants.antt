use Rattle.std.proofs.Common.{length, map}
use Rattle.layer_ast.specs.Print as print
use Rattle.layer_ast.specs.View.{layer_tree}
use Rattle.grammar_laws.specs.Machine.{layers}
use Rattle.file_parse.specs.Reading.{Gathers}
use Rattle.file_parse.proofs.files.layers.Given as goal

abbrev pub invariant-loop-alloc : goal.invariant-loop-alloc
invariant-loop-alloc l = Gathers print.layers layers l.room l.fn.tokens (map layer_tree l.all.items) l.rest

abbrev pub decreases-loop-alloc : goal.decreases-loop-alloc
decreases-loop-alloc l = length l.rest
