use Rattle.std.proofs.Common.{length, map}
use Rattle.layer_ast.specs.View.{given_tree}
use Rattle.file_parse.proofs.Gathered.{GathersGiven}
use Rattle.file_parse.proofs.files.more_given.Given as goal

abbrev pub invariant-loop-following : goal.invariant-loop-following
invariant-loop-following l = GathersGiven (given_tree l.fn.first) l.fn.tokens (map given_tree l.all.items) l.rest

abbrev pub decreases-loop-following : goal.decreases-loop-following
decreases-loop-following l = length l.rest
