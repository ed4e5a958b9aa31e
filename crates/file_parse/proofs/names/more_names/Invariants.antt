use Rattle.std.proofs.Common.{[], ◌∷◌, length}
use Rattle.layer_ast.specs.Print as print
use Rattle.grammar_laws.specs.Machine.{more_names}
use Rattle.file_parse.specs.Reading.{GathersFlat}
use Rattle.file_parse.proofs.names.more_names.Given as goal

abbrev pub invariant-loop-following : goal.invariant-loop-following
invariant-loop-following l = GathersFlat print.more_names (more_names ∷ []) more_names l.fn.tokens l.all.items l.rest

abbrev pub decreases-loop-following : goal.decreases-loop-following
decreases-loop-following l = length l.rest
