use Rattle.std.proofs.Common.{[], ◌∷◌, length, map}
use Rattle.layer_ast.specs.Print as print
use Rattle.layer_ast.specs.View.{item_tree}
use Rattle.grammar_laws.specs.Machine.{more_items}
use Rattle.file_parse.specs.Reading.{GathersFlat}
use Rattle.file_parse.proofs.declarations.more_items.Given as goal

abbrev pub invariant-loop-following : goal.invariant-loop-following
invariant-loop-following l =
    GathersFlat print.more_items (more_items ∷ []) more_items l.fn.tokens (map item_tree l.all.items) l.rest

abbrev pub decreases-loop-following : goal.decreases-loop-following
decreases-loop-following l = length l.rest
