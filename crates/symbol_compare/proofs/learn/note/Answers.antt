use Rattle.std.proofs.Common.{refl, rules}
use Rattle.trace_core.specs.View.{message_in, terms}
use Rattle.symbol_compare.proofs.Learning.{note_learns}
use Rattle.symbol_compare.proofs.learn.note.Goals as goal

pub returns : goal.returns
returns c = note_learns c.args.walk.now _ c.requires.knows refl refl refl refl c.in_ok-value.value
    (message_in (terms c.args.walk.now.trace.now.nodes) c.args.node) (search rules) refl c.in_ok-value.ensures
