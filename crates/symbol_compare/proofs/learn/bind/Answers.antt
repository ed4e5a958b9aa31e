use Rattle.std.proofs.Common.{refl, rules}
use Rattle.trace_core.specs.View.{number_in, terms}
use Rattle.symbol_compare.proofs.Learning.{bind_learns}
use Rattle.symbol_compare.proofs.learn.bind.Goals as goal

pub returns : goal.returns
returns c = bind_learns c.args.walk.now _ c.requires.knows refl refl refl refl c.in_ok-value.value
    (number_in (terms c.args.walk.now.trace.now.nodes) c.args.node) (search rules) refl c.in_ok-value.ensures
