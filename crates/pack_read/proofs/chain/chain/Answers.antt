use Rattle.std.proofs.Common.{rules}
use Rattle.pack_words.specs.Reading.{left}
use Rattle.pack_words.specs.View.{layers_in, named_in}
use Rattle.pack_read.proofs.Chaining.{not_after_space}
use Rattle.pack_read.proofs.chain.chain.Goals as goal

pub returns-else-passes : goal.returns-else-passes
returns-else-passes c = not_after_space (layers_in c.args.scope.now) (named_in c.args.scope.now) c.args.place
    (left c.args.text.now) (left c.passes.new.self) c.args.links.now c.passes.result c.passes.ensures (search rules)
