use Rattle.pack_words.specs.Reading.{left}
use Rattle.pack_words.specs.View.{layers_in, named_in}
use Rattle.pack_read.proofs.Chaining.{towards_up}
use Rattle.pack_read.proofs.sent.chain_towards.Goals as goal

pub returns-in-Up : goal.returns-in-Up
returns-in-Up c = towards_up (layers_in c.args.scope.now) (named_in c.args.scope.now) c.args.dir (left c.args.text.now)
    c.args.links.now c.in-Up.is
