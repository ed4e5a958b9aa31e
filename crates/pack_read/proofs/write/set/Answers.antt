use Rattle.std.proofs.Common.{rules, refl}
use Rattle.pack_words.specs.Reading.{left}
use Rattle.pack_words.specs.View.{layers_in, named_in}
use Rattle.pack_read.proofs.Writing.{set_read}
use Rattle.pack_read.proofs.write.set.Goals as goal

pub returns : goal.returns
returns c = set_read (layers_in c.args.scope.now) (named_in c.args.scope.now) (left c.args.text.now)
    (left c.the.new.self) (left c.target.new.text)
    (left c.the-2.new.self) (left c.number.new.text) c.args.store.now
    (record { nodes = c.number.new.nodes; links = c.args.store.now.links })
    c.target.new.nodes c.in_ok-target.target c.in_ok-value.value c.setting.result (search rules) (search rules)
    (search rules)
    (search rules) refl c.setting.ensures
