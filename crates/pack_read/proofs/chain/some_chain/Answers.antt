use Rattle.std.proofs.Common.{rules}
use Rattle.pack_words.specs.Reading.{left}
use Rattle.pack_words.specs.View.{layers_in, named_in}
use Rattle.pack_read.proofs.Chaining.{put_some_at}
use Rattle.pack_read.proofs.chain.some_chain.Goals as goal

pub returns : goal.returns
returns c = put_some_at (layers_in c.args.scope.now) (named_in c.args.scope.now) c.args.place c.in_ok-place.place
    (left c.args.text.now) (left c.read_header.new.text) (left c.chain_after.new.text)
    c.in_ok-first.first c.args.links.now c.chain_after.new.links c.put.new.links
    c.in_ok-rest.rest c.in_ok-chain.chain (search rules) (search rules) (search rules) (search rules)
