use Rattle.std.proofs.Common.{rules}
use Rattle.pack_words.specs.Reading.{left}
use Rattle.pack_words.specs.View.{layers_in, named_in}
use Rattle.pack_read.specs.Operations.{header_at}
use Rattle.pack_read.proofs.Chaining.{no_places, not_passed, header_fails, rest_fails, put_after_at}
use Rattle.pack_read.proofs.chain.+chain_after.Goals as goal

pub returns-then-most-eq0 : goal.returns-then-most-eq0
returns-then-most-eq0 t c = no_places (layers_in c.args.scope.now) (named_in c.args.scope.now) c.args.place c.args.most
    (left c.args.text.now)
    c.args.links.now c.if-most-eq0.true

pub returns-then-not-passes : goal.returns-then-not-passes
returns-then-not-passes t c = not_passed (layers_in c.args.scope.now) (named_in c.args.scope.now) c.args.place
    c.args.most
    (left c.args.text.now) (left c.passes.new.self) c.args.links.now c.passes.result c.passes.ensures (search rules)

pub returns : goal.returns
returns t c = put_after_at (layers_in c.args.scope.now) (named_in c.args.scope.now) c.args.place c.in_ok-place.place
    c.args.most
    (left c.args.text.now) (left c.passes.new.self) (left c.read_header.new.text) (left c.chain_after.new.text)
    c.in_ok-first.first c.args.links.now c.chain_after.new.links c.put.new.links
    c.in_ok-rest.rest c.in_ok-chain.chain (search rules) c.if-most-eq0.false (search rules) (search rules)
    (search rules) (search rules)

pub returns-in_err-first : goal.returns-in_err-first
returns-in_err-first t c = header_fails (layers_in c.args.scope.now) (named_in c.args.scope.now) c.args.place
    c.in_ok-place.place c.args.most
    (left c.args.text.now) (left c.passes.new.self) (left c.read_header.new.text)
    (left c.read_header.new.text) c.read_header.result c.in_err-first.field-0.0
    c.args.links.now c.args.links.now c.from_residual-in_err-first.result
    (search rules) c.if-most-eq0.false (search rules) c.read_header.ensures (search rules) (search rules)

pub returns-in_err-rest : goal.returns-in_err-rest
returns-in_err-rest t c = rest_fails (layers_in c.args.scope.now) (named_in c.args.scope.now) c.args.place
    c.in_ok-place.place c.args.most
    (left c.args.text.now) (left c.passes.new.self) (left c.read_header.new.text) (left c.chain_after.new.text)
    (left c.chain_after.new.text)
    (header_at c.in_ok-place.place c.in_ok-first.first) c.chain_after.result c.in_err-rest.field-0.0
    c.args.links.now c.chain_after.new.links c.chain_after.new.links c.from_residual-in_err-rest.result
    (search rules) c.if-most-eq0.false (search rules) (search rules) (search rules) (search rules) (search rules)
