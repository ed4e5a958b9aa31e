use Rattle.std.proofs.Common.{◌-◌, ◌+◌, ◌∷◌, length, ap, ◌∙◌, arith}
use Rattle.std.proofs.lemmas.List.FromFn.{length-map-range_with_len}
use Rattle.layer_mean.specs.Visit.{none_header}
use Rattle.pool_message.proofs.Chains.{one_before}
use Rattle.pool_message.proofs.headers.none_headers.Goals as goal

pub push_front-requires : goal.push_front-requires
push_front-requires c =
    let long = ap length c.loop-k.invariant ∙ length-map-range_with_len none_header (c.args.first + c.loop-k.k)
    (c.args.count - c.loop-k.k) in
    omega arith

pub loop-k-preserved : goal.loop-k-preserved
loop-k-preserved c =
    c.push_front.ensures ∙
    ap (λ fields. record { layer = c.args.first + (c.loop-k.k - 1); tag = 0; fields = fields } ∷ c.loop-k.headers)
    c.new.ensures ∙
    one_before none_header c.args.first c.args.count c.loop-k.k c.loop-k.headers c.loop-k-test.true (omega arith)
    c.loop-k.invariant
