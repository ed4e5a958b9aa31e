use Rattle.std.proofs.Common.{◌≡◌, suc, ◌+◌, ◌-◌, arith, sym, ap, ◌∙◌}
use Rattle.layer_mean.specs.Visit.{with_room}
use Rattle.live_layer.proofs.enters.fill_numbers.Goals as goal

pub loop-preserved : goal.loop-preserved
loop-preserved c =
    let below = c.loop-test.true in
    let left : c.args.count - c.loop.counter ≡ suc (c.args.count - (c.loop.counter + 1)) = omega arith in
    let room = c.loop.invariant.1 in let long = c.push_reserved.ensures.len in (
      ap (with_room (c.args.count - (c.loop.counter + 1)) 0) c.push_reserved.ensures.items ∙
          ap (λ k. with_room k 0 c.loop.numbers.items) (sym left) ∙ c.loop.invariant.0,
      omega arith,
      c.push_reserved.ensures.capacity ∙ c.loop.invariant.2,
    )
