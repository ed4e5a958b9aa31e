use Rattle.std.proofs.Common.{◌++◌, ◌∙◌, ap, arith, sym}
use Rattle.node_loop.proofs.Quiet.{rounds_next}
use Rattle.node_loop.proofs.serving.receiving.Goals as goal

pub loop-preserved : goal.loop-preserved
loop-preserved c = (
  c.in_ok-extend_from_slice.ensures.items ∙ ap (λ asking. asking ++ c.args.me.now) c.loop.invariant.0
      ∙ sym (rounds_next c.loop.counter c.args.me.now),
  omega (arith, c.loop-test.true),
)
