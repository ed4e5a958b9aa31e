use Rattle.std.proofs.Common.{◌+◌, ◌∙◌, ap, slice_index, arith}
use Rattle.stack_judge.proofs.Steps.{largest_more}
use Rattle.stack_judge.proofs.rounds.largest_cost.Goals as goal

pub loop-k-preserved : goal.loop-k-preserved
loop-k-preserved c =
    let more = largest_more (slice_index c.args.costs.now) c.args.first c.loop-k.k in
    let cost = c.cost_at.ensures ∙ ap (λ k. slice_index c.args.costs.now (c.args.first + k)) c.from.ensures in
    omega (arith, c.max-most.ensures, c.loop-k.invariant, more, cost)
