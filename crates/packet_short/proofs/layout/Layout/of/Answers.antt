use Rattle.std.proofs.Common.{refl, rules}
use Rattle.stack_judge.specs.Answer.{stack_tree}
use Rattle.packet_full.specs.Taking.{left}
use Rattle.stack_shapes.specs.Lists.{plan_tree}
use Rattle.stack_shapes.specs.Trees.{plans_tree}
use Rattle.packet_short.specs.declared.layout.Layout.{Layout}
use Rattle.packet_short.proofs.Filled.{a_layout}
use Rattle.packet_short.proofs.layout.Layout.of.Goals as goal

pub returns : goal.returns
returns c =
    let layout : Layout =
    record { headers = c.chain.new.headers; loose = c.in-Some-2.loose; is_least = c.is_first-is_least.result } in
    a_layout (stack_tree c.args.stack.now) (plans_tree c.args.plans.now) c.args.number (plan_tree c.in-Some.plan.now)
    layout c.chain.new.headers (left c.new-cursor.result) (left c.chain.new.cursor) c.in-Some.ensures
    (rw (← c.of-planned.ensures.tags, ← c.of-planned.ensures.fields) c.in-Some-chain.ensures.read) refl
    (search rules) (search rules) c.is_first-is_least.ensures
