use Rattle.std.proofs.lemmas.Bool.{eq-eqb}
use Rattle.stack_judge.specs.Answer.{stack_tree}
use Rattle.packet_full.specs.Taking.{left, preamble_tree}
use Rattle.stack_shapes.specs.Trees.{plans_tree}
use Rattle.packet_full.proofs.Taken.{full_contents, no_full_contents}
use Rattle.packet_short.proofs.Short.{no_full, no_plan, not_dealt, dealt_contents}
use Rattle.packet_short.proofs.contents.contents_in_turn.Goals as goal

pub returns-in_default : goal.returns-in_default
returns-in_default c =
    no_full_contents (stack_tree c.args.stack.now) (plans_tree c.args.plans.now) (preamble_tree c.args.front.now)
    (left c.args.cursor.now)
    (eq-eqb _ _ c.if-front.true) c.in_default.ensures.read

pub returns-then-front : goal.returns-then-front
returns-then-front c =
    full_contents (stack_tree c.args.stack.now) (plans_tree c.args.plans.now) (preamble_tree c.args.front.now)
    (left c.args.cursor.now) _ _
    (eq-eqb _ _ c.if-front.true) c.in-Some.ensures.read

pub returns-in_default-named : goal.returns-in_default-named
returns-in_default-named c =
    no_plan (stack_tree c.args.stack.now) (plans_tree c.args.plans.now) (preamble_tree c.args.front.now)
    (left c.args.cursor.now)
    (no_full _ c.if-front.false) c.in_default-named.ensures.plan

pub returns-in_default-chain : goal.returns-in_default-chain
returns-in_default-chain c =
    not_dealt (stack_tree c.args.stack.now) (plans_tree c.args.plans.now) (preamble_tree c.args.front.now)
    (left c.args.cursor.now) _ _
    (no_full _ c.if-front.false) c.in-Some-named.ensures.plan
    (rw (← c.of-planned.ensures.tags, ← c.of-planned.ensures.fields) c.in_default-chain.ensures.read)

pub returns : goal.returns
returns c =
    dealt_contents (stack_tree c.args.stack.now) (plans_tree c.args.plans.now) (preamble_tree c.args.front.now)
    (left c.args.cursor.now) _ _ _ _
    (no_full _ c.if-front.false) c.in-Some-named.ensures.plan
    (rw (← c.of-planned.ensures.tags, ← c.of-planned.ensures.fields) c.in-Some-chain.ensures.read)
