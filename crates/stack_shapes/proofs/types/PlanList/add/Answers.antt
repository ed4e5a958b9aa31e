use Rattle.std.proofs.Common.{◌∷◌, [], ◌++◌, ◌∙◌, map, ap, arith, rules}
use Rattle.std.proofs.lemmas.List.{map-append, length-map}
use Rattle.stack_mean.specs.Plans.{plan_of}
use Rattle.shape_core.specs.Sketch.{out_tree}
use Rattle.stack_shapes.specs.Lists.{plan_tree, plan_or_none}
use Rattle.stack_shapes.proofs.Gathered.{none_more, no_room, one_more, no_packet, a_packet}
use Rattle.stack_shapes.proofs.types.PlanList.add.Goals as goal

pub returns-then-not-is_packet : goal.returns-then-not-is_packet
returns-then-not-is_packet c =
    let size = length-map c.args.self.now.list.items plan_tree in
    none_more (map plan_tree c.args.self.now.list.items) (plan_or_none (out_tree c.args.out.now))
    (omega (arith, size, c.args.self.now.few, c.args.self.now.list.ok))
    (no_packet (out_tree c.args.out.now) (search rules))

pub returns-else-len-lt-MOST_PLANS : goal.returns-else-len-lt-MOST_PLANS
returns-else-len-lt-MOST_PLANS c =
    let size = length-map c.args.self.now.list.items plan_tree in
    no_room (map plan_tree c.args.self.now.list.items) (plan_or_none (out_tree c.args.out.now))
    (omega (arith, size, c.args.self.now.few, c.args.self.now.list.ok, c.len.ensures, c.if-len-lt-MOST_PLANS.false))

pub returns-in_ok-push : goal.returns-in_ok-push
returns-in_ok-push c =
    let size = length-map c.args.self.now.list.items plan_tree in
    ap (map plan_tree) c.in_ok-push.ensures.items
    ∙ map-append plan_tree c.args.self.now.list.items (c.in_ok-plan_of.field-0 ∷ [])
    ∙ ap (λ p. map plan_tree c.args.self.now.list.items ++ p ∷ []) c.in_ok-plan_of.ensures
    ∙ one_more (map plan_tree c.args.self.now.list.items) (plan_or_none (out_tree c.args.out.now))
    (plan_of (out_tree c.args.out.now))
    (omega (arith, size, c.len.ensures, c.if-len-lt-MOST_PLANS.true))
    (a_packet (out_tree c.args.out.now) (search rules))
