use Rattle.std.proofs.Common.{◌<◌, ◌∙◌, ◌++◌, length, ap, sym, subst, arith}
use Rattle.stack_mean.specs.Acceptance.{largest_weight}
use Rattle.stack_shapes.specs.Trees.{plans_tree}
use Rattle.group_feed.specs.Standing.{spelled_of}
use Rattle.group_world.proofs.Stepped.{seated_following, stack_at, stays_after, step_fed}
use Rattle.group_world.proofs.Visits.{step_visits}
use Rattle.group_world.proofs.world.World.take.Goals.{in-Ok, in-Err}
use Rattle.group_world.proofs.world.World.take.Goals as goal

pub step_member-stepped-requires-clause-out : goal.step_member-stepped-requires-clause-out
step_member-stepped-requires-clause-out c =
    let its = subst (λ k. k < length c.args.self.now.members) (sym c.in-Step.ensures.member) c.requires.member in
    c.requires.out ∙ ap largest_weight (sym (stack_at _ _ _ _ _ _ c.self.inside.members.items _ c.self.view_is
    _ c.from.result _ c.self.invariant c.from.ensures its c.index_mut.ensures.value))

pub invariant_of-self : goal.invariant_of-self
invariant_of-self c = seated_following _ _ _ _ _ c.self.inside.members.items c.from.result _ _ _ _ _ _ _
    c.self.invariant
    c.index_mut.ensures.value c.step_member-stepped.ensures.step

pub returns-clause-fed : goal.returns-clause-fed
returns-clause-fed c =
    let its = subst (λ k. k < length c.args.self.now.members) (sym c.in-Step.ensures.member) c.requires.member in
    elim c.match-keep.branch [
      | in-Ok w ↦ rw w.result-is
          (λ world stands. step_fed _ _ _ _ _ _ c.self.inside.members.items _ c.self.view_is _ c.from.result _
          c.self.invariant c.from.ensures its c.index_mut.ensures.value _ _ _ _ _ _ _ (omega arith) (omega arith)
          c.step_member-stepped.ensures.given c.step_member-stepped.ensures.step
          (w.in-Ok.ensures ∙ ap (λ plans. c.self.inside.packets ++
          spelled_of (plans_tree plans) c.step_member-stepped.new.out.outputs) c.deref.ensures) world stands _
          (c.in-Step.ensures.asks c.args.self.now.stack c.args.self.now.plans world))
      | in-Err w ↦ rw w.result-is
          (λ world stands. stays_after _ _ _ _ _ _ c.self.inside.members.items _ c.self.view_is _ c.from.result _)
    ]

pub returns-clause-few : goal.returns-clause-few
returns-clause-few c = step_visits _ _ _ _ _ _ _ c.step_member-stepped.ensures.step
