use Rattle.std.proofs.Common.{◌<◌, ◌∙◌, ◌++◌, length, ap, sym, subst, arith}
use Rattle.bypass_laws.specs.Making.{IsSound}
use Rattle.miss_laws.specs.Told.{AreChecksOf}
use Rattle.stack_mean.specs.Acceptance.{largest_weight}
use Rattle.stack_shapes.specs.Trees.{plans_tree}
use Rattle.group_feed.specs.Standing.{spelled_of}
use Rattle.group_world.proofs.Probed.{probed_so, seated_probed}
use Rattle.group_world.proofs.Stepped.{mode_at, stack_at, stays_after}
use Rattle.group_world.proofs.world.World.probe.Goals.{in-Ok, in-Err}
use Rattle.group_world.proofs.world.World.probe.Goals as goal

pub probe_member-probed-requires-clause-mode : goal.probe_member-probed-requires-clause-mode
probe_member-probed-requires-clause-mode c =
    let its = subst (λ k. k < length c.args.self.now.members) (sym c.in-Step.ensures.member) c.requires.member in
    mode_at _ _ _ _ _ _ c.self.inside.members.items _ c.self.view_is _ c.from.result _ c.self.invariant c.from.ensures
    its
    c.index_mut.ensures.value ∙ c.requires.mode

pub probe_member-probed-requires-clause-sound : goal.probe_member-probed-requires-clause-sound
probe_member-probed-requires-clause-sound c =
    let its = subst (λ k. k < length c.args.self.now.members) (sym c.in-Step.ensures.member) c.requires.member in
    subst IsSound (sym (stack_at _ _ _ _ _ _ c.self.inside.members.items _ c.self.view_is _ c.from.result _
    c.self.invariant c.from.ensures its
    c.index_mut.ensures.value)) c.requires.examined.sound

pub probe_member-probed-requires-clause-checks : goal.probe_member-probed-requires-clause-checks
probe_member-probed-requires-clause-checks c =
    let its = subst (λ k. k < length c.args.self.now.members) (sym c.in-Step.ensures.member) c.requires.member in
    subst (λ stack. AreChecksOf stack c.args.checks.now)
    (sym (stack_at _ _ _ _ _ _ c.self.inside.members.items _ c.self.view_is _ c.from.result _
    c.self.invariant c.from.ensures its c.index_mut.ensures.value)) c.requires.examined.checks

pub probe_member-probed-requires-clause-out : goal.probe_member-probed-requires-clause-out
probe_member-probed-requires-clause-out c =
    let its = subst (λ k. k < length c.args.self.now.members) (sym c.in-Step.ensures.member) c.requires.member in
    c.requires.out ∙ ap largest_weight (sym (stack_at _ _ _ _ _ _ c.self.inside.members.items _ c.self.view_is
    _ c.from.result _ c.self.invariant c.from.ensures its c.index_mut.ensures.value))

pub invariant_of-self : goal.invariant_of-self
invariant_of-self c = seated_probed _ _ _ _ _ c.self.inside.members.items c.from.result _ _ _ _ _ c.self.invariant
    c.index_mut.ensures.value c.probe_member-probed.ensures.probed

pub returns-clause-probed : goal.returns-clause-probed
returns-clause-probed c =
    let its = subst (λ k. k < length c.args.self.now.members) (sym c.in-Step.ensures.member) c.requires.member in
    elim c.match-keep.branch [
      | in-Ok w ↦ rw w.result-is
          (λ world stands. probed_so _ _ _ _ _ _ c.self.inside.members.items _ c.self.view_is _ c.from.result _
          c.self.invariant c.from.ensures its c.index_mut.ensures.value _ _ _ _ (omega arith) (omega arith)
          c.probe_member-probed.ensures.given
          (w.in-Ok.ensures ∙ ap (λ plans. c.self.inside.packets ++
          spelled_of (plans_tree plans) c.probe_member-probed.new.out.outputs) c.deref.ensures) _
          c.probe_member-probed.ensures.probed world stands _
          (c.in-Step.ensures.asks c.args.self.now.stack c.args.self.now.plans world))
      | in-Err w ↦ rw w.result-is
          (λ world stands. stays_after _ _ _ _ _ _ c.self.inside.members.items _ c.self.view_is _ c.from.result _)
    ]
