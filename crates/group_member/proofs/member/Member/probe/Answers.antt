use Rattle.std.proofs.Common.{◌≡◌, true, Option, Err, refl, ap, subst}
use Rattle.std.specs.Rc.{rc_value}
use Rattle.msg_core.specs.declared.packet.View.{View}
use Rattle.stack_judge.specs.Answer.{stack_tree}
use Rattle.stack_shapes.specs.Trees.{plans_tree}
use Rattle.step_outputs.specs.Gathered.{Gathered}
use Rattle.view_core.specs.Refusals.{refusal_meant}
use Rattle.view_core.specs.Steps.{input_meant}
use Rattle.member_reads.specs.Shown.{member_in}
use Rattle.group_member.specs.Judged.{entry_meant}
use Rattle.group_member.specs.Modes.{mode_with}
use Rattle.group_member.specs.Placed.{Placed, here_in, step_of, Takes}
use Rattle.group_member.specs.Placing.{placed_member}
use Rattle.group_member.specs.Probing.{IsNotTaken}
use Rattle.group_member.specs.Working.{states_in}
use Rattle.group_member.proofs.Placing.{entered_is, entered_same, here_at, refused_in, stands, takes}
use Rattle.group_member.proofs.Untaken.{left, refused_is_not, same_placed}
use Rattle.group_member.proofs.member.Member.probe.Goals as goal

pub returns-in-Err-clause-probed : goal.returns-in-Err-clause-probed
returns-in-Err-clause-probed c =
    let not = entered_same c.deref.result.now (rc_value c.self.inside.stack) c.deref-2.result.now
    (rc_value c.self.inside.plans) (here_at c.self.inside c.in-Some.view)
    (here_in (placed_member c.self.inside) c.in-Some.view) (input_meant c.args.input)
    (Err (refusal_meant c.in-Err.field-0))
    c.deref.ensures c.deref-2.ensures
    (stands c.self.inside c.in-Some.view c.self.invariant c.in-Some.is) c.in-Err.ensures.judged in
    refused_is_not c.args.self.now (input_meant c.args.input) _ _ (refusal_meant c.in-Err.field-0)
    (subst (λ (p : Placed). step_of p (input_meant c.args.input) ≡ Err (refusal_meant c.in-Err.field-0)) c.self.view_is
    (refused_in (placed_member c.self.inside) c.in-Some.view (states_in c.self.inside.kit.works)
    (input_meant c.args.input)
    (ap (λ (v : Option View). member_in v (states_in c.self.inside.kit.works)) c.in-Some.is) c.in-Err.field-0 not))
    c.self.view_is
    (ap (λ (o : Gathered). o.outputs) c.clear.ensures)

pub try_common-requires-clause-entered : goal.try_common-requires-clause-entered
try_common-requires-clause-entered c =
    entered_is c.self.inside c.deref.result.now c.deref-3.result.now c.deref-2.result.now
    (here_at c.self.inside c.in-Some.view)
    (input_meant c.args.input) c.in-Ok.entry
    c.self.invariant c.deref.ensures c.deref-3.ensures c.deref-2.ensures c.in-Ok.ensures.input c.in-Ok.ensures.judged

pub returns-in-Made-clause-probed : goal.returns-in-Made-clause-probed
returns-in-Made-clause-probed c =
    let here = stands c.self.inside c.in-Some.view c.self.invariant c.in-Some.is in
    let enters = entered_same c.deref.result.now (rc_value c.self.inside.stack) c.deref-2.result.now
    (rc_value c.self.inside.plans)
    (here_at c.self.inside c.in-Some.view)
    (here_in (placed_member c.self.inside) c.in-Some.view) (input_meant c.args.input) _ c.deref.ensures
    c.deref-2.ensures here
    c.in-Ok.ensures.judged in
    let new = record c.self.inside {
      view = c.follow.new.view;
      rank = c.follow.new.rank;
      count = c.follow.new.count;
      kit = c.try_common.new.kit;
    } in
    record {
      change = c.in-Made.change;
      takes =
          subst (λ (p : Placed). Takes p (input_meant c.args.input)
          (placed_member new)
          c.try_common.new.out.outputs 0 0 true c.in-Made.change)
          c.self.view_is
          (takes (placed_member c.self.inside) c.in-Some.view (states_in c.self.inside.kit.works)
          (input_meant c.args.input)
          (ap (λ (v : Option View). member_in v (states_in c.self.inside.kit.works)) c.in-Some.is) _
          (entry_meant (here_at c.self.inside c.in-Some.view) c.in-Ok.entry)
          c.self.inside.kit.works c.try_common.new.kit.works c.try_common.new.out 0 0
          (record { common = true; change = c.in-Made.change })
          (placed_member new)
          (ap stack_tree c.deref-3.ensures) (ap plans_tree c.deref-4.ensures) (ap mode_with c.lent.ensures) here refl
          enters c.in-Made.ensures.attempts
          refl refl (ap (λ (v : Option View). member_in v (states_in c.try_common.new.kit.works))
          (c.follow.ensures.view c.in-Some.view c.in-Some.is)) refl
          (record { stack = refl; plans = refl; mode = refl; group = refl; stamp = refl; id = refl; most = refl }));
    }

pub returns-in-Left-clause-probed : goal.returns-in-Left-clause-probed
returns-in-Left-clause-probed c =
    let here = stands c.self.inside c.in-Some.view c.self.invariant c.in-Some.is in
    let enters = entered_same c.deref.result.now (rc_value c.self.inside.stack) c.deref-2.result.now
    (rc_value c.self.inside.plans)
    (here_at c.self.inside c.in-Some.view)
    (here_in (placed_member c.self.inside) c.in-Some.view) (input_meant c.args.input) _ c.deref.ensures
    c.deref-2.ensures here
    c.in-Ok.ensures.judged in
    let new = record c.self.inside { kit = c.try_common.new.kit } in
    let not = left (placed_member c.self.inside) c.in-Some.view (states_in c.self.inside.kit.works)
    (input_meant c.args.input)
    (ap (λ (v : Option View). member_in v (states_in c.self.inside.kit.works)) c.in-Some.is) _
    (entry_meant (here_at c.self.inside c.in-Some.view) c.in-Ok.entry)
    c.self.inside.kit.works c.try_common.new.kit.works c.try_common.new.out c.in-Left.miss (placed_member new)
    (ap stack_tree c.deref-3.ensures)
    (ap plans_tree c.deref-4.ensures) here refl enters refl c.in-Left.ensures.attempts
    (same_placed c.self.inside new refl c.in-Left.ensures.attempts.same) in
    c.probed_of.ensures.probed c.args.self.now (input_meant c.args.input) (placed_member new)
    c.try_common.new.out.outputs
    (subst (λ (p : Placed). IsNotTaken p (input_meant c.args.input) (placed_member new) c.try_common.new.out.outputs
    c.in-Left.miss) c.self.view_is not)

pub returns-in-Left-clause-here : goal.returns-in-Left-clause-here
returns-in-Left-clause-here c = c.probed_of.ensures.here c.args.self.now c.try_common.new.out.here
