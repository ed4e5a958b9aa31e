use Rattle.std.proofs.Common.{◌≡◌, Option, Err, refl, ap, subst, arith}
use Rattle.std.specs.Rc.{rc_value}
use Rattle.msg_core.specs.declared.packet.View.{View}
use Rattle.stack_judge.specs.Answer.{stack_tree}
use Rattle.stack_shapes.specs.Trees.{plans_tree}
use Rattle.step_outputs.specs.Gathered.{Gathered}
use Rattle.view_core.specs.Refusals.{refusal_meant}
use Rattle.view_core.specs.Steps.{input_meant}
use Rattle.member_reads.specs.Shown.{member_in}
use Rattle.group_member.specs.Judged.{entry_meant}
use Rattle.group_member.specs.Modes.{mode_with}
use Rattle.group_member.specs.Placed.{Placed, here_in, step_of, Takes}
use Rattle.group_member.specs.Placing.{placed_member}
use Rattle.group_member.specs.Working.{states_in}
use Rattle.group_member.proofs.Placing.{ground_is, entered_is, entered_same, here_at, refused_in, stands, takes}
use Rattle.group_member.proofs.member.Member.step.Goals as goal

pub returns-in-Err-clause-step : goal.returns-in-Err-clause-step
returns-in-Err-clause-step c =
    let not = entered_same c.deref.result.now (rc_value c.self.inside.stack) c.deref-2.result.now
    (rc_value c.self.inside.plans) (here_at c.self.inside c.in-Some.view)
    (here_in (placed_member c.self.inside) c.in-Some.view) (input_meant c.args.input)
    (Err (refusal_meant c.in-Err.reason))
    c.deref.ensures c.deref-2.ensures
    (stands c.self.inside c.in-Some.view c.self.invariant c.in-Some.is) c.in-Err.ensures.judged in record {
      why = subst (λ (p : Placed). step_of p (input_meant c.args.input) ≡ Err (refusal_meant c.in-Err.reason))
          c.self.view_is
          (refused_in (placed_member c.self.inside) c.in-Some.view (states_in c.self.inside.kit.works)
          (input_meant c.args.input)
          (ap (λ (v : Option View). member_in v (states_in c.self.inside.kit.works)) c.in-Some.is) c.in-Err.reason not);
      same = c.self.view_is;
      none = ap (λ (o : Gathered). o.outputs) c.clear.ensures;
      visits = refl;
    }

pub take-common-requires-clause-ground : goal.take-common-requires-clause-ground
take-common-requires-clause-ground c =
    ground_is c.self.inside _ c.in-Some.view c.self.invariant c.in-Some.is c.deref-3.ensures c.deref-4.ensures refl refl
    c.lent.ensures refl refl (omega arith) (omega arith) refl refl refl

pub take-common-requires-clause-entered : goal.take-common-requires-clause-entered
take-common-requires-clause-entered c =
    entered_is c.self.inside c.deref.result.now c.deref-3.result.now c.deref-2.result.now
    (here_at c.self.inside c.in-Some.view)
    (input_meant c.args.input) c.in-Ok.entry
    c.self.invariant c.deref.ensures c.deref-3.ensures c.deref-2.ensures c.in-Ok.ensures.input c.in-Ok.ensures.judged

pub returns-clause-step : goal.returns-clause-step
returns-clause-step c =
    let here = stands c.self.inside c.in-Some.view c.self.invariant c.in-Some.is in
    let enters = entered_same c.deref.result.now (rc_value c.self.inside.stack) c.deref-2.result.now
    (rc_value c.self.inside.plans)
    (here_at c.self.inside c.in-Some.view)
    (here_in (placed_member c.self.inside) c.in-Some.view) (input_meant c.args.input) _ c.deref.ensures
    c.deref-2.ensures here
    c.in-Ok.ensures.judged in
    subst (λ (p : Placed). Takes p (input_meant c.args.input)
    (placed_member (record c.self.inside {
      view = c.follow.new.view;
      rank = c.follow.new.rank;
      count = c.follow.new.count;
      kit = c.take-common.new.kit;
    }))
    c.take-common.new.out.outputs c.args.visits.now c.take-common.new.visits c.take-common.result.common
    c.take-common.result.change)
    c.self.view_is
    (takes (placed_member c.self.inside) c.in-Some.view (states_in c.self.inside.kit.works) (input_meant c.args.input)
    (ap (λ (v : Option View). member_in v (states_in c.self.inside.kit.works)) c.in-Some.is) _
    (entry_meant (here_at c.self.inside c.in-Some.view) c.in-Ok.entry)
    c.self.inside.kit.works c.take-common.new.kit.works c.take-common.new.out c.args.visits.now c.take-common.new.visits
    c.take-common.result
    (placed_member (record c.self.inside {
      view = c.follow.new.view;
      rank = c.follow.new.rank;
      count = c.follow.new.count;
      kit = c.take-common.new.kit;
    }))
    (ap stack_tree c.deref-3.ensures) (ap plans_tree c.deref-4.ensures) (ap mode_with c.lent.ensures) here refl enters
    c.take-common.ensures.taken
    refl refl (ap (λ (v : Option View). member_in v (states_in c.take-common.new.kit.works))
    (c.follow.ensures.view c.in-Some.view c.in-Some.is)) refl
    (record { stack = refl; plans = refl; mode = refl; group = refl; stamp = refl; id = refl; most = refl }))
