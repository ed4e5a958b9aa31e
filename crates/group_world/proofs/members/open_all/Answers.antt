use Rattle.std.proofs.Common.{◌≤◌, ◌∙◌, ap, arith, rules, refl, length, is_some}
use Rattle.msg_core.specs.View.{rank}
use Rattle.group_member.specs.Opening.{stack_in}
use Rattle.group_world.proofs.FirstView.{rank_in_first}
use Rattle.group_world.proofs.Opened.{open_next, open_fails, all_open, times_few}
use Rattle.group_world.proofs.members.open_all.Goals as goal

pub loop-id-init : goal.loop-id-init
loop-id-init c = record {
  below = record {
    opened_are = search rules;
    seated = search rules;
    few = λ lt. absurd (omega arith);
    same =
        refl;
    made = omega arith;
  };
  room = search rules;
}

pub begin-requires-clause-opening : goal.begin-requires-clause-opening
begin-requires-clause-opening c =
    let can = c.requires.opening in
    let made = c.loop-id.invariant.below.made in
    let places : length (stack_in c.args.opening) ≤ 24 = search rules in
    let few = times_few c.loop-id.id (length (stack_in c.args.opening)) (omega arith) places in record {
      same = c.loop-id.invariant.below.same ∙ can.same;
      typed = can.typed;
      plans_are = can.plans_are;
      entries_are = can.entries_are;
      starts_are = can.starts_are;
      codes_are = can.codes_are;
      made = omega (arith, made, few, can.made);
    }

pub begin-requires-clause-member : goal.begin-requires-clause-member
begin-requires-clause-member c =
    ap (λ v. is_some (rank v c.loop-id.id)) c.first_view-view.ensures ∙
    rank_in_first c.args.n c.loop-id.id c.requires.members.1 c.loop-id-test.true

pub loop-id-preserved : goal.loop-id-preserved
loop-id-preserved c = record {
  below = open_next _ _ c.loop-id.id c.first_view-view.result _ _ _ _ c.in-Ok.member _ c.loop-id.invariant.below
      c.first_view-view.ensures c.requires.members.1 c.in-Ok.ensures c.push_reserved.ensures.items;
  room = search rules;
}

pub returns-in-Err : goal.returns-in-Err
returns-in-Err c = open_fails _ _ c.loop-id.id c.first_view-view.result _ _ _ _ c.in-Err.error
    c.loop-id.invariant.below
    c.loop-id-test.true c.first_view-view.ensures c.requires.members.1 c.in-Err.ensures

pub returns : goal.returns
returns c = all_open _ _ c.loop-id.id _ _ _ c.loop-id.invariant.below (omega arith) c.requires.members.0
