use Rattle.std.proofs.Common.{◌∙◌, refl, sym, ap, subst}
use Rattle.layer_eval.specs.declared.predicted.Predicted.{Predicted}
use Rattle.group_member.specs.Judged.{entry_meant}
use Rattle.group_member.specs.Stepping.{codes_in, plans_in, stack_of, step_over}
use Rattle.group_member.specs.Viewing.{IsIn}
use Rattle.group_member.specs.Working.{states_in}
use Rattle.group_member.proofs.Going.{gone_by_run}
use Rattle.group_member.proofs.Same.{same_ready, same_states}
use Rattle.group_member.proofs.Places.{spare_on}
use Rattle.group_member.proofs.steps.make.Goals as goal

pub make_by_code-requires-clause-spare : goal.make_by_code-requires-clause-spare
make_by_code-requires-clause-spare c =
    spare_on (codes_in c.args.ground.now) (plans_in c.args.ground.now) c.args.kit.now.scratch _ refl
    c.keep_entry-what.ensures.capacity c.requires.spare

pub make_by_code-requires-clause-fields : goal.make_by_code-requires-clause-fields
make_by_code-requires-clause-fields c = λ codes is here. c.keep_entry-what.ensures.fields here

pub play-predicted-requires-clause-ready : goal.play-predicted-requires-clause-ready
play-predicted-requires-clause-ready c =
    same_ready (stack_of c.args.ground.now) c.args.ground.now.most c.args.kit.now.works c.make_by_code.new.kit.works
    c.if-make_by_code.ensures.made.same
    c.requires.ready

pub play-predicted-requires-clause-is_in : goal.play-predicted-requires-clause-is_in
play-predicted-requires-clause-is_in c =
    subst (IsIn (stack_of c.args.ground.now) c.args.ground.now.most c.args.ground.now.here.now.view
    c.args.ground.now.id)
    (sym (same_states c.args.kit.now.works c.make_by_code.new.kit.works c.if-make_by_code.ensures.made.same))
    c.requires.is_in

pub returns-clause-gone : goal.returns-clause-gone
returns-clause-gone c =
    let what = entry_meant c.args.ground.now.here.now c.args.entry in
    let played = c.play-predicted.ensures.played in
    gone_by_run c.args.ground.now c.args.kit.now.works what c.play-predicted.new.works c.play-predicted.new.out
    c.args.visits.now
    c.play-predicted.new.visits c.make_by_code.new.kit.works c.play-predicted.result c.is_common.result
    c.if-make_by_code.ensures.made.same
    c.if-make_by_code.ensures.made.uncommon played
    (c.is_common.ensures.common (stack_of c.args.ground.now) (plans_in c.args.ground.now)
    (step_over c.args.ground.now (states_in c.make_by_code.new.kit.works) what)
    (c.deref.ensures ∙ c.requires.ground.entries)
    (c.keep_entry-what.ensures.what c.args.ground.now.here.now) (ap (λ (p : Predicted). p.first) played.predicted)
    (ap (λ (p : Predicted). p.second) played.predicted))

pub returns-then-make_by_code-clause-gone : goal.returns-then-make_by_code-clause-gone
returns-then-make_by_code-clause-gone c = c.if-make_by_code.ensures.made c.args.visits.now
