use Rattle.std.proofs.Common.{◌∙◌, ap}
use Rattle.step_outputs.specs.Gathered.{Gathered}
use Rattle.group_member.specs.Judged.{entry_meant}
use Rattle.group_member.specs.Stepping.{step_over}
use Rattle.group_member.specs.Working.{states_in}
use Rattle.group_member.proofs.Going.{gone_by_code}
use Rattle.group_member.proofs.steps.make_by_code.Goals as goal

pub returns-in-Some-clause-made : goal.returns-in-Some-clause-made
returns-in-Some-clause-made c =
    let what = entry_meant c.args.ground.now.here.now c.args.entry.now in
    let made = c.in-Some.ensures.made in λ visits.
    gone_by_code c.args.ground.now c.args.kit.now.works what c.in-Some.case c.make_common.new.works
    c.make_common.new.out c.send_short.new.out
    visits c.requires.is_in made
    (c.send_short.ensures what (step_over c.args.ground.now (states_in c.args.kit.now.works) what).outputs
    (c.requires.what c.args.ground.now.here.now) made.made.outputs)

pub returns-in-Some-clause-places : goal.returns-in-Some-clause-places
returns-in-Some-clause-places c =
    let what = entry_meant c.args.ground.now.here.now c.args.entry.now in
    ap (λ (o : Gathered). o.places)
    (c.send_short.ensures what (step_over c.args.ground.now (states_in c.args.kit.now.works) what).outputs
    (c.requires.what c.args.ground.now.here.now) c.in-Some.ensures.made.made.outputs) ∙ c.in-Some.ensures.places
