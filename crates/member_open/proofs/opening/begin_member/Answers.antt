use Rattle.std.proofs.Common.{ap}
use Rattle.group_member.specs.Modes.{mode_with}
use Rattle.stack_judge.specs.Answer.{stack_tree}
use Rattle.member_open.proofs.Alone.{lent_as, opened_as}
use Rattle.member_open.proofs.opening.begin_member.Goals as goal

pub returns-in-Ok : goal.returns-in-Ok
returns-in-Ok c =
    let is = opened_as _ c.args.line.members c.args.id c.in-Ok.member _ _
    (ap mode_with (lent_as _ _ c.as_ref.ensures.value))
    (ap stack_tree c.stack-2.ensures) c.in-Ok.ensures in
    record { first = is.0; plans_are = c.requires.prepared.plans_are; places = c.requires.prepared.places; room = is.1 }
