use Rattle.group_member.specs.Judged.{entry_meant}
use Rattle.group_member.proofs.Taking.{taken}
use Rattle.group_member.proofs.steps.take.Goals as goal

pub returns-clause-taken : goal.returns-clause-taken
returns-clause-taken c =
    taken c.args.ground.now c.args.kit.now.works (entry_meant c.args.ground.now.here.now c.args.entry)
    c.make-common.new.kit.works
    c.change_view-change.new.works c.make-common.new.out c.args.visits.now _ _ _ c.requires.ground
    c.requires.is_in.inside_is.states_are
    c.requires.entered c.make-common.ensures.gone c.change_view-change.ensures
