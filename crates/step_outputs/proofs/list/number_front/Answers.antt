use Rattle.step_outputs.proofs.Numbers.{front_numbered}
use Rattle.step_outputs.proofs.list.number_front.Goals as goal

pub returns : goal.returns
returns c =
    front_numbered c.args.count c.args.first c.args.used c.args.list.now c.number_all.new.list _ c.requires.within
    c.number_all.ensures
