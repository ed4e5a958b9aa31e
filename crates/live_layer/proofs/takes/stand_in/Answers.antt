use Rattle.live_layer.proofs.Blank.{blank_stands}
use Rattle.live_layer.proofs.takes.stand_in.Goals as goal

pub returns-in-Whole : goal.returns-in-Whole
returns-in-Whole c = blank_stands c.args.carried c.in-Whole.blank c.blank.result c.in-Whole.is c.requires
    c.blank.ensures
