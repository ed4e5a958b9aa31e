use Rattle.std.proofs.Common.{rules}
use Rattle.symbol_compare.proofs.Growing.{knows_grown}
use Rattle.symbol_compare.proofs.Learning.{stepped_at}
use Rattle.symbol_compare.proofs.difference.step.Goals as goal

pub learn-requires-clause-knows : goal.learn-requires-clause-knows
learn-requires-clause-knows c = knows_grown c.in_ok-made.ensures.grows c.requires.walked.knows

pub returns : goal.returns
returns c = stepped_at _ _ _ c.args.walk.now _ _ _ c.in_ok-made.made _ c.args.turn c.requires.turn (search rules)
    c.requires.walked c.in_ok-made.ensures (search rules) (search rules)
