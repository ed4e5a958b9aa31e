use Rattle.symbol_compare.proofs.Acting.{set_made}
use Rattle.symbol_compare.proofs.Growing.{knows_grown}
use Rattle.symbol_compare.proofs.acts.set_act.Goals as goal

pub number-requires-2-clause-knows : goal.number-requires-2-clause-knows
number-requires-2-clause-knows c = knows_grown c.in_ok-index.ensures.grows c.requires.knows

pub returns : goal.returns
returns c = set_made c.args.spot.place c.args.spot.cell c.in_ok-index.ensures c.in_ok-value.ensures
