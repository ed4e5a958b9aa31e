use Rattle.symbol_compare.proofs.Acting.{square_made}
use Rattle.symbol_compare.proofs.Growing.{grown_on, knows_grown}
use Rattle.symbol_compare.proofs.acts.square_act.Goals as goal

pub number-requires-2-clause-knows : goal.number-requires-2-clause-knows
number-requires-2-clause-knows c = knows_grown c.in_ok-row.ensures.grows c.requires.knows

pub number-requires-3-clause-knows : goal.number-requires-3-clause-knows
number-requires-3-clause-knows c = knows_grown (grown_on c.in_ok-row.ensures.grows c.in_ok-column.ensures.grows)
    c.requires.knows

pub returns : goal.returns
returns c = square_made c.args.square.place c.args.square.cell c.in_ok-row.ensures c.in_ok-column.ensures
    c.in_ok-value.ensures
