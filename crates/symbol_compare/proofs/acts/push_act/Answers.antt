use Rattle.symbol_compare.proofs.Acting.{push_made}
use Rattle.symbol_compare.proofs.Growing.{grown_far, knows_grown}
use Rattle.symbol_compare.proofs.acts.push_act.Goals as goal

pub numbers-requires-clause-knows : goal.numbers-requires-clause-knows
numbers-requires-clause-knows c = knows_grown c.in_ok-index.ensures.grows c.requires.knows

pub sending-requires-clause-knows : goal.sending-requires-clause-knows
sending-requires-clause-knows c =
    knows_grown (grown_far c.in_ok-index.ensures.grows c.in_ok-values.ensures.grows c.in_ok-numbers.ensures.grows)
    c.requires.knows

pub returns : goal.returns
returns c = push_made c.args.queue.place c.args.queue.cell c.in_ok-values.values c.in_ok-index.ensures
    c.in_ok-values.ensures
    c.in_ok-numbers.ensures c.in_ok-message.ensures
