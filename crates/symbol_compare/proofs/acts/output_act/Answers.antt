use Rattle.symbol_compare.proofs.Acting.{output_made}
use Rattle.symbol_compare.proofs.Growing.{knows_grown}
use Rattle.symbol_compare.proofs.acts.output_act.Goals as goal

pub sending-requires-clause-knows : goal.sending-requires-clause-knows
sending-requires-clause-knows c = knows_grown c.in_ok-numbers.ensures.grows c.requires.knows

pub returns : goal.returns
returns c = output_made c.args.way.dir c.args.way.kind c.in_ok-numbers.ensures c.in_ok-message.ensures
