use Rattle.symbol_compare.proofs.Growing.{knows_grown}
use Rattle.symbol_compare.proofs.Sent.{message_sent}
use Rattle.symbol_compare.proofs.sending.sent_message.Goals as goal

pub core_value-requires : goal.core_value-requires
core_value-requires c = knows_grown c.in_ok-chain.ensures.grows c.requires.knows

pub returns : goal.returns
returns c = message_sent c.in_ok-chain.ensures c.in_ok-message.ensures c.in_ok-made.ensures
