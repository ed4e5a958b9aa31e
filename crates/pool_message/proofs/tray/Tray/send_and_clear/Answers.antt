use Rattle.std.proofs.Common.{ap, subst}
use Rattle.pool_message.specs.Moves.{Returned}
use Rattle.pool_message.specs.Piled.{pile_refs}
use Rattle.pool_message.proofs.Piles.{sent_cleared}
use Rattle.pool_message.proofs.tray.Tray.send_and_clear.Goals as goal

pub returns-clause-returned : goal.returns-clause-returned
returns-clause-returned c =
    sent_cleared c.args.pool.now c.send_message.new.pool c.clear_messages.new.pool c.args.self.now.messages.items
    c.args.k c.requires.some
    c.send_message.ensures.kept
    (subst (λ ms. Returned c.send_message.new.pool c.clear_messages.new.pool (pile_refs ms))
    (ap (λ t. t.messages.items) c.send_message.ensures.sent)
    c.clear_messages.ensures.returned)
