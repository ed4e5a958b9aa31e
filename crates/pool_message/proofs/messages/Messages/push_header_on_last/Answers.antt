use Rattle.std.proofs.Common.{◌∙◌, ap}
use Rattle.circular_buffer.specs.Buffer.{buffer}
use Rattle.pool_message.specs.Piled.{with_header_last}
use Rattle.pool_message.specs.Sent.{with_header}
use Rattle.pool_message.proofs.Piles.{changed_last}
use Rattle.pool_message.proofs.messages.Messages.push_header_on_last.Goals as goal

pub returns-then-self-gt0 : goal.returns-then-self-gt0
returns-then-self-gt0 c =
    ap (λ ms. buffer ms c.self.inside.places.cap)
    (changed_last (with_header c.args.header) c.self.inside.places.items c.self.inside.count _ c.push_header.new.self
    c.if-self-gt0.true c.self.invariant.0
    (c.push_header.ensures ∙ ap (with_header c.args.header) c.index_mut.ensures.value))
    ∙ ap (λ b. buffer (with_header_last c.args.header b.items) b.capacity) c.self.view_is
