use Rattle.std.proofs.Common.{◌∙◌, ap}
use Rattle.std.specs.Prelude.{slice_set}
use Rattle.circular_buffer.specs.Buffer.{buffer}
use Rattle.pool_message.proofs.Piles.{replaced}
use Rattle.pool_message.proofs.messages.Messages.replace_from.Goals as goal

pub returns-then-k-self-clause-set : goal.returns-then-k-self-clause-set
returns-then-k-self-clause-set c =
    ap (λ ms. buffer ms c.self.inside.places.cap)
    (replaced c.self.inside.places.items c.self.inside.count c.args.k c.let_go.new.self c.take_over.new.self
    c.if-k-self.true)
    ∙ ap (λ b. buffer (slice_set b.items c.args.k c.take_over.new.self) b.capacity) c.self.view_is
    ∙ ap (λ m. buffer (slice_set c.args.self.now.items c.args.k m) c.args.self.now.capacity) c.take_over.ensures.taken
