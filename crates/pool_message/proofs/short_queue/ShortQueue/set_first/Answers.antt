use Rattle.std.proofs.Common.{◌∷◌, ◌<◌, drop, length, ap, ◌∙◌, subst, sym}
use Rattle.circular_buffer.specs.Buffer.{buffer}
use Rattle.pool_message.proofs.Lines.{changed}
use Rattle.pool_message.proofs.short_queue.ShortQueue.set_first.Goals as goal

pub returns : goal.returns
returns g c =
    let some = subst (λ b. 0 < length b.items) (sym c.self.view_is) c.requires in
    ap (λ xs. buffer xs c.self.inside.others.capacity)
    (changed c.self.inside.count c.self.inside.first c.args.item c.self.inside.others.items some)
    ∙ ap (λ b. buffer (c.args.item ∷ drop 1 b.items) b.capacity) c.self.view_is
