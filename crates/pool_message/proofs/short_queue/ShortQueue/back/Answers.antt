use Rattle.std.proofs.Common.{length, ap, ◌∙◌, arith}
use Rattle.circular_buffer.specs.Buffer.{last_item}
use Rattle.pool_message.proofs.Lines.{many, last_first, last_other}
use Rattle.pool_message.proofs.short_queue.ShortQueue.back.Goals as goal

pub returns-then-self-lt2 : goal.returns-then-self-lt2
returns-then-self-lt2 g c =
    let count = many c.self.inside.count c.self.inside.first c.self.inside.others.items c.self.invariant.0 in
    c.front.ensures ∙ last_first c.args.self.now.items
    (omega (arith, c.if-self-lt2.true, count, ap (λ b. length b.items) c.self.view_is))

pub returns : goal.returns
returns g c =
    c.back.ensures
    ∙ last_other c.self.inside.count c.self.inside.first c.self.inside.others.items c.self.invariant.0
    (omega (arith, c.if-self-lt2.false))
    ∙ ap (λ b. last_item b.items) c.self.view_is
