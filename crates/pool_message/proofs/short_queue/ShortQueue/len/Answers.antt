use Rattle.std.proofs.Common.{length, ap, ◌∙◌, arith}
use Rattle.pool_message.proofs.Lines.{many}
use Rattle.pool_message.proofs.short_queue.ShortQueue.len.Goals as goal

pub returns-clause-len : goal.returns-clause-len
returns-clause-len g c =
    many c.self.inside.count c.self.inside.first c.self.inside.others.items c.self.invariant.0 ∙
    ap (λ b. length b.items) c.self.view_is

pub returns-clause-within : goal.returns-clause-within
returns-clause-within g c =
    omega (arith, c.self.invariant.1, ap (λ b. b.capacity) c.self.view_is)
