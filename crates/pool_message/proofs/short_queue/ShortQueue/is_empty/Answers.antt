use Rattle.std.proofs.Common.{◌==◌, length, ap, ◌∙◌}
use Rattle.pool_message.proofs.Lines.{many}
use Rattle.pool_message.proofs.short_queue.ShortQueue.is_empty.Goals as goal

pub returns : goal.returns
returns g c =
    ap (λ n. n == 0) (many c.self.inside.count c.self.inside.first c.self.inside.others.items c.self.invariant.0 ∙
    ap (λ b. length b.items) c.self.view_is)
