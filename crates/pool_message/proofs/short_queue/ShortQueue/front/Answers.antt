use Rattle.std.proofs.Common.{slice_get, ap, ◌∙◌}
use Rattle.pool_message.proofs.Lines.{first_none, first_some}
use Rattle.pool_message.proofs.short_queue.ShortQueue.front.Goals as goal

pub returns-then-self-eq0 : goal.returns-then-self-eq0
returns-then-self-eq0 g c =
    first_none c.self.inside.count c.self.inside.first c.self.inside.others.items c.if-self-eq0.true ∙
    ap (λ b. slice_get b.items 0) c.self.view_is

pub returns : goal.returns
returns g c =
    first_some c.self.inside.count c.self.inside.first c.self.inside.others.items c.if-self-eq0.false ∙
    ap (λ b. slice_get b.items 0) c.self.view_is
