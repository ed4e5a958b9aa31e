use Rattle.std.proofs.Common.{slice_get, ap, ◌∙◌, sym}
use Rattle.pool_message.proofs.Lines.{got_other}
use Rattle.pool_message.proofs.short_queue.ShortQueue.get.Goals as goal

pub returns-then-index-eq0 : goal.returns-then-index-eq0
returns-then-index-eq0 g c =
    c.front.ensures ∙ ap (slice_get c.args.self.now.items) (sym c.if-index-eq0.true)

pub returns : goal.returns
returns g c =
    c.get.ensures
    ∙ got_other c.self.inside.count c.self.inside.first c.self.inside.others.items c.args.index c.self.invariant.0
    c.if-index-eq0.false
    ∙ ap (λ b. slice_get b.items c.args.index) c.self.view_is
