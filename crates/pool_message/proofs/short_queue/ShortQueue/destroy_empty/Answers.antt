use Rattle.std.proofs.Common.{ap, ◌∙◌}
use Rattle.pool_message.proofs.Lines.{none_other}
use Rattle.pool_message.proofs.short_queue.ShortQueue.destroy_empty.Goals as goal

pub destroy_empty-requires : goal.destroy_empty-requires
destroy_empty-requires g c =
    none_other c.self.inside.count c.self.inside.first c.self.inside.others.items c.self.invariant.0
    (ap (λ b. b.items) c.self.view_is ∙ c.requires)
