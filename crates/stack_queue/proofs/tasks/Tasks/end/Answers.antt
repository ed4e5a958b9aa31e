use Rattle.std.proofs.Common.{ap, ◌∙◌}
use Rattle.stack_queue.proofs.Lists.{none_left}
use Rattle.stack_queue.proofs.tasks.Tasks.end.Goals as goal

pub destroy_empty-requires : goal.destroy_empty-requires
destroy_empty-requires c =
    (none_left c.self.inside.places.items c.self.inside.events.items c.self.invariant.0
    (ap (λ b. b.items) c.self.view_is ∙ c.requires)).0

pub close-requires : goal.close-requires
close-requires c = (none_left c.self.inside.places.items c.self.inside.events.items c.self.invariant.0
    (ap (λ b. b.items) c.self.view_is ∙ c.requires)).1
