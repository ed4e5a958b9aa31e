use Rattle.std.proofs.Common.{ap, ◌∙◌}
use Rattle.stack_queue.proofs.Lists.{no_first, first_place}
use Rattle.stack_queue.proofs.tasks.Tasks.first.Goals as goal

pub returns-clause-none : goal.returns-clause-none
returns-clause-none c = no_first c.self.inside.places.items c.self.inside.events.items _ c.copied.result
    (ap (λ b. b.items) c.self.view_is) (c.copied.ensures ∙ c.front.ensures)

pub returns-clause-some : goal.returns-clause-some
returns-clause-some c = first_place c.self.inside.places.items c.self.inside.events.items _ c.copied.result
    c.self.invariant.0
    (ap (λ b. b.items) c.self.view_is) (c.copied.ensures ∙ c.front.ensures)
