use Rattle.std.proofs.Common.{ap, ◌∙◌, subst}
use Rattle.pool_message.specs.Slots.{AreParted}
use Rattle.pool_message.proofs.Slots.{all_bare, none_stand, last_bare}
use Rattle.pool_message.proofs.list.List.close.Goals as goal

pub loop-direction-init : goal.loop-direction-init
loop-direction-init c =
    all_bare c.self.inside.slots.items c.self.inside.free.items
    (subst (λ o. AreParted c.self.inside.slots.items o c.self.inside.free.items)
    (none_stand c.self.inside.slots.items c.self.inside.order.items (ap (λ b. b.items) c.self.view_is ∙ c.requires))
    c.self.invariant.0)

pub close-requires : goal.close-requires
close-requires c = last_bare c.loop-direction.slots.items c.pop.new.self.items _ c.in-Some.ensures.items
    c.loop-direction.invariant
