use Rattle.std.proofs.Common.{rules, sym, ap, subst}
use Rattle.pool_message.specs.Slots.{AreParted}
use Rattle.pool_message.proofs.Slots.{front_at, front_round}
use Rattle.pool_message.proofs.list.List.go_round.Goals as goal

pub invariant_of-self : goal.invariant_of-self
invariant_of-self c =
    let at = front_at c.self.inside.slots.items c.args.self.now.items c.self.inside.order.items c.self.inside.first
    c.self.invariant.5
    (ap (λ b. b.items) c.self.view_is) c.requires in (
      subst (λ o. AreParted c.self.inside.slots.items o c.self.inside.free.items)
          (sym (ap (λ b. b.items) c.go_round.ensures))
          (front_round c.self.inside.slots.items c.self.inside.order.items c.self.inside.free.items c.self.inside.first
          c.self.invariant.0 at),
      search rules,
      search rules,
      search rules,
      search rules,
      λ some. c.first_of-self-inside.ensures,
    )
