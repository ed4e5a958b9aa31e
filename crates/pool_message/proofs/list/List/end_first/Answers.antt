use Rattle.std.proofs.Common.{rules, drop, sym, ap, ◌∙◌, subst, arith}
use Rattle.pool_message.specs.Sent.{first_sent}
use Rattle.pool_message.specs.Slots.{AreParted}
use Rattle.pool_message.proofs.Slots.{front_is, front_room, front_ended}
use Rattle.pool_message.proofs.list.List.end_first.Goals as goal

pub push_reserved-requires : goal.push_reserved-requires
push_reserved-requires c =
    omega (
      arith,
      front_room c.self.inside.slots.items c.self.inside.order.items c.self.inside.free.items c.in-Some.k
          c.self.invariant.0 (sym c.in-Some.ensures.value),
      c.self.invariant.4,
      c.self.invariant.3,
      c.self.inside.free.ok.0,
    )

pub invariant_of-self : goal.invariant_of-self
invariant_of-self c = (
  subst (λ o. AreParted c.self.inside.slots.items o c.push_reserved.new.self.items)
      (sym (ap (λ b. b.items) c.in-Some.ensures.items))
      (subst (λ f. AreParted c.self.inside.slots.items (drop 1 c.self.inside.order.items) f)
      (sym c.push_reserved.ensures.items)
      (front_ended c.self.inside.slots.items c.self.inside.order.items c.self.inside.free.items c.in-Some.k
      c.self.invariant.0 (sym c.in-Some.ensures.value)
      (ap (λ e. e.1.message)
      (sym (front_is c.self.inside.slots.items c.self.inside.order.items c.self.inside.free.items c.in-Some.k
      c.self.invariant.0 (sym c.in-Some.ensures.value)) ∙ ap (λ b. first_sent b.items) c.self.view_is) ∙
      c.requires.bare))),
  search rules,
  search rules,
  search rules,
  search rules,
  λ some. c.first_of-self-inside.ensures,
)
