use Rattle.std.proofs.Common.{ap, arith}
use Rattle.pool_message.proofs.Slots.{front_at, front_within}
use Rattle.pool_message.proofs.list.List.front.Goals as goal

pub index-requires : goal.index-requires
index-requires c = omega (
  arith,
  front_within c.self.inside.slots.items c.self.inside.order.items c.self.inside.free.items c.self.inside.first
      c.self.invariant.0
      (front_at c.self.inside.slots.items c.args.self.now.items c.self.inside.order.items c.self.inside.first
      c.self.invariant.5 (ap (λ b. b.items) c.self.view_is) c.requires),
  c.self.inside.slots.ok.0,
)
