use Rattle.std.proofs.Common.{length, slice_get, Some, option_map, sym, ap, ◌∙◌, arith}
use Rattle.pool_message.proofs.Slots.{got_within, got_at, none_after, value_at}
use Rattle.pool_message.proofs.list.List.direction.Goals as goal

pub index-requires : goal.index-requires
index-requires c = omega (
  arith,
  got_within c.self.inside.slots.items c.self.inside.order.items c.self.inside.free.items c.args.k
      c.in-Some.slot.now c.self.invariant.0 (sym c.in-Some.ensures),
  c.self.inside.slots.ok.0,
)

pub unreachable-requires : goal.unreachable-requires
unreachable-requires c =
    omega (
      arith,
      none_after c.self.inside.slots.items c.self.inside.order.items c.args.k (sym c.in-None.ensures),
      ap (λ b. length b.items) c.self.view_is,
      c.requires,
    )

pub returns : goal.returns
returns c =
    ap (λ b. option_map (λ e. e.0) (slice_get b.items c.args.k)) (sym c.self.view_is)
    ∙ ap (option_map (λ e. e.0))
    (got_at c.self.inside.slots.items c.self.inside.order.items c.args.k c.in-Some.slot.now (sym c.in-Some.ensures))
    ∙ ap (λ e. Some e.0) (sym (value_at c.self.inside.slots.items c.in-Some.slot.now c.index.result.now
    (got_within c.self.inside.slots.items c.self.inside.order.items c.self.inside.free.items c.args.k c.in-Some.slot.now
    c.self.invariant.0 (sym c.in-Some.ensures)) c.index.ensures))
