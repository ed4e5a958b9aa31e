use Rattle.std.proofs.Common.{slice_get, Some, sym, ap, ◌∙◌, refl, arith}
use Rattle.pool_message.specs.Slots.{standing}
use Rattle.pool_message.proofs.Slots.{got_at, none_first, value_at, front_at, front_within, stand_count, is_none}
use Rattle.pool_message.proofs.Slots.{is_some}
use Rattle.pool_message.proofs.list.List.first.Goals as goal

pub index-sent-requires : goal.index-sent-requires
index-sent-requires c =
    omega (
      arith,
      front_within c.self.inside.slots.items c.self.inside.order.items c.self.inside.free.items
          c.self.inside.first c.self.invariant.0
          (front_at c.self.inside.slots.items (standing c.self.inside.slots.items c.self.inside.order.items)
          c.self.inside.order.items c.self.inside.first c.self.invariant.5 refl
          (omega (
            arith,
            stand_count c.self.inside.slots.items c.self.inside.order.items,
            is_some c.self.inside.order.items c.if-is_empty.ensures,
          ))),
      c.self.inside.slots.ok.0,
    )

pub returns : goal.returns
returns c =
    ap Some (value_at c.self.inside.slots.items c.self.inside.first c.index-sent.result.now
    (front_within c.self.inside.slots.items c.self.inside.order.items c.self.inside.free.items c.self.inside.first
    c.self.invariant.0 (front_at c.self.inside.slots.items
    (standing c.self.inside.slots.items c.self.inside.order.items) c.self.inside.order.items c.self.inside.first
    c.self.invariant.5 refl
    (omega (
      arith,
      stand_count c.self.inside.slots.items c.self.inside.order.items,
      is_some c.self.inside.order.items c.if-is_empty.ensures,
    )))) c.index-sent.ensures)
    ∙ sym (got_at c.self.inside.slots.items c.self.inside.order.items 0 c.self.inside.first
    (front_at c.self.inside.slots.items (standing c.self.inside.slots.items c.self.inside.order.items)
    c.self.inside.order.items c.self.inside.first c.self.invariant.5 refl
    (omega (
      arith,
      stand_count c.self.inside.slots.items c.self.inside.order.items,
      is_some c.self.inside.order.items c.if-is_empty.ensures,
    ))))
    ∙ ap (λ b. slice_get b.items 0) c.self.view_is

pub returns-then-is_empty : goal.returns-then-is_empty
returns-then-is_empty c =
    sym (none_first c.self.inside.slots.items c.self.inside.order.items
    (is_none c.self.inside.order.items c.if-is_empty.ensures)) ∙ ap (λ b. slice_get b.items 0) c.self.view_is
