use Rattle.std.proofs.Common.{refl, ◌∷◌, drop, ap, ◌∙◌, arith}
use Rattle.std.proofs.lemmas.List.{length-set}
use Rattle.circular_buffer.specs.Buffer.{buffer}
use Rattle.pool_message.specs.Sent.{first_sent}
use Rattle.pool_message.proofs.Slots.{front_at, front_within, front_value, front_changed, front_stands}
use Rattle.pool_message.proofs.list.List.first_mut.Goals as goal

pub index_mut-requires : goal.index_mut-requires
index_mut-requires c = omega (
  arith,
  front_within c.self.inside.slots.items c.self.inside.order.items c.self.inside.free.items c.self.inside.first
      c.self.invariant.0
      (front_at c.self.inside.slots.items c.args.self.now.items c.self.inside.order.items c.self.inside.first
      c.self.invariant.5 (ap (λ b. b.items) c.self.view_is) c.requires),
  c.self.inside.slots.ok.0,
)

pub invariant_of-self-lent : goal.invariant_of-self-lent
invariant_of-self-lent c = λ w. (
  front_changed c.self.inside.slots.items c.self.inside.order.items c.self.inside.free.items c.self.inside.first
      c.self.invariant.0
      (front_at c.self.inside.slots.items c.args.self.now.items c.self.inside.order.items c.self.inside.first
      c.self.invariant.5 (ap (λ b. b.items) c.self.view_is) c.requires) w,
  c.self.invariant.1,
  c.self.invariant.2,
  c.self.invariant.3,
  omega (arith, length-set c.self.inside.slots.items c.self.inside.first w, c.self.invariant.4),
  c.self.invariant.5,
)

pub returns : goal.returns
returns c =
    let at = front_at c.self.inside.slots.items c.args.self.now.items c.self.inside.order.items c.self.inside.first
    c.self.invariant.5 (ap (λ b. b.items) c.self.view_is) c.requires in (
      (
        refl,
        λ w. ap (λ es. buffer es c.self.inside.order.capacity)
            (front_stands c.self.inside.slots.items c.self.inside.order.items c.self.inside.free.items
            c.self.inside.first c.self.invariant.0 at w)
            ∙ ap (λ b. buffer (w ∷ drop 1 b.items) b.capacity) c.self.view_is,
      ),
      record {
        writes_back = tt;
        value = front_value c.self.inside.slots.items c.self.inside.order.items c.self.inside.free.items
            c.self.inside.first c.self.invariant.0 at
            c.index_mut.result.now c.index_mut.ensures.value
            ∙ ap (λ b. first_sent b.items) c.self.view_is;
      },
    )
