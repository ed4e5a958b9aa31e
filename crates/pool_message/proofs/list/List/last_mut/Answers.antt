use Rattle.std.proofs.Common.{refl, [], ◌∷◌, ◌++◌, ap, ◌∙◌, arith}
use Rattle.std.proofs.lemmas.List.{length-set}
use Rattle.circular_buffer.specs.Buffer.{buffer}
use Rattle.pool_message.specs.Lends.{last_sent, before_last}
use Rattle.pool_message.proofs.Slots.{value_at, back_within, back_is, back_changed, back_stands, last_whole, some_stand}
use Rattle.pool_message.proofs.list.List.last_mut.Goals as goal

pub last_of-k-requires : goal.last_of-k-requires
last_of-k-requires c =
    some_stand c.self.inside.slots.items c.args.self.now.items c.self.inside.order.items
    (ap (λ b. b.items) c.self.view_is) c.requires

pub index_mut-requires : goal.index_mut-requires
index_mut-requires c =
    omega (
      arith,
      back_within c.self.inside.slots.items (before_last c.args.self.now.items)
          (last_sent c.args.self.now.items) c.self.inside.order.items
          c.self.inside.free.items c.last_of-k.result c.self.invariant.0 c.last_of-k.ensures
          (ap (λ b. b.items) c.self.view_is ∙ last_whole c.args.self.now.items c.requires),
      c.self.inside.slots.ok.0,
    )

pub invariant_of-self-lent : goal.invariant_of-self-lent
invariant_of-self-lent c = λ w. (
  back_changed c.self.inside.slots.items (before_last c.args.self.now.items)
      (last_sent c.args.self.now.items) c.self.inside.order.items c.self.inside.free.items
      c.last_of-k.result c.self.invariant.0 c.last_of-k.ensures
      (ap (λ b. b.items) c.self.view_is ∙ last_whole c.args.self.now.items c.requires) w,
  c.self.invariant.1,
  c.self.invariant.2,
  c.self.invariant.3,
  omega (arith, c.self.invariant.4, length-set c.self.inside.slots.items c.last_of-k.result w),
  c.self.invariant.5,
)

pub returns : goal.returns
returns c = (
  (
    refl,
    λ w. ap (λ es. buffer es c.self.inside.order.capacity)
        (back_stands c.self.inside.slots.items (before_last c.args.self.now.items)
        (last_sent c.args.self.now.items) c.self.inside.order.items
        c.self.inside.free.items c.last_of-k.result c.self.invariant.0 c.last_of-k.ensures
        (ap (λ b. b.items) c.self.view_is ∙ last_whole c.args.self.now.items c.requires) w)
        ∙ ap (λ n. buffer (before_last c.args.self.now.items ++ w ∷ []) n)
        (ap (λ b. b.capacity) c.self.view_is),
  ),
  record {
    writes_back = tt;
    value = value_at c.self.inside.slots.items c.last_of-k.result c.index_mut.result.now
        (back_within c.self.inside.slots.items (before_last c.args.self.now.items)
        (last_sent c.args.self.now.items) c.self.inside.order.items
        c.self.inside.free.items c.last_of-k.result c.self.invariant.0 c.last_of-k.ensures
        (ap (λ b. b.items) c.self.view_is ∙ last_whole c.args.self.now.items c.requires)) c.index_mut.ensures.value ∙
        back_is c.self.inside.slots.items (before_last c.args.self.now.items)
        (last_sent c.args.self.now.items) c.self.inside.order.items c.self.inside.free.items
        c.last_of-k.result c.self.invariant.0 c.last_of-k.ensures
        (ap (λ b. b.items) c.self.view_is ∙ last_whole c.args.self.now.items c.requires);
  },
)
