use Rattle.std.proofs.Common.{◌-◌, refl, rules}
use Rattle.slot_pool.specs.Spots.{Spot, spot_at}
use Rattle.slot_pool.proofs.Calls.{within, end_pool, end_shown, free_pool, free_shown}
use Rattle.slot_pool.proofs.Spots.{linked_after}
use Rattle.slot_pool.proofs.pool.Pool.give_back.Goals as goal

pub invariant_of-self : goal.invariant_of-self
invariant_of-self c =
    let ps = c.self.inside.places.values in let n = c.self.inside.places.capacity in let first = c.self.inside.first in
    let i = c.s.inside.index in
    let w : Spot = spot_at ps i in let v : Spot = record w { count = w.count - 1 } in
    let there = within ps n first i w v c.args.self.now c.args.s (search rules) (search rules) (search rules) refl in
    rw (linked_after c.self.inside.places c.end_reference.new.self c.link.new.self i first v there
    c.end_reference.ensures.places c.link.ensures)
    (free_pool ps n first i w v c.args.self.now c.args.s (search rules) (search rules) (search rules) refl refl
    (search rules) (search rules))

pub invariant_of-self-else-end_reference : goal.invariant_of-self-else-end_reference
invariant_of-self-else-end_reference c =
    let ps = c.self.inside.places.values in let i = c.s.inside.index in let w : Spot = spot_at ps i in
    rw c.end_reference.ensures.places
    (end_pool ps c.self.inside.places.capacity c.self.inside.first i w (record w { count = w.count - 1 })
    c.args.self.now c.args.s
    (search rules) (search rules) (search rules) refl refl (search rules) (search rules))

pub returns-then-end_reference : goal.returns-then-end_reference
returns-then-end_reference c =
    let ps = c.self.inside.places.values in let n = c.self.inside.places.capacity in let first = c.self.inside.first in
    let i = c.s.inside.index in
    let w : Spot = spot_at ps i in let v : Spot = record w { count = w.count - 1 } in
    let there = within ps n first i w v c.args.self.now c.args.s (search rules) (search rules) (search rules) refl in
    rw (linked_after c.self.inside.places c.end_reference.new.self c.link.new.self i first v there
    c.end_reference.ensures.places c.link.ensures)
    (free_shown ps n first i w v c.args.self.now c.args.s (search rules) (search rules) (search rules) refl refl)

pub returns-else-end_reference : goal.returns-else-end_reference
returns-else-end_reference c =
    let ps = c.self.inside.places.values in let i = c.s.inside.index in let w : Spot = spot_at ps i in
    rw c.end_reference.ensures.places
    (end_shown ps c.self.inside.places.capacity c.self.inside.first i w (record w { count = w.count - 1 })
    c.args.self.now c.args.s
    (search rules) (search rules) (search rules) refl refl)
