use Rattle.std.proofs.Common.{refl, rules}
use Rattle.slot_pool.specs.Spots.{spot_at}
use Rattle.slot_pool.proofs.Calls.{keep_pool, keep_shown}
use Rattle.slot_pool.proofs.pool.Pool.keep.Goals as goal

pub invariant_of-self : goal.invariant_of-self
invariant_of-self c =
    rw c.add_reference.ensures
    (keep_pool c.self.inside.places.values c.self.inside.places.capacity c.self.inside.first c.s.inside.index
    (spot_at c.self.inside.places.values c.s.inside.index) _ c.args.self.now c.args.s.now (search rules) (search rules)
    (search rules) refl refl (search rules))

pub returns-clause-pool : goal.returns-clause-pool
returns-clause-pool c =
    rw c.add_reference.ensures
    (keep_shown c.self.inside.places.values c.self.inside.places.capacity c.self.inside.first c.s.inside.index
    (spot_at c.self.inside.places.values c.s.inside.index) _ c.args.self.now c.args.s.now (search rules) (search rules)
    (search rules) refl refl)
