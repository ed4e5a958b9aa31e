use Rattle.std.proofs.Common.{rules}
use Rattle.slot_pool.proofs.Calls.{sets_pool, sets_shown, adds_pool, adds_shown, put_not_full, none_full}
use Rattle.slot_pool.proofs.pool.Pool.put.Goals as goal

pub invariant_of-self : goal.invariant_of-self
invariant_of-self c = sets_pool c.self.inside.places c.hold.new.self c.self.inside.first c.args.bytes.now (search rules)
    (search rules) (search rules) (search rules) _ (search rules)

pub returns-then-index-used-clause-some : goal.returns-then-index-used-clause-some
returns-then-index-used-clause-some c =
    sets_shown c.self.inside.places c.hold.new.self c.self.inside.first c.args.bytes.now (search rules) (search rules)
    (search rules) (search rules) _ (search rules)

pub invariant_of-self-then-has_room : goal.invariant_of-self-then-has_room
invariant_of-self-then-has_room c = adds_pool c.self.inside.places c.push.new.self c.self.inside.first c.args.bytes.now
    (search rules) (search rules) (search rules) (search rules) (search rules)

pub returns-then-has_room-clause-some : goal.returns-then-has_room-clause-some
returns-then-has_room-clause-some c =
    adds_shown c.self.inside.places c.push.new.self c.self.inside.first c.args.bytes.now (search rules) (search rules)
    (search rules) (search rules) _ _ (search rules) (search rules)

pub returns-then-index-used-clause-full : goal.returns-then-index-used-clause-full
returns-then-index-used-clause-full c = put_not_full _ _ _ _ (returns-then-index-used-clause-some c)

pub returns-then-has_room-clause-full : goal.returns-then-has_room-clause-full
returns-then-has_room-clause-full c = put_not_full _ _ _ _ (returns-then-has_room-clause-some c)

pub returns-clause-full : goal.returns-clause-full
returns-clause-full c =
    none_full c.self.inside.places.values c.self.inside.places.capacity c.self.inside.first c.args.self.now
    (search rules) (search rules) (search rules) (search rules)
