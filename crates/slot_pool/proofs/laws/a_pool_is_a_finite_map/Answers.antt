use Rattle.slot_pool.proofs.Map.{map-fresh, get-used, get-unused, map-puts, map-keep, map-end, map-free}
use Rattle.slot_pool.proofs.laws.a_pool_is_a_finite_map.Goals as goal

pub returns-clause-fresh : goal.returns-clause-fresh
returns-clause-fresh c = map-fresh

pub returns-clause-used : goal.returns-clause-used
returns-clause-used c = get-used

pub returns-clause-unused : goal.returns-clause-unused
returns-clause-unused c = get-unused

pub returns-clause-put : goal.returns-clause-put
returns-clause-put c = map-puts

pub returns-clause-keep : goal.returns-clause-keep
returns-clause-keep c = map-keep

pub returns-clause-give_back : goal.returns-clause-give_back
returns-clause-give_back c = map-end

pub returns-clause-last : goal.returns-clause-last
returns-clause-last c = map-free
