use Rattle.slot_pool.proofs.Map.{map-same, shows_used-fresh, shows_used-puts, shows_used-keep, shows_used-end}
use Rattle.slot_pool.proofs.laws.a_map_is_of_one_pool.Goals as goal

pub returns-clause-same : goal.returns-clause-same
returns-clause-same c = map-same

pub returns-clause-fresh : goal.returns-clause-fresh
returns-clause-fresh c = shows_used-fresh

pub returns-clause-put : goal.returns-clause-put
returns-clause-put c = shows_used-puts

pub returns-clause-keep : goal.returns-clause-keep
returns-clause-keep c = shows_used-keep

pub returns-clause-give_back : goal.returns-clause-give_back
returns-clause-give_back c = shows_used-end
