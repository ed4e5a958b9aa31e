use Rattle.slot_pool.proofs.References.{spare-fresh, puts-spare, keep-spare, end-spare, spare-full, full-spare}
use Rattle.slot_pool.proofs.References.{slots-shared, not-full}
use Rattle.slot_pool.proofs.laws.slots_suffice.Goals as goal

pub returns-clause-fresh : goal.returns-clause-fresh
returns-clause-fresh c = spare-fresh

pub returns-clause-put : goal.returns-clause-put
returns-clause-put c = puts-spare

pub returns-clause-keep : goal.returns-clause-keep
returns-clause-keep c = keep-spare

pub returns-clause-give_back : goal.returns-clause-give_back
returns-clause-give_back c = end-spare

pub returns-clause-full : goal.returns-clause-full
returns-clause-full c = spare-full

pub returns-clause-none_left : goal.returns-clause-none_left
returns-clause-none_left c = full-spare

pub returns-clause-shared : goal.returns-clause-shared
returns-clause-shared c = slots-shared

pub returns-clause-not_full : goal.returns-clause-not_full
returns-clause-not_full c = not-full
