use Rattle.slot_pool.proofs.References.{exact-fresh, exact-moved, exact-covers, covers-moved, others-keep, count-most}
use Rattle.slot_pool.proofs.laws.counts_stay_exact.Goals as goal

pub returns-clause-fresh : goal.returns-clause-fresh
returns-clause-fresh c = exact-fresh

pub returns-clause-exact : goal.returns-clause-exact
returns-clause-exact c = exact-moved

pub returns-clause-some : goal.returns-clause-some
returns-clause-some c = exact-covers

pub returns-clause-covers : goal.returns-clause-covers
returns-clause-covers c = covers-moved

pub returns-clause-others : goal.returns-clause-others
returns-clause-others c = others-keep

pub returns-clause-most : goal.returns-clause-most
returns-clause-most c = count-most
