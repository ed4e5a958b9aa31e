use Rattle.pool_laws.proofs.Rows.{fresh_are_within}
use Rattle.pool_laws.proofs.Counts.{runs_keep_counts, runs_stay_within}
use Rattle.pool_laws.proofs.states_stay_within.Goals as goal

pub returns-clause-fresh : goal.returns-clause-fresh
returns-clause-fresh c = fresh_are_within

pub returns-clause-run : goal.returns-clause-run
returns-clause-run c = runs_stay_within

pub returns-clause-same : goal.returns-clause-same
returns-clause-same c = runs_keep_counts
