use Rattle.weight_laws.proofs.Sums.{counts_what_it_joins}
use Rattle.weight_laws.proofs.counts_what_it_joins.Goals as goal

pub returns : goal.returns
returns c = counts_what_it_joins
