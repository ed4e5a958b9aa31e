use Rattle.shape_laws.proofs.Watch.{watches_the_first_case}
use Rattle.shape_laws.proofs.watches_the_first_case.Goals as goal

pub returns : goal.returns
returns c = watches_the_first_case
