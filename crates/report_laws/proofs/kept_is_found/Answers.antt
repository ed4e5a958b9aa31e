use Rattle.report_laws.proofs.ReadsBack.{kept_is_found}
use Rattle.report_laws.proofs.kept_is_found.Goals as goal

pub returns : goal.returns
returns c = kept_is_found
