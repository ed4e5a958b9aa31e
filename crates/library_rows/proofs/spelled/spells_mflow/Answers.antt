use Rattle.library_rows.proofs.Texts.Mflow.{spelled}
use Rattle.library_rows.proofs.spelled.spells_mflow.Goals as goal

pub returns : goal.returns
returns c = spelled
