use Rattle.library_rows.proofs.Texts.Suspect.{spelled}
use Rattle.library_rows.proofs.spelled.spells_suspect.Goals as goal

pub returns : goal.returns
returns c = spelled
