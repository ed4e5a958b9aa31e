use Rattle.library_rows.proofs.Texts.Mnak.{spelled}
use Rattle.library_rows.proofs.spelled.spells_mnak.Goals as goal

pub returns : goal.returns
returns c = spelled
