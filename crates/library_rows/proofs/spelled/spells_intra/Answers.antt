use Rattle.library_rows.proofs.Texts.Intra.{spelled}
use Rattle.library_rows.proofs.spelled.spells_intra.Goals as goal

pub returns : goal.returns
returns c = spelled
