use Rattle.library_rows.proofs.Texts.Bottom.{spelled}
use Rattle.library_rows.proofs.spelled.spells_bottom.Goals as goal

pub returns : goal.returns
returns c = spelled
