use Rattle.library_rows.proofs.Texts.Top.{spelled}
use Rattle.library_rows.proofs.spelled.spells_top.Goals as goal

pub returns : goal.returns
returns c = spelled
