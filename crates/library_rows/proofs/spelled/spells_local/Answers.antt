use Rattle.library_rows.proofs.Texts.Local.{spelled}
use Rattle.library_rows.proofs.spelled.spells_local.Goals as goal

pub returns : goal.returns
returns c = spelled
