use Rattle.library_rows.proofs.Texts.Elect.{spelled}
use Rattle.library_rows.proofs.spelled.spells_elect.Goals as goal

pub returns : goal.returns
returns c = spelled
