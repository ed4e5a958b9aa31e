use Rattle.library_rows.proofs.Texts.Stable.{spelled}
use Rattle.library_rows.proofs.spelled.spells_stable.Goals as goal

pub returns : goal.returns
returns c = spelled
