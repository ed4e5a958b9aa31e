use Rattle.library_rows.proofs.Texts.Collect.{spelled}
use Rattle.library_rows.proofs.spelled.spells_collect.Goals as goal

pub returns : goal.returns
returns c = spelled
