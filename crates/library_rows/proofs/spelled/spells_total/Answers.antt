use Rattle.library_rows.proofs.Texts.Total.{spelled}
use Rattle.library_rows.proofs.spelled.spells_total.Goals as goal

pub returns : goal.returns
returns c = spelled
