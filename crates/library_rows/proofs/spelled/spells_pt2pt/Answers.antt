use Rattle.library_rows.proofs.Texts.Pt2pt.{spelled}
use Rattle.library_rows.proofs.spelled.spells_pt2pt.Goals as goal

pub returns : goal.returns
returns c = spelled
