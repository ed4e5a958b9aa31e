use Rattle.library_rows.proofs.Texts.Pt2ptw.{spelled}
use Rattle.library_rows.proofs.spelled.spells_pt2ptw.Goals as goal

pub returns : goal.returns
returns c = spelled
