use Rattle.library_rows.proofs.Texts.Frag.{spelled}
use Rattle.library_rows.proofs.spelled.spells_frag.Goals as goal

pub returns : goal.returns
returns c = spelled
