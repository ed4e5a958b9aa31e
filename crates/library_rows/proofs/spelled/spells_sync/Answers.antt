use Rattle.library_rows.proofs.Texts.Sync.{spelled}
use Rattle.library_rows.proofs.spelled.spells_sync.Goals as goal

pub returns : goal.returns
returns c = spelled
