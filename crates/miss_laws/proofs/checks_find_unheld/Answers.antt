use Rattle.miss_laws.proofs.Checked.{checks_find_unheld}
use Rattle.miss_laws.proofs.checks_find_unheld.Goals as goal

pub returns : goal.returns
returns c = checks_find_unheld
