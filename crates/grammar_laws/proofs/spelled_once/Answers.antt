use Rattle.grammar_laws.proofs.Once.{spelled_once}
use Rattle.grammar_laws.proofs.spelled_once.Goals as goal

pub returns : goal.returns
returns c = spelled_once
