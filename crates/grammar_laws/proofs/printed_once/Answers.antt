use Rattle.grammar_laws.proofs.Once.{printed_once}
use Rattle.grammar_laws.proofs.printed_once.Goals as goal

pub returns : goal.returns
returns c = printed_once
