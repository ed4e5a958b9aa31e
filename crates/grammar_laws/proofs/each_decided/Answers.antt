use Rattle.grammar_laws.proofs.Texts.{each_decided}
use Rattle.grammar_laws.proofs.each_decided.Goals as goal

pub returns : goal.returns
returns c = each_decided
