use Rattle.script_text.proofs.Whole.{not_ended}
use Rattle.script_text.proofs.words.Words.end.Goals as goal

pub returns-in-Some : goal.returns-in-Some
returns-in-Some c = not_ended _ _ c.in-Some.is
