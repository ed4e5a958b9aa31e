use Rattle.format_mean.proofs.Cutting.{keeps_tokens}
use Rattle.format_mean.proofs.keeps_tokens.Goals as goal

pub returns : goal.returns
returns c = keeps_tokens
