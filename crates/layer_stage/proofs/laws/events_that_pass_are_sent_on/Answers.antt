use Rattle.layer_stage.proofs.Passed.{passes_on}
use Rattle.layer_stage.proofs.laws.events_that_pass_are_sent_on.Goals as goal

pub returns : goal.returns
returns c = λ place layer s p dir event passes. passes_on place s layer p dir event passes
