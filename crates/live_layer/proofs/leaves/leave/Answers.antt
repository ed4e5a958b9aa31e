use Rattle.std.proofs.Common.{ap, ◌∙◌}
use Rattle.live_layer.specs.Scope.{with_messages_alone}
use Rattle.live_layer.proofs.leaves.leave.Goals as goal

pub returns-clause-shown : goal.returns-clause-shown
returns-clause-shown g c = c.forget_rest.ensures.shown ∙ ap with_messages_alone c.forget_messages.ensures.shown
