use Rattle.group_mean.specs.Shown.{shown_mode}
use Rattle.stack_judge.specs.Answer.{stack_tree}
use Rattle.peer_handle.proofs.Opens.{runs}
use Rattle.peer_handle.proofs.opening.make.Goals as goal

pub open-requires-clause-runs : goal.open-requires-clause-runs
open-requires-clause-runs c = runs (shown_mode c.mode_for-mode.result) c.args.order.layers.now
    (stack_tree c.args.stack) c.requires.means
