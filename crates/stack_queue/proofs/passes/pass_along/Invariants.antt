use Rattle.std.proofs.Common.{◌≡◌, [], ◌∷◌, length}
use Rattle.stack_queue.specs.Passing.{Continues, standing_at, layers_ahead}
use Rattle.stack_queue.proofs.passes.pass_along.Given as goal

abbrev pub invariant-loop-direction : goal.invariant-loop-direction
invariant-loop-direction g l =
    Continues g.S.Stage.place g.S.Stage.layer g.S.Stage.refs g.S.Stage.ready g.S.Stage.state g.S.Stage.taken
    l.fn.stages (standing_at l.fn.at l.fn.sent ∷ []) l.fn.visits l.stages (standing_at l.here l.sent ∷ []) l.visits
    × (l.sent.0 ≡ l.direction)

abbrev pub decreases-loop-direction : goal.decreases-loop-direction
decreases-loop-direction g l = layers_ahead l.direction (length l.stages) l.here
