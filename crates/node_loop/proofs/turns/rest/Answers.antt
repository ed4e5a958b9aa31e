use Rattle.std.proofs.Common.{refl}
use Rattle.node_loop.proofs.Quiet.{stuck_fails}
use Rattle.node_loop.proofs.turns.rest.Goals as goal

pub returns-then-not-hand_on-clause-rested : goal.returns-then-not-hand_on-clause-rested
returns-then-not-hand_on-clause-rested g c = record {
  fails = stuck_fails _ _ c.if-not-hand_on.ensures;
  unasked = record { faults = refl; sends = refl; told = refl };
}
