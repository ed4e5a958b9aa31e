use Rattle.std.proofs.Common.{vec_len}
use Rattle.group_member.proofs.Making.{Left}
use Rattle.group_member.proofs.opens.close_layers.Given as goal

abbrev pub invariant-loop-layer : goal.invariant-loop-layer
invariant-loop-layer l = Left l.pool l.layers.items

abbrev pub decreases-loop-layer : goal.decreases-loop-layer
decreases-loop-layer l = vec_len l.layers
