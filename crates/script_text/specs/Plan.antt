-- The parts of a plan.
use Rattle.std.specs.Prelude.{ℕ, ◌<◌, ◌≤◌, All, List, length, take, Result}
use Rattle.outside.specs.declared.links.Peer.{Peer}
use Rattle.script_mean.specs.Event.{member_of}
use Rattle.script_mean.specs.NodePlan.{for_each, peers_of}
use Rattle.script_mean.specs.Script.{ScriptFault, ◌>>=◌}
use Rattle.script_mean.specs.declared.plan.NodePlan.{NodePlan}
use Rattle.msg_core.specs.View.{most_members}

-- where each of n members is reached, as the first lines say; `following` is the number of the line after the last
abbrev pub first_peers : ℕ → ℕ → List (ℕ × List ℕ) → Result (List Peer) ScriptFault
first_peers members following lines = peers_of 0 (take members lines) >>= for_each members following

-- a plan whose turns can be run: it has 1 to 32 members, and each turn is of one of them
pub record IsRunnable (plan : NodePlan) : Type 0 where
  pub some_member : 1 ≤ length plan.peers
  pub most_members : length plan.peers ≤ most_members
  pub of_members : All (λ turn. member_of turn.1 < length plan.peers) plan.turns
