-- The members of a node keep their states and messages chained, whatever its network and its clock gave.
use Rattle.std.specs.Prelude.{ℕ, ◌≤◌, List, length}
use Rattle.std.specs.List.{AllByRecursion}
use Rattle.layer_mean.specs.Tree.{LayerTree}
use Rattle.msg_core.specs.View.{most_members}
use Rattle.packet_mean.specs.ChainedState.{IsNumber}
use Rattle.packet_mean.specs.Spelling.{AreBytes}
use Rattle.stack_mean.specs.Plans.{plans_of}
use Rattle.script_mean.specs.declared.plan.NodePlan.{NodePlan}
use Rattle.run_mean.specs.Journal.{Heard, datagram, silence, failure, notes_of, node_run}
use Rattle.chain_laws.specs.Runs.{TypedStack}
use Rattle.member_laws.specs.Members.{IsGivenEvent, IsChainedMoment}

-- What a network gave is made of bytes.
abbrev pub IsHeard : Heard → Type 0
IsHeard (datagram bytes) = AreBytes bytes
IsHeard silence = Unit {0}
IsHeard failure = Unit {0}

-- A plan, the moments of a clock and what members heard are made of bytes and numbers, of members as many as there may
-- be.
pub record IsGivenNode (plan : NodePlan) (clock : List ℕ) (heard : List Heard) : Type 0 where
  pub group : IsNumber plan.group
  pub stamp : IsNumber plan.stamp
  pub members : length plan.peers ≤ most_members
  pub turns : AllByRecursion (λ turn. IsGivenEvent turn.1) plan.turns
  pub moments : AllByRecursion IsNumber clock
  pub answers : AllByRecursion IsHeard heard

-- So the world of a node is chained before each event of its journal and after it.
abbrev pub NodesAreChained : Type 0
NodesAreChained = (stack : List LayerTree) (plan : NodePlan) (me : List ℕ) (turns patience : ℕ) (clock : List ℕ)
    (heard : List Heard) →
    TypedStack stack → IsGivenNode plan clock heard →
    AllByRecursion (IsChainedMoment stack)
    (node_run stack (plans_of stack) plan (notes_of plan me turns patience clock heard))
