-- What a node costs where no node lies on a cycle.
use Rattle.std.specs.Prelude.{◌≡◌, ℕ, ◌+◌, ◌*◌, List, map, None}
use Rattle.std.specs.List.{sum_by}
use Rattle.layer_mean.specs.Tree.{LayerTree}
use Rattle.stack_mean.specs.Graph.{Node, Arrow, arrows, first_on_cycle}
use Rattle.stack_mean.specs.Acceptance.{largest, cost}
use Rattle.weight_laws.specs.Nodes.{IsNode}
use Rattle.weight_laws.specs.Orderly.{IsOrderly}

-- What some arrows cost, given what each node costs: for each arrow, the largest cost of its targets, as many times as
-- the arrow stands.
abbrev pub after_arrows : (Node → ℕ) → List Arrow → ℕ
after_arrows f = sum_by (λ arrow. arrow.times * largest (map f arrow.targets))

-- Where no node of a stack lies on a cycle, a node costs its own and what its arrows cost.
abbrev pub CostsFollowArrows : Type 0
CostsFollowArrows = (stack : List LayerTree) (own : Node → ℕ) (node : Node) →
    IsOrderly stack → first_on_cycle stack ≡ None → IsNode stack node →
    cost stack own node ≡ own node + after_arrows (cost stack own) (arrows stack node)
