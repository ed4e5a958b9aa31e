-- An entry is no heavier than the heaviest, which is within the limit.
use Rattle.std.proofs.Common.{◌≡◌, ◌≤◌, Bool, true, false, nat_lt, ltb-false, List, map, Option, Some, None, Ok, Err}
use Rattle.std.proofs.Common.{refl, arith}
use Rattle.std.specs.Prelude.{if◌then◌else◌}
use Rattle.layer_mean.specs.Tree.{LayerTree}
use Rattle.stack_mean.specs.Graph.{Node, first_on_cycle}
use Rattle.stack_mean.specs.Acceptance.{weight, most_joins, entries, largest_weight, largest_joins, weight_limit}
use Rattle.stack_mean.specs.Acceptance.{joins_limit, Refusal, without_cycle, acceptance}
use Rattle.weight_laws.specs.Nodes.{task_node}
use Rattle.weight_laws.proofs.Members.{In, in_map}
use Rattle.weight_laws.proofs.Runs.{entering}
use Rattle.weight_laws.proofs.Visits.{at_most_largest}
use Rattle.chain_laws.proofs.Orderly.{chained_is_known}
use Rattle.stack_queue.specs.Laws.{EntriesFit, StacksFit}

pub entries_fit : EntriesFit
entries_fit stack first chained enters =
    let node = task_node first in
    let there : In node (entries stack) = entering stack first.at first.dir first.event.kind node.tag enters
    (chained_is_known stack first chained).tag in
    record {
      weight = at_most_largest (weight stack node) (map (weight stack) (entries stack))
          (in_map (weight stack) node (entries stack) there);
      joins = at_most_largest (most_joins stack node) (map (most_joins stack) (entries stack))
          (in_map (most_joins stack) node (entries stack) there);
    }

-- an accepted stack is within the limit
within_limit : (stack : List LayerTree) → acceptance stack ≡ Ok stack → largest_weight stack ≤ weight_limit
within_limit stack h = go (first_on_cycle stack) h where
  judged : (b c : Bool) (x y : Refusal) → (if b then Err x else if c then Err y else Ok stack) ≡ Ok stack → b ≡ false
  judged true c x y e = absurd (cc e)
  judged false c x y e = refl

  go : (o : Option Node) → without_cycle stack o ≡ Ok stack → largest_weight stack ≤ weight_limit
  go (Some node) e = absurd (cc e)
  go None e = ltb-false weight_limit (largest_weight stack)
      (judged (nat_lt weight_limit (largest_weight stack)) (nat_lt joins_limit (largest_joins stack)) _ _ e)

pub stacks_fit : StacksFit
stacks_fit stack h = let light : largest_weight stack ≤ weight_limit = within_limit stack h in omega (arith, light)
