-- Costs that a further round doesn't change.
use Rattle.std.specs.Prelude.{ℕ, nat_eq, nat_lt, Bool, ◌&&◌, List, slice_index}
use Rattle.std.specs.List.{list_all}
use Rattle.stack_mean.specs.Graph.{Node}
use Rattle.weight_laws.specs.Tables.{Edge, Vertex, node_number, vertex_at}
use Rattle.weight_laws.specs.Rounds.{vertex_cost}

-- Whether a round doesn't change the cost of a node.
abbrev pub is_steady_at : (Vertex → ℕ) → List Vertex → List ℕ → Node → Bool
is_steady_at own vertices costs n =
    nat_eq (slice_index costs (node_number n)) (vertex_cost own costs (vertex_at vertices (node_number n)))

-- Whether an edge stands for at least one time.
abbrev pub is_often : Edge → Bool
is_often edge = nat_lt 0 edge.times

-- Whether a node's cost is below what 32 bits hold, and each of its edges stands for at least one time: then steady
-- costs fall along them.
abbrev pub falls_at : List Vertex → List ℕ → Node → Bool
falls_at vertices costs n =
    nat_lt (slice_index costs (node_number n)) 4294967295 &&
    list_all is_often (vertex_at vertices (node_number n)).edges
