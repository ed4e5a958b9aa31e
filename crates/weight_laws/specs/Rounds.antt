-- The costs of all nodes in rounds over a table, held within 32 bits.
use Rattle.std.specs.Prelude.{◌≡◌, ℕ, zero, suc, ◌+◌, ◌*◌, ◌<◌, ◌≤◌, nat_lt, List, map, length, slice_index, fold}
use Rattle.layer_mean.specs.Tree.{LayerTree}
use Rattle.stack_mean.specs.Graph.{Node, nodes}
use Rattle.stack_mean.specs.Acceptance.{largest, cost_in, entries, largest_weight, largest_joins, held_at_most}
use Rattle.weight_laws.specs.Nodes.{IsNode}
use Rattle.weight_laws.specs.Orderly.{IsOrderly}
use Rattle.weight_laws.specs.Tables.{node_number, Edge, Vertex, vertex_of, IsTable}

-- A sum with the cost of an edge: the largest cost of its targets, as many times as the edge stands.
abbrev pub with_edge : List ℕ → ℕ → Edge → ℕ
with_edge costs sum edge = held_at_most (sum + edge.times * largest (map (slice_index costs) edge.targets))

-- The cost of a vertex over the costs of the round before, and those of all vertices.
abbrev pub vertex_cost : (Vertex → ℕ) → List ℕ → Vertex → ℕ
vertex_cost own costs vertex = fold (with_edge costs) (own vertex) vertex.edges

abbrev pub round : (Vertex → ℕ) → List Vertex → List ℕ → List ℕ
round own vertices costs = map (vertex_cost own costs) vertices

-- The costs after n rounds; at first each vertex costs its own.
abbrev pub rounds : (Vertex → ℕ) → List Vertex → ℕ → List ℕ
rounds own vertices zero = map own vertices
rounds own vertices (suc k) = round own vertices (rounds own vertices k)

-- What a vertex costs of its own: a task, or the joins of its handler.
abbrev pub one_task : Vertex → ℕ
one_task vertex = 1

abbrev pub joins_of_vertex : Vertex → ℕ
joins_of_vertex vertex = vertex.joins

-- The costs after `k` rounds are those that the definition has in `k` steps, held within 32 bits.
abbrev pub RoundsAreCosts : Type 0
RoundsAreCosts = (stack : List LayerTree) (vertices : List Vertex) (own : Vertex → ℕ) (own_cost : Node → ℕ) (k : ℕ)
    (n : Node) →
    IsOrderly stack → IsTable stack vertices → ((m : Node) → own (vertex_of stack m) ≡ held_at_most (own_cost m)) →
    IsNode stack n →
    slice_index (rounds own vertices k) (node_number n) ≡ held_at_most (cost_in k stack own_cost n)

-- The largest cost of the entries.
abbrev pub largest_entry : List LayerTree → List ℕ → ℕ
largest_entry stack costs = largest (map (λ n. slice_index costs (node_number n)) (entries stack))

-- So a stack's weight and its joins stand in the tables after as many rounds as it has nodes.
abbrev pub LargestInRounds : Type 0
LargestInRounds = (stack : List LayerTree) (vertices : List Vertex) → IsOrderly stack → IsTable stack vertices →
    (largest_entry stack (rounds one_task vertices (length (nodes stack))) ≡ held_at_most (largest_weight stack)) ×
    (largest_entry stack (rounds joins_of_vertex vertices (length (nodes stack))) ≡ held_at_most (largest_joins stack))

-- A number passes a limit that 32 bits hold exactly where the number as it is held passes it.
abbrev pub HeldIsJudged : Type 0
HeldIsJudged = (limit n : ℕ) → limit < 4294967295 → nat_lt limit (held_at_most n) ≡ nat_lt limit n

-- Once a round changes nothing, no further one does.
abbrev pub RoundsSettle : Type 0
RoundsSettle = (own : Vertex → ℕ) (vertices : List Vertex) (k m : ℕ) → k ≤ m →
    rounds own vertices (suc k) ≡ rounds own vertices k → rounds own vertices m ≡ rounds own vertices k
