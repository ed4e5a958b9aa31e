-- A search over a table, in rounds: what is reached from a node.
use Rattle.std.specs.Prelude.{◌≡◌, ℕ, zero, suc, ◌≤◌, Bool, true, false, if◌then◌else◌, List, [], ◌∷◌, ◌++◌, length}
use Rattle.std.specs.Prelude.{replicate, slice_index_or, slice_set, fold}
use Rattle.layer_mean.specs.Tree.{LayerTree}
use Rattle.stack_mean.specs.Graph.{Node, nodes, is_on_cycle}
use Rattle.weight_laws.specs.Nodes.{IsNode}
use Rattle.weight_laws.specs.Orderly.{IsOrderly}
use Rattle.weight_laws.specs.Tables.{HasFewHeaders, node_number, Edge, Vertex, vertex_at, IsTable}

-- Which numbers were seen, and those that were seen last, in order.
pub record Search : Type 0 where
  pub seen : List Bool
  pub last : List ℕ

-- Whether a number was seen; one outside the table is never looked for.
abbrev pub is_seen : Search → ℕ → Bool
is_seen s x = slice_index_or s.seen x true

-- A number that is met: it is seen now, if it wasn't before.
abbrev pub see : Search → ℕ → Search
see s x = if is_seen s x then s else record { seen = slice_set s.seen x true; last = s.last ++ x ∷ [] }

-- The targets of an edge, of the edges of a number, and of the edges of some numbers.
abbrev pub see_targets : Search → Edge → Search
see_targets s edge = fold see s edge.targets

abbrev pub see_vertex : List Vertex → Search → ℕ → Search
see_vertex vertices s x = fold see_targets s (vertex_at vertices x).edges

abbrev pub see_after : List Vertex → Search → List ℕ → Search
see_after vertices s xs = fold (see_vertex vertices) s xs

-- A round: what follows from the numbers that were seen last.
abbrev pub search_round : List Vertex → Search → Search
search_round vertices s = see_after vertices (record { seen = s.seen; last = [] }) s.last

-- A search after n rounds.
abbrev pub search_after : List Vertex → ℕ → Search → Search
search_after vertices zero s = s
search_after vertices (suc k) s = search_round vertices (search_after vertices k s)

-- A search that has seen what follows directly from a number.
abbrev pub search_from : List Vertex → ℕ → Search
search_from vertices x = see_vertex vertices (record { seen = replicate (length vertices) false; last = [] }) x

-- In as many rounds as there are nodes a search from a node sees the node itself exactly where it lies on a cycle.
abbrev pub SearchTellsCycles : Type 0
SearchTellsCycles = (stack : List LayerTree) (vertices : List Vertex) (n : Node) →
    IsOrderly stack → HasFewHeaders stack → IsTable stack vertices → IsNode stack n →
    is_seen (search_after vertices (length (nodes stack)) (search_from vertices (node_number n))) (node_number n) ≡
    is_on_cycle stack n

-- Once nothing was seen last, no further round sees anything.
abbrev pub SearchSettles : Type 0
SearchSettles = (vertices : List Vertex) (k m : ℕ) (s : Search) → k ≤ m → (search_after vertices k s).last ≡ [] →
    search_after vertices m s ≡ search_after vertices k s
