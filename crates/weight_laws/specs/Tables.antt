-- The nodes of a stack as numbers, and a table of what follows from each: the form in which a stack can be judged.
use Rattle.std.specs.Prelude.{◌≡◌, ℕ, ◌+◌, ◌*◌, ◌<◌, ◌≤◌, List, [], map, length, replicate, slice_index_or, slice_set}
use Rattle.std.specs.Prelude.{fold}
use Rattle.std.specs.List.{AllByRecursion}
use denote.Enum.Declared.{tag_of}
use Rattle.layer_words.specs.contracts.events.Dir as dir_row
use Rattle.layer_words.specs.contracts.events.Kind as kind_row
use Rattle.layer_mean.specs.Tree.{LayerTree}
use Rattle.stack_mean.specs.Graph.{Node, Arrow, arrows, nodes}
use Rattle.stack_mean.specs.Acceptance.{own_joins, held_at_most}
use Rattle.weight_laws.specs.Nodes.{IsNode}
use Rattle.msg_core.specs.Headers.{most_declared}

-- The number of a node: by place, direction, kind and tag. A layer has at most seven headers, so tags are below 8.
abbrev pub node_number : Node → ℕ
node_number n = ((n.at * 2 + tag_of dir_row.the_type n.dir) * 12 + tag_of kind_row.the_type n.kind) * 8 + n.tag

-- Each layer of a stack has at most seven headers.
abbrev pub HasFewHeaders : List LayerTree → Type 0
HasFewHeaders stack = AllByRecursion (λ layer. length layer.headers ≤ most_declared) stack

-- How many numbers the nodes of a stack with `places` places can have.
abbrev pub numbers_for : ℕ → ℕ
numbers_for places = (places + 2) * 192

-- Nodes of such a stack have numbers below these, and different ones.
abbrev pub NumbersFit : Type 0
NumbersFit = (stack : List LayerTree) (n : Node) → HasFewHeaders stack → IsNode stack n →
    node_number n < numbers_for (length stack)

abbrev pub NumbersDiffer : Type 0
NumbersDiffer = (stack : List LayerTree) (m n : Node) → HasFewHeaders stack → IsNode stack m → IsNode stack n →
    node_number m ≡ node_number n → m ≡ n

-- An arrow by numbers, its number of times held within 32 bits.
pub record Edge : Type 0 where
  pub times : ℕ
  pub targets : List ℕ

-- The joins of a node's handler, held within 32 bits, and its arrows.
pub record Vertex : Type 0 where
  pub joins : ℕ
  pub edges : List Edge

abbrev pub no_vertex : Vertex
no_vertex = record { joins = 0; edges = [] }

abbrev pub edge_of : Arrow → Edge
edge_of arrow = record { times = held_at_most arrow.times; targets = map node_number arrow.targets }

abbrev pub vertex_of : List LayerTree → Node → Vertex
vertex_of stack n = record { joins = held_at_most (own_joins stack n); edges = map edge_of (arrows stack n) }

-- The vertex with a number.
abbrev pub vertex_at : List Vertex → ℕ → Vertex
vertex_at vertices number = slice_index_or vertices number no_vertex

-- A table has the vertex of each node of a stack at the node's number. What stands at numbers of no node plays no part.
pub record IsTable (stack : List LayerTree) (vertices : List Vertex) : Type 0 where
  pub covers : (n : Node) → IsNode stack n → node_number n < length vertices
  pub tells : (n : Node) → IsNode stack n → vertex_at vertices (node_number n) ≡ vertex_of stack n

-- A table is made by putting the vertex of each node in its place.
abbrev pub with_node : List LayerTree → List Vertex → Node → List Vertex
with_node stack vertices n = slice_set vertices (node_number n) (vertex_of stack n)

abbrev pub empty_table : ℕ → List Vertex
empty_table places = replicate (numbers_for places) no_vertex

abbrev pub table_of : List LayerTree → List Vertex
table_of stack = fold (with_node stack) (empty_table (length stack)) (nodes stack)

abbrev pub TablesTell : Type 0
TablesTell = (stack : List LayerTree) → HasFewHeaders stack → IsTable stack (table_of stack)
