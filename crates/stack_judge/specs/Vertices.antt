-- Vertices as the code keeps them, and the nodes of a place.
use Rattle.std.specs.Prelude.{ℕ, List, [], ◌∷◌, ◌++◌, map}
use Rattle.std.specs.List.{flat_map}
use Rattle.layer_words.specs.declared.events.Dir.{Dir}
use Rattle.layer_words.specs.declared.events.Kind.{Kind}
use Rattle.layer_words.specs.declared.events.Dir.TheVariants.{Up, Down}
use Rattle.layer_words.specs.Spelling.{kinds}
use Rattle.layer_mean.specs.Tree.{LayerTree}
use Rattle.stack_mean.specs.Graph as graph
use Rattle.stack_mean.specs.Graph.{nodes_of}
use Rattle.weight_laws.specs.Tables as table
use Rattle.stack_judge.specs.declared.table.Vertex.{Vertex}
use Rattle.stack_judge.specs.declared.table.Edges.{Edges}
use Rattle.stack_judge.specs.declared.table.Edges.TheVariants.{Nowhere, Passed, Emitted}
use Rattle.stack_judge.specs.Edges.{edge_tree}

abbrev pub edges_tree : Edges → List table.Edge
edges_tree Nowhere = []
edges_tree (Passed edge) = edge_tree edge ∷ []
edges_tree (Emitted edges) = map edge_tree edges.items

abbrev pub vertex_tree : Vertex → table.Vertex
vertex_tree v = record { joins = v.joins; edges = edges_tree v.edges }

-- The node of an event of a direction and a kind at a place, by its tag.
abbrev pub node_at : ℕ → Dir → Kind → ℕ → graph.Node
node_at at dir kind tag = record { at = at; dir = dir; kind = kind; tag = tag }

-- The nodes of a place and a kind, and of a place.
abbrev pub nodes_of_kind : List LayerTree → ℕ → Kind → List graph.Node
nodes_of_kind stack at kind = nodes_of stack at Up kind ++ nodes_of stack at Down kind

abbrev pub nodes_at : List LayerTree → ℕ → List graph.Node
nodes_at stack at = flat_map (λ kind. nodes_of stack at Up kind.1 ++ nodes_of stack at Down kind.1) kinds
