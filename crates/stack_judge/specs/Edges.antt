-- Nodes and arrows as the code keeps them.
use Rattle.std.specs.Prelude.{List}
use Rattle.std.specs.List.{range_with_len}
use Rattle.layer_mean.specs.Tree.{LayerTree}
use Rattle.stack_mean.specs.Emissions.{Repeated}
use Rattle.stack_mean.specs.Graph as graph
use Rattle.stack_mean.specs.Graph.{emission_arrow}
use Rattle.weight_laws.specs.Tables as table
use Rattle.weight_laws.specs.Tables.{edge_of}
use Rattle.stack_judge.specs.declared.edges.Edge.{Edge}
use Rattle.stack_judge.specs.declared.edges.Node.{Node}

abbrev pub node_tree : Node → graph.Node
node_tree n = record { at = n.at; dir = n.dir; kind = n.kind; tag = n.tag }

-- The targets of an edge have neighbouring numbers.
abbrev pub edge_tree : Edge → table.Edge
edge_tree e = record { times = e.times; targets = range_with_len e.first e.count }

-- The edge of an emission.
abbrev pub emission_edge : List LayerTree → graph.Node → Repeated → table.Edge
emission_edge stack node x = edge_of (emission_arrow stack node x)
