-- Searches as the code keeps them.
use Rattle.std.specs.Prelude.{ℕ, Bool, List}
use Rattle.stack_mean.specs.Graph.{Node}
use Rattle.weight_laws.specs.Tables.{Vertex, node_number}
use Rattle.weight_laws.specs.Search as search
use Rattle.weight_laws.specs.Search.{is_seen, search_after, search_from}
use Rattle.stack_judge.specs.declared.search.Search.{Search}

abbrev pub search_tree : Search → search.Search
search_tree s = record { seen = s.seen.items; last = s.last.items }

-- Whether a search from a node sees the node itself in `most` rounds.
abbrev pub meets_itself : List Vertex → ℕ → Node → Bool
meets_itself vertices most n = is_seen (search_after vertices most (search_from vertices (node_number n)))
    (node_number n)
