-- The nodes of a stack, and the node that an event is at its place.
use Rattle.std.specs.Prelude.{◌≡◌, ℕ, ◌+◌, ◌≤◌, ◌==◌, Bool, true, if◌then◌else◌, List, [], ◌∷◌, length, Option, is_some}
use Rattle.std.specs.Option.{option_map_or}
use Rattle.msg_core.specs.Chain.{Content}
use Rattle.msg_core.specs.declared.message.Header.{Header}
use Rattle.layer_words.specs.declared.events.Dir.{Dir}
use Rattle.layer_words.specs.declared.events.Kind.{Kind}
use Rattle.layer_mean.specs.declared.run.Event.{Event}
use Rattle.layer_mean.specs.Event.{carries}
use Rattle.layer_mean.specs.Headers.{header_of_tag}
use Rattle.layer_mean.specs.Tree.{LayerTree}
use Rattle.layer_mean.specs.Queue.{Task}
use Rattle.stack_mean.specs.Graph.{Node, header_layer}

-- Whether an event of a kind can have a tag before a layer: one that the layer declares where the kind carries a
-- message, and else 0.
abbrev pub can_have : Kind → LayerTree → ℕ → Bool
can_have kind layer tag = if carries kind then is_some (header_of_tag layer tag) else tag == 0

-- A node of a stack stands at an edge or between them, and has a tag that the layer above its gap declares.
pub record IsNode (stack : List LayerTree) (node : Node) : Type 0 where
  pub at : node.at ≤ length stack + 1
  pub tag : can_have node.kind (header_layer stack node.dir node.at) node.tag ≡ true

-- The tag of the first of some headers, and of a message that there may be; 0 where there is none.
abbrev pub front_tag : List Header → ℕ
front_tag [] = 0
front_tag (h ∷ hs) = h.tag

abbrev pub message_tag : Option Content → ℕ
message_tag m = option_map_or (λ content. front_tag content.headers) m 0

-- The node of an event that arrives somewhere.
abbrev pub node_of : ℕ → Dir → Event → Node
node_of at dir event = record { at = at; dir = dir; kind = event.kind; tag = message_tag event.message }

abbrev pub task_node : Task Event → Node
task_node t = node_of t.at t.dir t.event

-- A task is known where its event is at one of the nodes of the stack. (So is each whose message is chained for its
-- place.)
abbrev pub IsKnown : List LayerTree → Task Event → Type 0
IsKnown stack t = IsNode stack (task_node t)
