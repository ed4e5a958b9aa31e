-- The graph of a stack: which events can follow from which. (That a stack is judged by it is this project's own.)
use Rattle.std.specs.Prelude.{ℕ, zero, suc, ◌+◌, ◌==◌, Bool, false, ◌&&◌, if◌then◌else◌, List, [], ◌∷◌, ◌++◌, map}
use Rattle.std.specs.Prelude.{length, Option, Some, None}
use Rattle.std.specs.List.{find, flat_map, list_any, range_with_len}
use denote.Enum.Bare.{sameb}
use Rattle.layer_words.specs.declared.events.Dir.{Dir}
use Rattle.layer_words.specs.declared.events.Dir.TheVariants.{Up, Down}
use Rattle.layer_words.specs.contracts.events.Dir as dir_row
use Rattle.layer_words.specs.declared.events.Kind.{Kind}
use Rattle.layer_words.specs.contracts.events.Kind as kind_row
use Rattle.layer_words.specs.Spelling.{kinds}
use Rattle.layer_mean.specs.Event.{carries}
use Rattle.layer_mean.specs.Tree.{MessageTree, message, tail, join, ContentTree, EmissionTree, HandlerTree, LayerTree}
use Rattle.layer_mean.specs.Visit.{handler_for}
use Rattle.layer_mean.specs.Queue.{beyond, is_place, layer_at}
use Rattle.stack_mean.specs.Emissions.{Repeated, emissions_in}

-- A node is an event that arrives at a place or an edge of the queue. The tag is that of the first header of its
-- message, a header of the layer above the gap that the event crosses; it is 0 where there is no layer above, and where
-- there is no message.
pub record Node : Type 0 where
  pub at : ℕ
  pub dir : Dir
  pub kind : Kind
  pub tag : ℕ

-- Whether two nodes are the same: place, direction, kind and tag.
abbrev pub same_node : Node → Node → Bool
same_node a b = (a.at == b.at) && (a.tag == b.tag) && sameb dir_row.the_type a.dir b.dir &&
    sameb kind_row.the_type a.kind b.kind

-- The tags that a layer's headers can have: `none` and the declared ones.
abbrev pub tags_of : LayerTree → List ℕ
tags_of layer = range_with_len 0 (length layer.headers + 1)

-- The tags that a message of a kind can have before a layer; an event of another kind has none.
abbrev pub tags_for : Kind → LayerTree → List ℕ
tags_for kind layer = if carries kind then tags_of layer else 0 ∷ []

-- The layer above the gap that an event crosses on its way to a place.
abbrev pub header_layer : List LayerTree → Dir → ℕ → LayerTree
header_layer stack Up at = layer_at stack at
header_layer stack Down at = layer_at stack (at + 1)

-- The nodes of events of a kind that go to a place in a direction: one for each tag that their messages can have there.
abbrev pub nodes_of : List LayerTree → ℕ → Dir → Kind → List Node
nodes_of stack at dir kind =
    map (λ tag. record { at = at; dir = dir; kind = kind; tag = tag }) (tags_for kind (header_layer stack dir at))

-- All nodes of a stack, from its lower edge to its upper one, and at a place by their kind.
abbrev pub nodes : List LayerTree → List Node
nodes stack = flat_map
    (λ at. flat_map (λ kind. nodes_of stack at Up kind.1 ++ nodes_of stack at Down kind.1) kinds)
    (range_with_len 0 (length stack + 2))

-- Whether a message is the one that a handler was entered with, or has its headers: a tail of it, or a part before
-- it.
abbrev pub keeps_headers : MessageTree → Bool
keeps_headers (message k) = k == 0
keeps_headers (tail m from) = keeps_headers m
keeps_headers (join p m) = keeps_headers m
keeps_headers _ = false

-- Whether a node's message goes down.
abbrev pub goes_down : Dir → Kind → Bool
goes_down Up kind = false
goes_down Down kind = carries kind

-- The tags that an emitted message can have: going down, the one with which it is sent; going up, the one with which it
-- came down, if it keeps those headers, and else each tag of the layer above.
abbrev pub content_tags : List LayerTree → Node → Dir → ContentTree → List ℕ
content_tags stack node Down c = c.tag ∷ []
content_tags stack node Up c =
    if goes_down node.dir node.kind && keeps_headers c.message then node.tag ∷
    [] else tags_of (layer_at stack (node.at + 1))

-- The tags that the message of an emission can have; an event without one has tag 0.
abbrev pub emission_tags : List LayerTree → Node → EmissionTree → Option ContentTree → List ℕ
emission_tags stack node e None = 0 ∷ []
emission_tags stack node e (Some c) = content_tags stack node e.direction c

-- An arrow of the graph: one of the nodes `targets` follows, at most `times` times.
pub record Arrow : Type 0 where
  pub times : ℕ
  pub targets : List Node

-- The arrow to the neighbour in a direction, for an event of a kind with one of these tags.
abbrev pub arrow_to : ℕ → Node → Dir → Kind → List ℕ → Arrow
arrow_to times node dir kind tags =
    record {
      times = times;
      targets = map (λ tag. record { at = beyond dir node.at; dir = dir; kind = kind; tag = tag })
          tags;
    }

-- The arrow of an emission, which is done at most so many times.
abbrev pub emission_arrow : List LayerTree → Node → Repeated → Arrow
emission_arrow stack node x =
    arrow_to x.times node x.emission.direction x.emission.kind (emission_tags stack node x.emission x.emission.content)

-- A missing handler passes an event on once: down after `none`, and up after any header of the layer above. A message
-- that comes up after a header other than `none` is dropped.
abbrev pub passing : List LayerTree → Node → Dir → List Arrow
passing stack node Down = arrow_to 1 node Down node.kind (0 ∷ []) ∷ []
passing stack node Up = if node.tag == 0
    then arrow_to 1 node Up node.kind (tags_for node.kind (layer_at stack (node.at + 1))) ∷ []
    else []

-- The tag of the header that is popped on arrival; going down, none is popped.
abbrev pub popped_tag : Node → Dir → ℕ
popped_tag node Up = node.tag
popped_tag node Down = 0

-- The handler that a node at a place enters, if its layer has one.
abbrev pub entered_handler : List LayerTree → Node → Option HandlerTree
entered_handler stack node = handler_for (layer_at stack node.at) node.dir node.kind (popped_tag node node.dir)

-- The arrows from a node that enters this handler: one for each emission; where there is none, the event passes on.
abbrev pub handler_arrows : List LayerTree → Node → Option HandlerTree → List Arrow
handler_arrows stack node None = passing stack node node.dir
handler_arrows stack node (Some h) = map (emission_arrow stack node) (emissions_in 1 h.block)

-- The arrows from a node: an edge has none.
abbrev pub arrows : List LayerTree → Node → List Arrow
arrows stack node =
    if is_place (length stack) node.at then handler_arrows stack node (entered_handler stack node) else []

-- The nodes that can follow a node at once.
abbrev pub following : List LayerTree → Node → List Node
following stack node = flat_map (λ arrow. arrow.targets) (arrows stack node)

-- Nodes without those that are known already, each once.
abbrev pub unknown_of : List Node → List Node → List Node
unknown_of known [] = []
unknown_of known (x ∷ xs) = if list_any (same_node x) known then unknown_of known xs else x ∷ unknown_of (x ∷ known) xs

-- The nodes to which arrows lead: those that are known, the new ones, and in n steps all that follow from these.
abbrev pub reached_nodes : ℕ → List LayerTree → List Node → List Node → List Node
reached_nodes steps stack known [] = known
reached_nodes zero stack known new = known ++ new
reached_nodes (suc steps) stack known (x ∷ xs) = let all = known ++ x ∷ xs in
    reached_nodes steps stack all (unknown_of all (flat_map (following stack) (x ∷ xs)))

-- A node lies on a cycle where arrows lead from it to itself.
abbrev pub is_on_cycle : List LayerTree → Node → Bool
is_on_cycle stack node =
    list_any (same_node node) (reached_nodes (length (nodes stack)) stack [] (unknown_of [] (following stack node)))

-- The first node on a cycle, by place and kind.
abbrev pub first_on_cycle : List LayerTree → Option Node
first_on_cycle stack = find (is_on_cycle stack) (nodes stack)
