-- The node of an entry is one of those that acceptance looks at, and it is that of its first task.
use Rattle.std.proofs.Common.{◌≡◌, ◌∙◌, ℕ, ◌≤◌, Bool, true, false, List, [], ◌∷◌, Option, refl, ap, subst}
use Rattle.std.specs.Prelude.{if◌then◌else◌, slice_index}
use Rattle.msg_core.specs.Chain.{Content}
use Rattle.layer_words.specs.declared.events.Dir.{Dir}
use Rattle.layer_words.specs.declared.events.Dir.TheVariants.{Up, Down}
use Rattle.layer_words.specs.declared.events.Kind.{Kind}
use Rattle.layer_words.specs.declared.events.Kind.TheVariants.{Cast, Send}
use Rattle.layer_mean.specs.declared.run.Event.{Event}
use Rattle.layer_mean.specs.Event.{carries, event_of}
use Rattle.layer_mean.specs.Tree.{LayerTree}
use Rattle.stack_mean.specs.Acceptance.{weight, largest_weight, entries}
use Rattle.stack_mean.specs.Graph.{Node}
use Rattle.stack_mean.specs.Shape.{Known, entry_place}
use Rattle.weight_laws.specs.Nodes.{IsNode, front_tag, message_tag, node_of, task_node}
use Rattle.weight_laws.specs.Runs.{Enters}
use Rattle.weight_laws.proofs.Members.{In, in_map}
use Rattle.weight_laws.proofs.Runs.{entering}
use Rattle.weight_laws.proofs.Visits.{at_most_largest}
use Rattle.chain_laws.specs.Runs.{IsChainedTask}
use Rattle.chain_laws.proofs.Orderly.{chained_is_known}
use Rattle.trace_mean.specs.Trace.{body}
use Rattle.trace_mean.specs.Worth.{Input, nothing_kept, content_at}
use Rattle.trace_mean.specs.Fuse.{field_atoms, entry_chain, entry_task}
use Rattle.trace_form_laws.specs.Entries.{first_of, entry_node}
use Rattle.trace_form_laws.proofs.Entries.{chained_is_entry}

-- an event of a kind is at its node, with the first tag of its message
event_node : (at : ℕ) (dir : Dir) (kind : Kind) (ns : List ℕ) (m : Option Content) →
    node_of at dir (event_of kind ns m) ≡ record { at = at; dir = dir; kind = kind; tag = message_tag m }
event_node at dir kind ns m = go (carries kind) where
  made : Bool → Event
  made b = if b
      then record { kind = kind; peer = slice_index ns 0; a = 0; b = 0; message = m }
      else record { kind = kind; peer = 0; a = slice_index ns 0; b = slice_index ns 1; message = m }

  go : (b : Bool) → node_of at dir (made b) ≡ record { at = at; dir = dir; kind = kind; tag = message_tag m }
  go true = refl
  go false = refl

first_tag : (i : Input) (stack : List LayerTree) (fields : List (Option ℕ)) (tags : List ℕ) →
    front_tag (content_at i nothing_kept
    (record { chain = entry_chain 0 stack tags (field_atoms 0 fields); core = body })).headers ≡ first_of tags
first_tag i stack fields [] = refl
first_tag i [] fields (tag ∷ tags) = refl
first_tag i (layer ∷ above) fields (tag ∷ tags) = refl

pub entry_is_node : (stack : List LayerTree) (k : Known) (fields : List (Option ℕ)) (i : Input) →
    task_node (entry_task stack k fields i) ≡ entry_node stack k
entry_is_node stack k fields i =
    let at : ℕ = entry_place stack k.dir in
    event_node at k.dir k.kind (i.peer ∷ []) _
    ∙ ap (λ tag. record { at = at; dir = k.dir; kind = k.kind; tag = tag }) (first_tag i stack fields k.tags)

enters : (stack : List LayerTree) (dir : Dir) (kind : Kind) → carries kind ≡ true →
    Enters stack (entry_place stack dir) dir kind
enters stack Up Cast h = refl
enters stack Up Send h = refl
enters stack Down Cast h = refl
enters stack Down Send h = refl
enters stack _ _ h = absurd (cc h)

pub entry_is_light : (stack : List LayerTree) (k : Known) (fields : List (Option ℕ)) (i : Input) →
    IsChainedTask stack (entry_task stack k fields i) →
    weight stack (entry_node stack k) ≤ largest_weight stack
entry_is_light stack k fields i task =
    let node : Node = entry_node stack k in
    let is = chained_is_entry stack k fields i task in
    let known = subst (IsNode stack) (entry_is_node stack k fields i)
    (chained_is_known stack (entry_task stack k fields i) task) in
    let listed : In node (entries stack) =
    entering stack node.at node.dir node.kind node.tag (enters stack k.dir k.kind is.carried) known.tag in
    at_most_largest (weight stack node) (_) (in_map (weight stack) node (entries stack) listed)
