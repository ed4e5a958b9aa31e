-- What an entry is: an event that a run can begin with, of which the kind and the tags of its headers are known.
use Rattle.std.specs.Prelude.{◌≡◌, ℕ, true, List, [], ◌∷◌, Option, is_some}
use Rattle.layer_words.specs.declared.events.Dir.{Dir}
use Rattle.layer_words.specs.declared.events.Dir.TheVariants.{Up, Down}
use Rattle.layer_mean.specs.Event.{carries}
use Rattle.layer_mean.specs.Headers.{header_of_tag}
use Rattle.layer_mean.specs.Tree.{LayerTree}
use Rattle.stack_mean.specs.Graph.{Node}
use Rattle.stack_mean.specs.Shape.{Known, entry_place}
use Rattle.chain_laws.specs.Runs.{IsChainedTask}
use Rattle.trace_mean.specs.Worth.{Input}
use Rattle.trace_mean.specs.Fuse.{entry_task}

-- Tags of headers, each of which the layer at its place declares.
abbrev pub AreDeclared : List LayerTree → List ℕ → Type 0
AreDeclared layers [] = Unit {0}
AreDeclared [] (tag ∷ tags) = ⊥
AreDeclared (layer ∷ above) (tag ∷ tags) = (is_some (header_of_tag layer tag) ≡ true) × AreDeclared above tags

-- The layers whose headers the message of an entry has: all where it comes from below, none where it comes from above.
abbrev pub entry_layers : List LayerTree → Dir → List LayerTree
entry_layers stack Up = stack
entry_layers stack Down = []

-- An entry is of a kind that carries a message, and its layers declare its tags.
pub record IsEntry (stack : List LayerTree) (k : Known) : Type 0 where
  pub carried : carries k.kind ≡ true
  pub tags : AreDeclared (entry_layers stack k.dir) k.tags

-- The node of a stack at which an entry is.
abbrev pub first_of : List ℕ → ℕ
first_of [] = 0
first_of (tag ∷ tags) = tag

abbrev pub entry_node : List LayerTree → Known → Node
entry_node stack k = record { at = entry_place stack k.dir; dir = k.dir; kind = k.kind; tag = first_of k.tags }

-- What has a chained input is an entry.
abbrev pub ChainedIsEntry : Type 0
ChainedIsEntry = (stack : List LayerTree) (k : Known) (fields : List (Option ℕ)) (i : Input) →
    IsChainedTask stack (entry_task stack k fields i) → IsEntry stack k
