-- Tasks with chained messages are known.
use Rattle.std.proofs.Common.{◌≡◌, ℕ, zero, suc, Bool, true, false, List, [], ◌∷◌, drop, is_some, Option, Some, None}
use Rattle.std.proofs.Common.{IsSomeAnd, slice_index_or, refl, ap, arith}
use Rattle.std.specs.Prelude.{if◌then◌else◌, ◌==◌}
use Rattle.msg_core.specs.Chain.{Content}
use Rattle.msg_core.specs.declared.message.Header.{Header}
use Rattle.layer_words.specs.declared.events.Dir.{Dir}
use Rattle.layer_words.specs.declared.events.Dir.TheVariants.{Up, Down}
use Rattle.layer_mean.specs.Event.{carries}
use Rattle.layer_mean.specs.Headers.{header_of_tag}
use Rattle.layer_mean.specs.Tree.{LayerTree, no_layer}
use Rattle.stack_mean.specs.Graph.{header_layer}
use Rattle.packet_mean.specs.Chained.{IsChain}
use Rattle.weight_laws.specs.Nodes.{front_tag, message_tag}
use Rattle.weight_laws.specs.Chains.{first_place, HasChain, ChainedTasksAreKnown}

there : {A : Type 0} (o : Option A) (P : A → Type 0) → IsSomeAnd o P → is_some o ≡ true
there None P h = absurd h
there (Some x) P h = refl

front_known : (stack : List LayerTree) (k place : ℕ) (hs : List Header) → IsChain (drop k stack) place hs →
    is_some (header_of_tag (slice_index_or stack k no_layer) (front_tag hs)) ≡ true
front_known [] zero place hs h = rw h refl
front_known [] (suc k) place hs h = rw h refl
front_known (layer ∷ above) zero place [] h = absurd h
front_known (layer ∷ above) zero place (header ∷ hs) h = there (header_of_tag layer header.tag) _ h
front_known (layer ∷ above) (suc k) place hs h = front_known above k place hs h

had : (b : Bool) (stack : List LayerTree) (place : ℕ) (m : Option Content) → HasChain stack place b m →
    (if b then is_some (header_of_tag (slice_index_or stack place no_layer) (message_tag m)) else message_tag m == 0) ≡
    true
had true stack place (Some m) h = front_known stack place place m.headers h
had false stack place None h = refl
had true stack place None h = absurd h
had false stack place (Some m) h = absurd h

layer_there : (stack : List LayerTree) (dir : Dir) (at : ℕ) → slice_index_or stack (first_place dir at) no_layer ≡
    header_layer stack dir at
layer_there stack Up at = refl
layer_there stack Down at = ap (λ k. slice_index_or stack k no_layer) (omega arith)

pub chained_tasks_are_known : ChainedTasksAreKnown
chained_tasks_are_known stack t at chain = record {
  at = at;
  tag = rw (← layer_there stack t.dir t.at)
      (had (carries t.event.kind) stack (first_place t.dir t.at) t.event.message chain);
}
