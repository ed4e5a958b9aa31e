-- Visits of a typed layer keep chains.
use Rattle.std.specs.Prelude.{◌≡◌, ℕ, suc, ◌<◌, ◌≤◌, List, slice_get, Some}
use Rattle.std.specs.List.{AllByRecursion}
use Rattle.msg_core.specs.declared.message.Header.{Header}
use Rattle.msg_core.specs.View.{most_members}
use Rattle.layer_words.specs.declared.events.Dir.{Dir}
use Rattle.layer_words.specs.declared.events.Dir.TheVariants.{Up, Down}
use Rattle.layer_mean.specs.declared.run.Event.{Event}
use Rattle.layer_mean.specs.Tree.{LayerTree}
use Rattle.layer_mean.specs.State.{State}
use Rattle.layer_mean.specs.Visit.{Visited, step, fresh}
use Rattle.packet_mean.specs.ChainedState.{IsNumber, IsFrom, IsEvent, IsChainedState, IsChainedEvent}
use Rattle.chain_laws.specs.Typed.{TypedLayer}

-- A layer stands typed at a place of a stack, with these blank headers above, which are a chain from there.
pub record StandsTyped (stack : List LayerTree) (place : ℕ) (blank : List Header) (layer : LayerTree) : Type 0 where
  pub listed : slice_get stack place ≡ Some layer
  pub blank_is : IsFrom stack (suc place) blank
  pub typed : TypedLayer blank layer

-- The place from which the message of an event comes that a place sends: going up it has lost the place's own header,
-- and going down it has it.
abbrev pub sent_place : Dir → ℕ → ℕ
sent_place Up place = suc place
sent_place Down place = place

abbrev pub IsChainedSent : List LayerTree → ℕ → Dir × Event → Type 0
IsChainedSent stack place x = IsEvent (IsFrom stack (sent_place x.0 place)) x.1

-- What a visit leaves is chained: the state after it, and all that it sent.
pub record StaysChained (stack : List LayerTree) (place : ℕ) (v : Visited) : Type 0 where
  pub state : IsChainedState stack place v.state
  pub sent : AllByRecursion (IsChainedSent stack place) v.sent

-- A visit of a typed layer, in a chained state, by a chained event, leaves what is chained.
abbrev pub VisitsKeepChains : Type 0
VisitsKeepChains = (stack : List LayerTree) (place : ℕ) (blank : List Header) (layer : LayerTree) (s : State)
    (dir : Dir) (event : Event) →
    StandsTyped stack place blank layer → IsChainedState stack place s → IsChainedEvent stack place dir event →
    StaysChained stack place (step place layer s dir event)

-- The state of a typed layer that has seen no event is chained, at each member of a view.
abbrev pub FreshIsChained : Type 0
FreshIsChained = (stack : List LayerTree) (place : ℕ) (blank : List Header) (layer : LayerTree) (me n ltime : ℕ) →
    StandsTyped stack place blank layer → me < n → n ≤ most_members → IsNumber ltime →
    IsChainedState stack place (fresh layer me n ltime)
