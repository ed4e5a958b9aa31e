-- What follows from an event that a node feeds.
use Rattle.std.specs.Prelude.{◌≡◌, ℕ, ◌+◌, ◌<◌, List, length, Option, Some, Result, Ok, Err}
use Rattle.std.specs.List.{AllByRecursion}
use Rattle.outside.specs.declared.sink.SinkError.{SinkError}
use Rattle.layer_mean.specs.Tree.{LayerTree}
use Rattle.run_mean.specs.Mode.{Mode}
use Rattle.chain_laws.specs.Runs.{TypedStack}
use Rattle.packet_laws.specs.Strays.{AreNumbered}
use Rattle.member_laws.specs.Members.{IsChainedWorld}
use Rattle.script_mean.specs.declared.event.ScriptEvent.{ScriptEvent}
use Rattle.script_mean.specs.declared.event.ScriptEvent.TheVariants.{Give, Show}
use Rattle.stack_mean.specs.Acceptance.{largest_weight}
use Rattle.stack_mean.specs.Plan.{Plan}
use Rattle.run_mean.specs.World.{World, happens}
use Rattle.group_feed.specs.Standing.{Peopled, Stands}
use Rattle.node_laws.specs.Groups.{AreWithin}
use Rattle.node_laws.specs.Acts.{event_acts}
use Rattle.node_loop.specs.Around.{Around}
use Rattle.node_loop.specs.Passing.{Breaks, PassesAll}
use Rattle.node_loop.specs.declared.desk.NodeDesk.{NodeDesk}

-- A group in this mode, of n members, stands at a chained world whose views have members of the group alone.
pub record Somewhere (mode : Mode) (stack : List LayerTree) (plans : List Plan) (n : ℕ) (c : Peopled) (w : World) : Type
    0 where
  pub mode_is : c.mode ≡ mode
  pub stack_is : c.stack ≡ stack
  pub plans_are : c.plans ≡ plans
  pub count : length c.members ≡ n
  pub stands : Stands c w
  pub chained : IsChainedWorld stack w
  pub within : AreWithin n w

-- What holds between two events: where the group stands, and that the desk has room for the outputs of a step.
pub record Rests (mode : Mode) (stack : List LayerTree) (plans : List Plan) (n : ℕ) (c : Peopled) (d : NodeDesk)
    (w : World)
    : Type 0 where
  pub somewhere : Somewhere mode stack plans n c w
  pub places : d.outputs.places ≡ largest_weight stack

-- An event was fed: its lines are written, and its packets handed on.
pub record IsFed (mode : Mode) (stack : List LayerTree) (plans : List Plan) (n : ℕ) (w : World) (event : ScriptEvent)
    (c : Peopled) (old new : NodeDesk)
    (a b : Around) : Type 0 where
  pub rests : Rests mode stack plans n c new (happens stack plans w event).world
  pub counted : new.events ≡ old.events + 1
  pub passed : PassesAll (event_acts mode stack plans w event) a b

abbrev pub Feeds : Mode → List LayerTree → List Plan → ℕ → World → ScriptEvent → Peopled → NodeDesk → NodeDesk →
    Around →
    Around → Result (Unit {0}) SinkError → Type 0
Feeds mode stack plans n w event c old new a b (Ok done) = IsFed mode stack plans n w event c old new a b
Feeds mode stack plans n w event c old new a b (Err e) = Breaks (event_acts mode stack plans w event) e a b

-- An event that a node feeds: one that is a member's step.
abbrev pub IsOwn : ScriptEvent → Type 0
IsOwn (Give number id) = ⊥
IsOwn (Show id) = ⊥
IsOwn _ = Unit {0}

-- Over a typed stack and numbered plans a group rests at some world, in its mode, and these members of it listen, each
-- with a peer for each member of the group.
pub record IsUp (stack : List LayerTree) (plans : List Plan) (c : Peopled) (d : NodeDesk) (listening : ℕ → Option ℕ)
    (ids : List ℕ) : Type 0 where
  pub typed : TypedStack stack
  pub numbered : AreNumbered plans
  pub mode : Mode
  pub members : ℕ
  pub world : World
  pub rests : Rests mode stack plans members c d world
  pub listen : AllByRecursion (λ id. (id < members) × (listening id ≡ Some members)) ids

-- A group that rests in a mode at a world of n members rests after an event in the same mode at one of as many.
abbrev pub RestsAgain : List LayerTree → List Plan → Peopled → NodeDesk → Peopled → NodeDesk → Type 0
RestsAgain stack plans c d c' d' = (mode : Mode) (n : ℕ) (w : World) → Rests mode stack plans n c d w →
    (w' : World) × Rests mode stack plans n c' d' w'
