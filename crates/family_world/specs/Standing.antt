-- Where a group is in which acts are played.
use Rattle.std.specs.Prelude.{◌≡◌, ℕ, Bool, true, false, List, map, length, Result, Ok, Err}
use Rattle.msg_core.specs.declared.message.Memory.{Memory}
use Rattle.layer_mean.specs.Tree.{LayerTree}
use Rattle.stack_mean.specs.Acceptance.{largest_weight}
use Rattle.stack_mean.specs.Plans.{plans_of}
use Rattle.run_mean.specs.World.{World, first_world, happens}
use Rattle.script_mean.specs.declared.script.Script.{Script}
use Rattle.group_feed.specs.Standing.{Stands}
use Rattle.family_mean.specs.Family.{IsTaken, world_after}
use Rattle.family_search.specs.Coming.{Decides}
use Rattle.family_search.specs.Trying.{event_in}
use Rattle.family_search.specs.declared.choice.Choice.{Choice}
use Rattle.family_group.specs.Telling.{IsNamed}
use Rattle.family_world.specs.declared.playground.Playground.{Playground}

-- A group over a ground runs its stack, has as many members as acts have, and room for the outputs of a step; and it
-- has their number and stamp, where that is known.
pub record IsKept (acts : Script) (p : Playground) : Type 0 where
  pub stack_is : p.world.stack ≡ p.ground
  pub plans_are : p.world.plans ≡ plans_of p.ground
  pub places_are : p.gear.outputs.places ≡ largest_weight p.ground
  pub count : length p.world.members ≡ acts.members
  pub named : p.is_named ≡ true → IsNamed acts p.world

-- It is, over the same ground as before.
pub record IsLeft (acts : Script) (p p' : Playground) : Type 0 where
  pub ground : p'.ground ≡ p.ground
  pub kept : IsKept acts p'

-- It is, and stands at a world.
pub record IsAt (acts : Script) (w : World) (p p' : Playground) : Type 0 where
  pub left : IsLeft acts p p'
  pub stands : Stands p'.world w

-- The world in which acts begin over a stack, and the world after the events of choices.
abbrev pub first_of : List LayerTree → Script → World
first_of stack acts = first_world stack acts.group acts.stamp acts.members

-- The world after the events of choices over these acts.
abbrev pub world_in : List LayerTree → Script → List Choice → World
world_in stack acts past = world_after stack (first_of stack acts) (map (event_in acts.events) past)

-- It stands where the acts begin, or memory ran out.
abbrev pub Begins : Script → (p p' : Playground) → Result (Unit {0}) Memory → Type 0
Begins acts p p' (Ok done) = IsAt acts (first_of p.ground acts) p p'
Begins acts p p' (Err memory) = IsLeft acts p p'

-- It stands there again, or it can't begin anew in its memory and is kept.
abbrev pub Restarts : Script → (p p' : Playground) → Bool → Type 0
Restarts acts p p' true = IsAt acts (first_of p.ground acts) p p'
Restarts acts p p' false = IsLeft acts p p'

-- It stands where the events of choices lead, or memory ran out.
abbrev pub Goes : Script → List Choice → (p p' : Playground) → Result (Unit {0}) Memory → Type 0
Goes acts past p p' (Ok done) = IsAt acts (world_in p.ground acts past) p p'
Goes acts past p p' (Err memory) = IsLeft acts p p'

-- Whether a member takes an event there is told.
pub record IsTold (acts : Script) (past : List Choice) (choice : Choice) (p p' : Playground) (taken : Bool) : Type 0
  where
    pub left : IsLeft acts p p'
    pub taken_is : Decides
        (IsTaken (happens p.ground (plans_of p.ground) (world_in p.ground acts past) (event_in acts.events choice)).did)
        taken

-- That is told, or memory ran out and the group is kept all the same.
abbrev pub Takes : Script → List Choice → Choice → (p p' : Playground) → Result Bool Memory → Type 0
Takes acts past choice p p' (Ok taken) = IsTold acts past choice p p' taken
Takes acts past choice p p' (Err memory) = IsLeft acts p p'

-- How many packets were sent there is told.
pub record AreTold (acts : Script) (past : List Choice) (p p' : Playground) (sent : ℕ) : Type 0 where
  pub left : IsLeft acts p p'
  pub sent_are : length (world_in p.ground acts past).packets ≡ sent

-- That is told, or memory ran out and the group is kept all the same.
abbrev pub Sends : Script → List Choice → (p p' : Playground) → Result ℕ Memory → Type 0
Sends acts past p p' (Ok sent) = AreTold acts past p p' sent
Sends acts past p p' (Err memory) = IsLeft acts p p'
