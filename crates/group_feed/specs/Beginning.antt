-- Groups that are ready to be fed, and that begin.
use Rattle.std.specs.Prelude.{◌≡◌, ℕ, List, length}
use Rattle.layer_mean.specs.Tree.{LayerTree}
use Rattle.stack_mean.specs.Acceptance.{largest_weight}
use Rattle.stack_mean.specs.Plan.{Plan}
use Rattle.run_mean.specs.Mode.{Mode}
use Rattle.run_mean.specs.World.{World, first_world}
use Rattle.group_feed.specs.Standing.{Peopled, Stands}

-- A group runs this stack with these plans in a mode, and there is room for the outputs of a step.
pub record IsReady (mode : Mode) (stack : List LayerTree) (plans : List Plan) (c : Peopled) (room : ℕ) : Type 0 where
  pub mode_is : c.mode ≡ mode
  pub stack_is : c.stack ≡ stack
  pub plans_are : c.plans ≡ plans
  pub places : room ≡ largest_weight stack

-- It stands where a world of the definitions does.
pub record SomeWorld (c : Peopled) : Type 0 where
  pub world : World
  pub stands : Stands c world

-- It is where a group of n members begins.
pub record IsAtFirst (mode : Mode) (stack : List LayerTree) (plans : List Plan) (group stamp members : ℕ) (c : Peopled)
    (room : ℕ) : Type 0 where
  pub ready : IsReady mode stack plans c room
  pub world : Stands c (first_world stack group stamp members)
  pub count : length c.members ≡ members
