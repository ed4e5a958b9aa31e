-- What opening one member of a group yields.
use Rattle.std.specs.Prelude.{◌≡◌, ℕ, ◌<◌, List, Result, Ok, Err}
use Rattle.std.specs.Rc.{rc_value}
use Rattle.layer_mean.specs.Tree.{LayerTree}
use Rattle.msg_core.specs.View.{first_view}
use Rattle.run_mean.specs.Member.{opened_member}
use Rattle.run_mean.specs.Mode.{Mode}
use Rattle.stack_mean.specs.Acceptance.{rows_of, largest_weight, most_rows}
use Rattle.stack_mean.specs.Plans.{plans_of}
use Rattle.stack_shapes.specs.Trees.{plans_tree}
use Rattle.group_mean.specs.Room.{HasRoom}
use Rattle.group_member.specs.Opening.{mode_in, stack_in}
use Rattle.group_member.specs.Placed.{Placed}
use Rattle.group_member.specs.declared.error.OpenError.{OpenError}
use Rattle.group_member.specs.declared.error.OpenError.TheVariants.{TooLarge, Memory}
use Rattle.group_member.specs.declared.opening.Opening.{Opening}
use Rattle.member_open.specs.declared.member.OpenMember.{OpenMember}

-- A member of this id is where the group's first view begins: in that view with fresh layers of this stack, which it
-- runs with the stack's plans in this mode, as a member of this group with this stamp.
pub record IsAtFirst (mode : Mode) (stack : List LayerTree) (group stamp members id : ℕ) (m : Placed) : Type 0 where
  pub member : m.member ≡ opened_member stack (first_view members) id
  pub stack_is : m.stack ≡ stack
  pub plans_are : m.plans ≡ plans_of stack
  pub mode_is : m.mode ≡ mode
  pub group_is : m.group ≡ group
  pub stamp_is : m.stamp ≡ stamp
  pub id_is : m.id ≡ id

-- So is the member that is opened as a group of n is to be opened, and members of the group have room; or they don't,
-- or memory ran out.
pub record IsFirst (o : Opening) (n id : ℕ) (m : Placed) : Type 0 where
  pub first : IsAtFirst (mode_in o) (stack_in o) o.group o.stamp n id m
  pub room : HasRoom (stack_in o) n

abbrev pub OpensFirst : Opening → (n id : ℕ) → Result Placed OpenError → Type 0
OpensFirst o n id (Ok m) = IsFirst o n id m
OpensFirst o n id (Err TooLarge) = most_rows < rows_of (stack_in o) n
OpensFirst o n id (Err Memory) = Unit {0}

-- Such a member is open, with its stack's plans and room for the outputs of a step, and members of the group have room.
pub record IsOpenMember (mode : Mode) (stack : List LayerTree) (group stamp members id : ℕ) (o : OpenMember) :
    Type 0 where
  pub first : IsAtFirst mode stack group stamp members id o.member
  pub plans_are : plans_tree (rc_value o.plans) ≡ plans_of stack
  pub places : o.outputs.places ≡ largest_weight stack
  pub room : HasRoom stack members

-- It is open, or members of the group may keep too many rows, or memory ran out.
abbrev pub OpensMember : Mode → List LayerTree → (group stamp members id : ℕ) → Result OpenMember OpenError → Type 0
OpensMember mode stack group stamp members id (Ok o) = IsOpenMember mode stack group stamp members id o
OpensMember mode stack group stamp members id (Err TooLarge) = most_rows < rows_of stack members
OpensMember mode stack group stamp members id (Err Memory) = Unit {0}
