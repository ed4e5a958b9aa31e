-- What opening a group yields.
use Rattle.std.specs.Prelude.{◌≡◌, ℕ, ◌+◌, ◌*◌, ◌<◌, ◌≤◌, List, map, length, Result, Ok, Err}
use Rattle.std.specs.List.{range_with_len}
use Rattle.std.specs.declared.alloc.Global.{Global}
use Rattle.std.specs.declared.vec.Vec.{Vec}
use Rattle.stack_mean.specs.Acceptance.{rows_of, most_rows}
use Rattle.run_mean.specs.Member.{opened_member}
use Rattle.msg_core.specs.View.{first_view}
use Rattle.run_mean.specs.World.{first_world}
use Rattle.live_layer.specs.Making.{Making}
use Rattle.group_member.specs.Making.{MadeAtMost}
use Rattle.group_member.specs.Opening.{mode_in, plans_in, stack_in}
use Rattle.group_member.specs.Placed.{Placed}
use Rattle.group_member.specs.declared.error.OpenError.{OpenError}
use Rattle.group_member.specs.declared.error.OpenError.TheVariants.{TooLarge, Memory}
use Rattle.group_member.specs.declared.opening.Opening.{Opening}
use Rattle.group_world.specs.Seats.{member_of, seat_of, seats}
use Rattle.group_feed.specs.Standing.{Peopled, Stands}

-- n members are in the first view, in the mode of the opening, and no packet was sent; as many layers were made as they
-- have.
pub record IsBegun (o : Opening) (n : ℕ) (before after : Making) (c : Peopled) : Type 0 where
  pub world : Stands c (first_world (stack_in o) o.group o.stamp n)
  pub mode_is : c.mode ≡ mode_in o
  pub stack_is : c.stack ≡ stack_in o
  pub plans_are : c.plans ≡ plans_in o
  pub count : length c.members ≡ n
  pub few : rows_of (stack_in o) n ≤ most_rows
  pub same : after.stack ≡ before.stack
  pub made : after.made ≡ before.made + n * length (stack_in o)

-- The members of a group are opened: who they are, and that they sit in order.
pub record AreOpen (o : Opening) (n : ℕ) (before after : Making) (members : List Placed) : Type 0 where
  pub opened_are : map member_of members ≡ map (opened_member (stack_in o) (first_view n)) (range_with_len 0 n)
  pub seated : map seat_of members ≡ seats (mode_in o) (stack_in o) (plans_in o) o.group o.stamp n
  pub few : rows_of (stack_in o) n ≤ most_rows
  pub same : after.stack ≡ before.stack
  pub made : after.made ≡ before.made + n * length (stack_in o)

-- Members may keep too many rows, and no layer was made; or memory ran out, and at most the layers of all were made.
abbrev pub IsNotOpen : Opening → (n : ℕ) → (before after : Making) → OpenError → Type 0
IsNotOpen o n before after TooLarge = (most_rows < rows_of (stack_in o) n) × (after ≡ before)
IsNotOpen o n before after Memory = MadeAtMost (n * length (stack_in o)) before after

-- The members of a group are opened, or none is left open.
abbrev pub OpensAll : Opening → (n : ℕ) → (before after : Making) → Result (Vec Placed Global) OpenError → Type 0
OpensAll o n before after (Ok members) = AreOpen o n before after members.items
OpensAll o n before after (Err e) = IsNotOpen o n before after e

-- A group begins as it was asked for, or it isn't opened.
abbrev pub Begins : Opening → (n : ℕ) → (before after : Making) → Result Peopled OpenError → Type 0
Begins o n before after (Ok c) = IsBegun o n before after c
Begins o n before after (Err e) = IsNotOpen o n before after e
