-- Members and groups that begin again.
use Rattle.std.specs.Prelude.{◌≡◌, Bool, true, false, List, map, length}
use Rattle.msg_core.specs.declared.packet.View.{View}
use Rattle.run_mean.specs.Member.{Member, opened_member}
use Rattle.msg_core.specs.View.{first_view}
use Rattle.run_mean.specs.World.{first_world}
use Rattle.group_member.specs.Placed.{Placed}
use Rattle.group_feed.specs.Standing.{Peopled, Stands}
use Rattle.group_world.specs.Seats.{member_of, seat_of}

-- Where a member is that is opened in a view.
abbrev pub opened_in : View → Placed → Member
opened_in view p = opened_member p.stack view p.id

-- Members have begun again in a view: each sits where it sat, and is where one is that is opened there.
pub record AreAgain (view : View) (olds news : List Placed) : Type 0 where
  pub members : map member_of news ≡ map (opened_in view) olds
  pub seats : map seat_of news ≡ map seat_of olds

-- They all have begun again in the first view of as many, or each sits where it sat.
abbrev pub RestartsAll : List Placed → List Placed → Bool → Type 0
RestartsAll olds news true = AreAgain (first_view (length olds)) olds news
RestartsAll olds news false = map seat_of news ≡ map seat_of olds

-- A group has begun again: it stands at the first world of as many members of its stack. Or it hasn't.
abbrev pub Restarts : Peopled → Peopled → Bool → Type 0
Restarts c c' true = Stands c' (first_world c.stack c.group c.stamp (length c.members))
Restarts c c' false = Unit {0}
