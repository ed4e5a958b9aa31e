-- The members of a group by their ids.
use Rattle.std.specs.Prelude.{◌≡◌, ℕ, Bool, true, false, List, map, length, Option, Some, None}
use Rattle.std.specs.List.{range_with_len}
use Rattle.layer_mean.specs.Tree.{LayerTree}
use Rattle.stack_mean.specs.Plan.{Plan}
use Rattle.run_mean.specs.Mode.{Mode, layered, bypass}
use Rattle.run_mean.specs.Member.{Member, out}
use Rattle.group_member.specs.Placed.{Placed}

-- The mode of members, by whether they run by bypasses.
abbrev pub mode_when : (bypasses : Bool) → Mode
mode_when true = bypass
mode_when false = layered

-- What no step of a member changes: the mode in which it runs, its stack with the plans of it, its group and stamp, and
-- its id.
pub record Seat : Type 0 where
  pub mode : Mode
  pub stack : List LayerTree
  pub plans : List Plan
  pub group : ℕ
  pub stamp : ℕ
  pub id : ℕ

abbrev pub seat_of : Placed → Seat
seat_of p = record { mode = p.mode; stack = p.stack; plans = p.plans; group = p.group; stamp = p.stamp; id = p.id }

abbrev pub seat : Mode → List LayerTree → List Plan → ℕ → ℕ → ℕ → Seat
seat mode stack plans group stamp id =
    record { mode = mode; stack = stack; plans = plans; group = group; stamp = stamp; id = id }

-- The seats of n members of a group.
abbrev pub seats : Mode → List LayerTree → List Plan → ℕ → ℕ → ℕ → List Seat
seats mode stack plans group stamp n = map (seat mode stack plans group stamp) (range_with_len 0 n)

-- Members of one group, all in one mode, each of whom has the number of its place as its id.
abbrev pub AreSeated : Mode → List LayerTree → List Plan → ℕ → ℕ → List Placed → Type 0
AreSeated mode stack plans group stamp members = map seat_of members ≡
    seats mode stack plans group stamp (length members)

-- Where a member is.
abbrev pub member_of : Placed → Member
member_of p = p.member

-- A member that is shown, or one that is in no view where there is none.
abbrev pub shown_or_out : Option Member → Member
shown_or_out (Some m) = m
shown_or_out None = out
