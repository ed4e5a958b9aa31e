-- What opening a member behind a handle does.
use Rattle.std.specs.Prelude.{◌≡◌, ℕ, ◌<◌, ◌≤◌, Bool, true, false, ◌&&◌, nat_le, nat_lt, List, Some, None, Result, Ok}
use Rattle.std.specs.Prelude.{Err}
use Rattle.layer_mean.specs.Tree.{LayerTree}
use Rattle.msg_core.specs.View.{most_members}
use Rattle.output_mean.specs.Judged.{Means}
use Rattle.run_mean.specs.Mode as mode
use Rattle.run_mean.specs.Mode.{Mode}
use Rattle.stack_mean.specs.Acceptance.{rows_of, most_rows}
use Rattle.group_member.specs.declared.error.OpenError.{OpenError}
use Rattle.group_member.specs.declared.error.OpenError.TheVariants.{TooLarge, Memory}
use Rattle.group_peer.specs.Opening.{IsOpenPeer}
use Rattle.group_peer.specs.declared.peer.Peer.{Peer}
use Rattle.peer_handle.specs.Faults.{IsRefused}
use Rattle.peer_handle.specs.Ownership.{Kept}
use Rattle.peer_handle.specs.declared.answer.Opening.{Opening}
use Rattle.peer_handle.specs.declared.answer.Opening.TheVariants as opening
use Rattle.peer_handle.specs.declared.fault.ToldFault.{ToldFault}
use Rattle.peer_handle.specs.declared.order.Order.{Order}

-- Whether a group may have so many members, and has one of this id.
abbrev pub is_possible : (members id : ℕ) → Bool
is_possible members id = nat_le members most_members && nat_lt id members

-- The mode in which a member runs.
abbrev pub mode_for : Bool → Mode
mode_for true = mode.bypass
mode_for false = mode.layered

-- What is wanted of a member: the bytes of a layer file, whether it runs by bypasses, its group with stamp and number
-- of members, and its id.
pub record Wanted : Type 0 where
  pub text : List ℕ
  pub bypass : Bool
  pub group : ℕ
  pub stamp : ℕ
  pub members : ℕ
  pub id : ℕ

-- What an order wants.
abbrev pub wanted : Order → Wanted
wanted o = record {
  text = o.layers.now;
  bypass = o.bypass;
  group = o.line.group;
  stamp = o.line.stamp;
  members = o.line.members;
  id = o.id;
}

-- The member that is wanted is where its group's first view begins, over this stack.
abbrev pub IsWanted : Wanted → List LayerTree → Peer → Type 0
IsWanted w stack p = IsOpenPeer (mode_for w.bypass) stack w.group w.stamp w.members w.id p

-- It is so over the stack that the bytes of the file mean.
pub record IsOpen (w : Wanted) (p : Peer) : Type 0 where
  pub stack : List LayerTree
  pub means : Means w.text stack
  pub first : IsWanted w stack p

-- Over the stack that the bytes mean the members of the group may keep too many rows.
pub record IsTooLarge (w : Wanted) : Type 0 where
  pub stack : List LayerTree
  pub means : Means w.text stack
  pub many : most_rows < rows_of stack w.members

-- What opening answers: the handle, which had no member, has the one that is wanted; or it has had one, or the group
-- has no such member, or the file is refused, or members may keep too many rows, or memory ran out, and then the handle
-- stays. Only a refused file changes the fault and the room.
abbrev pub Opens : Wanted → (old new : Kept) (before fault : ToldFault) (room after : List ℕ) → Opening → Type 0
Opens w None (Some new) before fault room after opening.Opened =
    IsOpen w new.peer × (fault ≡ before) × (after ≡ room)
Opens w (Some old) (Some new) before fault room after opening.HasOne =
    (new ≡ old) × (fault ≡ before) × (after ≡ room)
Opens w None None before fault room after opening.NoMember =
    (is_possible w.members w.id ≡ false) × (fault ≡ before) × (after ≡ room)
Opens w None None before fault room after opening.Refused = IsRefused w.text fault room after
Opens w None None before fault room after opening.TooLarge = IsTooLarge w × (fault ≡ before) × (after ≡ room)
Opens w None None before fault room after opening.NoMemory = (fault ≡ before) × (after ≡ room)
Opens w _ _ before fault room after _ = ⊥

-- The status where opening answers so.
abbrev pub opening_number : Opening → ℕ
opening_number opening.Opened = 0
opening_number opening.HasOne = 1
opening_number opening.NoMember = 2
opening_number opening.Refused = 3
opening_number opening.TooLarge = 4
opening_number opening.NoMemory = 7

-- The answer where a member isn't opened over a stack.
abbrev pub error_opening : OpenError → Opening
error_opening TooLarge = opening.TooLarge
error_opening Memory = opening.NoMemory

-- The member that is wanted is made, or it isn't, for this reason.
abbrev pub Makes : Wanted → Result Peer OpenError → Type 0
Makes w (Ok peer) = IsOpen w peer
Makes w (Err TooLarge) = IsTooLarge w
Makes w (Err Memory) = Unit {0}

-- A handle that had no member has the one that is wanted, or none, for this reason.
abbrev pub OpensStack : Wanted → (new : Kept) → Opening → Type 0
OpensStack w (Some new) opening.Opened = IsOpen w new.peer
OpensStack w None opening.TooLarge = IsTooLarge w
OpensStack w None opening.NoMemory = Unit {0}
OpensStack w _ _ = ⊥

-- Why a file of these bytes is refused is told; or memory ran out, and then fault and room stay.
abbrev pub RefusesFile : (text : List ℕ) (before fault : ToldFault) (room after : List ℕ) → Opening → Type 0
RefusesFile text before fault room after opening.Refused = IsRefused text fault room after
RefusesFile text before fault room after opening.NoMemory = (fault ≡ before) × (after ≡ room)
RefusesFile text before fault room after _ = ⊥
