-- What opening a member yields.
use Rattle.std.specs.Prelude.{◌≡◌, ℕ, ◌<◌, List, [], None, Result, Ok, Err}
use Rattle.layer_mean.specs.Tree.{LayerTree}
use Rattle.run_mean.specs.Mode.{Mode}
use Rattle.stack_mean.specs.Acceptance.{rows_of, most_rows}
use Rattle.group_mean.specs.Room.{HasRoom}
use Rattle.group_member.specs.declared.error.OpenError.{OpenError}
use Rattle.group_member.specs.declared.error.OpenError.TheVariants.{TooLarge, Memory}
use Rattle.member_open.specs.OneMember.{IsAtFirst}
use Rattle.group_peer.specs.declared.peer.Peer.{Peer}

-- The member of this id is where the group's first view begins, in a mode, and it has nothing to tell; and members of
-- the group have room.
pub record IsOpenPeer (mode : Mode) (stack : List LayerTree) (group stamp members id : ℕ) (p : Peer) : Type 0 where
  pub first : IsAtFirst mode stack group stamp members id p.member
  pub room : HasRoom stack members
  pub none : p.outputs.outputs ≡ []
  pub no_change : p.change ≡ None

-- It is open, or members of the group may keep too many rows, or memory ran out.
abbrev pub OpensPeer : Mode → List LayerTree → (group stamp members id : ℕ) → Result Peer OpenError → Type 0
OpensPeer mode stack group stamp members id (Ok p) = IsOpenPeer mode stack group stamp members id p
OpensPeer mode stack group stamp members id (Err TooLarge) = most_rows < rows_of stack members
OpensPeer mode stack group stamp members id (Err Memory) = Unit {0}
