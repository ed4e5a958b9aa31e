-- What telling the next output does.
use Rattle.std.specs.Prelude.{◌≡◌, ℕ, ◌<◌, ◌≤◌, List, ◌++◌, drop, length, Option, Some, None}
use Rattle.run_mean.specs.Member.{Output}
use Rattle.view_core.specs.declared.step.Change.{Change}
use Rattle.group_peer.specs.Heads.{bytes_of, head_of}
use Rattle.group_peer.specs.Standing.{longest_packet}
use Rattle.group_peer.specs.Telling.{Passed, Stays, ToldChange, next_output}
use Rattle.group_peer.specs.declared.peer.Peer.{Peer}
use Rattle.group_peer.specs.declared.told.Head.{Head}
use Rattle.group_peer.specs.declared.told.Told.{Told}
use Rattle.group_peer.specs.declared.told.Told.TheVariants as told

-- The bytes of an output of a member, as it is sent by the member's plans.
abbrev pub bytes_at : Peer → Output × Option ℕ → List ℕ
bytes_at p o = bytes_of p.member.plans o

-- The next output is told: its numbers, and its bytes at the beginning of the room; the member goes past it.
pub record TellsOutput (old new : Peer) (room after : List ℕ) (h : Head) (n : ℕ) : Type 0 where
  pub output : Output × Option ℕ
  pub is_next : next_output old ≡ Some output
  pub head : h ≡ head_of old.member.id output
  pub count : n ≡ length (bytes_at old output)
  pub bytes : after ≡ bytes_at old output ++ drop n room
  pub passed : Passed old new

-- The room is too small for the bytes of the next output, which are no more than the longest packet has: how many there
-- are is told, and nothing changes.
pub record HasNoRoom (old new : Peer) (room after : List ℕ) (n : ℕ) : Type 0 where
  pub output : Output × Option ℕ
  pub is_next : next_output old ≡ Some output
  pub count : n ≡ length (bytes_at old output)
  pub short : length room < n
  pub few : n ≤ longest_packet
  pub room_is : after ≡ room
  pub stays : Stays old new

-- All outputs were told, and where the member is since, if it installed something, wasn't yet; now it is.
pub record TellsChange (old new : Peer) (room after : List ℕ) (change : Change) : Type 0 where
  pub none : next_output old ≡ None
  pub was : old.change ≡ Some change
  pub room_is : after ≡ room
  pub told : ToldChange old new

-- All was told, and nothing changes.
pub record TellsNothing (old new : Peer) (room after : List ℕ) : Type 0 where
  pub none : next_output old ≡ None
  pub no_change : old.change ≡ None
  pub room_is : after ≡ room
  pub stays : Stays old new

-- What is told next, and what becomes of the member and of the room.
abbrev pub Tells : (old new : Peer) (room after : List ℕ) → Told → Type 0
Tells old new room after (told.Output h n) = TellsOutput old new room after h n
Tells old new room after (told.NoRoom n) = HasNoRoom old new room after n
Tells old new room after (told.Changed change) = TellsChange old new room after change
Tells old new room after told.Nothing = TellsNothing old new room after

-- What is told of where a member is since.
abbrev pub told_change : Option Change → Told
told_change (Some change) = told.Changed change
told_change None = told.Nothing
