-- The world that is kept, and the world of the definitions.
use Rattle.std.specs.Prelude.{◌≡◌, ℕ, zero, suc, List, length, slice_get, Option, Some, None}
use Rattle.std.specs.List.{filter_map, AllZip}
use Rattle.msg_core.specs.declared.packet.Packet.{Packet}
use Rattle.layer_mean.specs.Tree.{LayerTree}
use Rattle.packet_mean.specs.Spelling.{SpellsPacket}
use Rattle.stack_mean.specs.Plan.{Plan}
use Rattle.run_mean.specs.Common.{wire}
use Rattle.run_mean.specs.Mode.{Mode}
use Rattle.run_mean.specs.Member.{Member, Output, packet}
use Rattle.run_mean.specs.World.{World}

-- A group as it is kept: the mode in which its members run their stack, its members by id, and every packet ever sent
-- as the datagram in which it was sent, in the order of output.
pub record Peopled : Type 0 where
  pub mode : Mode
  pub stack : List LayerTree
  pub plans : List Plan
  pub group : ℕ
  pub stamp : ℕ
  pub members : List Member
  pub spelled : List (List ℕ)

-- There are as many datagrams as packets, and each spells the packet of its place, in full or short.
abbrev pub SpellPackets : List LayerTree → List Plan → List (List ℕ) → List Packet → Type 0
SpellPackets stack plans datagrams packets = AllZip (SpellsPacket stack plans) datagrams packets

-- It stands where a world of the definitions does: same members, and the packets that its datagrams spell.
pub record Stands (c : Peopled) (w : World) : Type 0 where
  pub group : w.group ≡ c.group
  pub stamp : w.stamp ≡ c.stamp
  pub members : w.members ≡ c.members
  pub spelled : SpellPackets c.stack c.plans c.spelled w.packets

-- The datagram of packet number k, if there is one; the first has the number 1.
abbrev pub spelled_number : List (List ℕ) → ℕ → Option (List ℕ)
spelled_number spelled zero = None
spelled_number spelled (suc k) = slice_get spelled k

-- What events leave as it is: the mode, the stack, its plans, and how many members there are.
pub record Stays (c c' : Peopled) : Type 0 where
  pub mode : c'.mode ≡ c.mode
  pub stack : c'.stack ≡ c.stack
  pub plans : c'.plans ≡ c.plans
  pub count : length c'.members ≡ length c.members

-- The datagram in which an output is sent, if it is a packet: short under its plan, if it has one, and else in full.
abbrev pub datagram_in : List Plan → Output × Option ℕ → Option (List ℕ)
datagram_in plans (packet p, plan) = Some (wire plans p plan)
datagram_in plans (_, plan) = None

-- The datagrams in which the packets among outputs are sent.
abbrev pub spelled_of : List Plan → List (Output × Option ℕ) → List (List ℕ)
spelled_of plans outs = filter_map (datagram_in plans) outs
