-- The views of a group stay within it, so what its members send goes to members of it; and what they send is short
-- enough for a datagram.
use Rattle.std.specs.Prelude.{◌≡◌, ℕ, ◌<◌, ◌≤◌, List, length}
use Rattle.std.specs.List.{AllByRecursion}
use Rattle.msg_core.specs.View.{ids, most_members}
use Rattle.layer_mean.specs.Tree.{LayerTree}
use Rattle.packet_laws.specs.Lengths.{IsWithinLimits}
use Rattle.member_laws.specs.Members.{IsChainedWorld}
use Rattle.script_mean.specs.Event.{member_of}
use Rattle.script_mean.specs.declared.event.ScriptEvent.{ScriptEvent}
use Rattle.stack_mean.specs.Plan.{Plan}
use Rattle.run_mean.specs.Mode.{Mode}
use Rattle.run_mean.specs.Journal.{Handed}
use Rattle.run_mean.specs.Member.{Member, inside, out}
use Rattle.run_mean.specs.World.{World, first_world, happens}
use Rattle.node_laws.specs.Losses.{event_sends}

-- A member's view has only ids below a number.
abbrev pub IsWithin : ℕ → Member → Type 0
IsWithin n (inside view states) = AllByRecursion (λ id. id < n) (ids view)
IsWithin n out = Unit {0}

abbrev pub AreWithin : ℕ → World → Type 0
AreWithin n w = AllByRecursion (IsWithin n) w.members

-- The first view of a group has only members of the group, and an event leaves views so.
abbrev pub FirstViewsAreWithin : Type 0
FirstViewsAreWithin = (stack : List LayerTree) (group stamp n : ℕ) → n ≤ most_members →
    AreWithin n (first_world stack group stamp n)

abbrev pub EventsKeepWithin : Type 0
EventsKeepWithin = (stack : List LayerTree) (plans : List Plan) (w : World) (event : ScriptEvent) (n : ℕ) →
    AreWithin n w → AreWithin n (happens stack plans w event).world

-- The most bytes of a packet as it is sent, short or in full, where the stack is within its limits.
abbrev pub longest_packet : ℕ
longest_packet = 8619

-- A datagram that a member may hand on to a group of n: it is the sender's own, it goes to one of the group, and
-- it is short.
pub record IsSendable (n from : ℕ) (h : Handed) : Type 0 where
  pub own : h.from ≡ from
  pub peer : h.to < n
  pub short : length h.bytes ≤ longest_packet

abbrev pub SendsAreSendable : Type 0
SendsAreSendable = (mode : Mode) (stack : List LayerTree) (plans : List Plan) (w : World) (event : ScriptEvent)
    (n : ℕ) → IsWithinLimits stack →
    IsChainedWorld stack (happens stack plans w event).world → AreWithin n w →
    AllByRecursion (IsSendable n (member_of event)) (event_sends mode stack plans w event)
