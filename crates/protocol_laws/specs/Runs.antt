-- A property that each step of a member keeps holds along every run, whatever the network loses, repeats or reorders.
use Rattle.std.specs.Prelude.{◌≡◌, ℕ, suc, ◌<◌, ◌≤◌, ◌^◌, Bool, true, List, [], ◌∷◌, ◌++◌, length, slice_get, Some}
use Rattle.std.specs.List.{AllByRecursion, flat_map}
use Rattle.msg_core.specs.View.{most_members}
use Rattle.msg_core.specs.declared.packet.Packet.{Packet}
use Rattle.msg_core.specs.declared.packet.View.{View}
use Rattle.script_mean.specs.declared.event.ScriptEvent.{ScriptEvent}
use Rattle.script_mean.specs.declared.event.ScriptEvent.TheVariants as script
use Rattle.script_mean.specs.declared.script.Script.{Script}
use Rattle.audit_mean.specs.Line.{ReportLine, silent}
use Rattle.layer_mean.specs.Tree.{LayerTree}
use Rattle.layer_mean.specs.State.{State}
use Rattle.packet_mean.specs.Received.{IsFor}
use Rattle.packet_mean.specs.Spelling.{SpellsPacket}
use Rattle.stack_mean.specs.Plan.{Plan}
use Rattle.stack_mean.specs.Plans.{plans_of}
use Rattle.run_mean.specs.Member.{inside, Entered, from_peer, step_from}
use Rattle.run_mean.specs.World.{World, member_at, here_of, world_after, first_world, packet_number, happens}
use Rattle.run_mean.specs.Report.{Moment, run_of}
use Rattle.chain_laws.specs.Runs.{TypedStack}
use Rattle.member_laws.specs.Members.{IsGivenEvent}
use Rattle.order_laws.specs.Said.{step_said, moment_said}

-- One of these packets.
pub record IsOneOf (packets : List Packet) (p : Packet) : Type 0 where
  pub place : ℕ
  pub listed : slice_get packets place ≡ Some p

-- What comes to a member where no datagram is forged: anything of its application and its clock, and of the network a
-- packet that was sent and that is for the member. It may come late, twice, or never.
abbrev pub Comes : World → View → ℕ → Entered → Type 0
Comes w view id (from_peer p) = IsOneOf w.packets p × IsFor (here_of w view id) p
Comes w view id _ = Unit {0}

-- A property of a world, of what its report has said so far, and of how many events are left.
abbrev pub Property : Type 1
Property = (left : ℕ) → World → (past : List ReportLine) → Type 0

-- What keeps a property: an event that changes nothing, a line that tells nothing, and each step of a member.
pub record IsKept (stack : List LayerTree) (P : Property) : Type 0 where
  pub passes : (left : ℕ) (w : World) (past : List ReportLine) → P (suc left) w past → P left w past
  pub silence : (left : ℕ) (w : World) (past : List ReportLine) → P left w past → P left w (past ++ silent ∷ [])
  pub steps : (left : ℕ) (w : World) (past : List ReportLine) (id : ℕ) (view : View) (states : List State)
      (what : Entered) →
      P (suc left) w past → member_at w id ≡ inside view states → Comes w view id what →
      P left (world_after w view id (step_from stack (here_of w view id) id states what))
      (past ++ step_said id (step_from stack (here_of w view id) id states what))

-- An event that isn't a raw datagram.
abbrev pub IsUnforged : ScriptEvent → Type 0
IsUnforged (script.Raw id bytes) = ⊥
IsUnforged _ = Unit {0}

-- A script of bytes and numbers without raw datagrams, for a group of at most the most members.
pub record IsFair (s : Script) : Type 0 where
  pub group : s.group < 2 ^ 32
  pub stamp : s.stamp < 2 ^ 32
  pub members : s.members ≤ most_members
  pub given : AllByRecursion IsGivenEvent s.events
  pub unforged : AllByRecursion IsUnforged s.events

-- The world at the end of a run, and all packets that were sent in the run of a script.
abbrev pub last_world : World → List Moment → World
last_world w [] = w
last_world w (m ∷ run) = last_world m.happening.world run

-- The packets in that world.
abbrev pub all_sent : List LayerTree → Script → List Packet
all_sent stack s =
    (last_world (first_world stack s.group s.stamp s.members) (run_of stack (plans_of stack) s)).packets

-- What holds at first and is kept holds at the end of the run of every fair script. It is a lemma, `runs_keep` of
-- `proofs/`, since no contract speaks of all predicates.
abbrev pub RunsKeep : Type 1
RunsKeep = (stack : List LayerTree) (P : Property) (s : Script) → TypedStack stack → IsKept stack P → IsFair s →
    P (length s.events) (first_world stack s.group s.stamp s.members) [] →
    P 0 (last_world (first_world stack s.group s.stamp s.members) (run_of stack (plans_of stack) s))
    (flat_map (moment_said stack) (run_of stack (plans_of stack) s))

-- Its case of a test that computes, which is a contract.
abbrev pub Test : Type 0
Test = (left : ℕ) → World → (past : List ReportLine) → Bool

-- What a test that passes says.
abbrev pub Passes : Test → Property
Passes test left w past = test left w past ≡ true

-- A test that passes at first, and that each step keeps, passes at the end of the run of every fair script.
abbrev pub TestsKeep : Type 0
TestsKeep = (stack : List LayerTree) (test : Test) (s : Script) → TypedStack stack → IsKept stack (Passes test) →
    IsFair s → Passes test (length s.events) (first_world stack s.group s.stamp s.members) [] →
    Passes test 0 (last_world (first_world stack s.group s.stamp s.members) (run_of stack (plans_of stack) s))
    (flat_map (moment_said stack) (run_of stack (plans_of stack) s))

-- A raw datagram that spells a packet which was sent, in full or short, is as good as this packet's `give`: so what
-- holds of scripts without raw datagrams holds of those whose raw datagrams all spell what was sent.
abbrev pub RawIsGiven : Type 0
RawIsGiven = (stack : List LayerTree) (plans : List Plan) (w : World) (id k : ℕ) (bytes : List ℕ) (p : Packet) →
    packet_number w k ≡ Some p → SpellsPacket stack plans bytes p →
    happens stack plans w (script.Raw id bytes) ≡ happens stack plans w (script.Give k id)
