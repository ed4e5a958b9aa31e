-- How a protocol is proved whose members stay in one view: what is so of each member, of each packet and of the
-- deliveries, and that one step of one member keeps it.
use Rattle.std.specs.Prelude.{◌≡◌, ◌≢◌, ℕ, ◌+◌, ◌<◌, ◌≤◌, ◌^◌, List, [], ◌++◌, length, map, slice_get}
use Rattle.std.specs.Prelude.{Some, None}
use Rattle.std.specs.List.{AllByRecursion, enumerate_from, filter_map, flat_map}
use Rattle.msg_core.specs.View.{rank, member_count, first_view}
use Rattle.msg_core.specs.declared.packet.Packet.{Packet}
use Rattle.msg_core.specs.declared.packet.View.{View}
use Rattle.script_mean.specs.declared.script.Script.{Script}
use Rattle.audit_mean.specs.Line.{ReportLine}
use Rattle.audit_mean.specs.Segment.{Name, Entry, entries_of}
use Rattle.audit_mean.specs.Clash.{Lists, clashes_of}
use Rattle.layer_mean.specs.Tree.{LayerTree}
use Rattle.layer_mean.specs.State.{State}
use Rattle.layer_mean.specs.Visit.{fresh}
use Rattle.packet_mean.specs.Received.{IsFor}
use Rattle.packet_mean.specs.declared.here.Here.{Here}
use Rattle.stack_mean.specs.Plans.{plans_of}
use Rattle.run_mean.specs.Member.{Member, inside, out, Entered, from_peer, Step, step_from, packet_in}
use Rattle.run_mean.specs.World.{World, member_at}
use Rattle.run_mean.specs.Report.{run_of}
use Rattle.chain_laws.specs.Runs.{TypedStack}
use Rattle.order_laws.specs.Deliveries.{Table, AreTold}
use Rattle.order_laws.specs.Said.{output_said, report_said}
use Rattle.order_laws.specs.Calm.{deliveries_from}
use Rattle.protocol_laws.specs.Runs.{IsOneOf, IsFair, all_sent}

-- What a proof says of a protocol. `IsAt`: what is so of the states of a member, by its id and its rank, given all
-- packets that were sent and all deliveries so far. `IsSent`: what is so of each packet. `lists`, `table`: what members
-- deliver, and at which place.
pub record Protocol : Type 1 where
  pub IsAt : List Packet → List Entry → (id me : ℕ) → List State → Type 0
  pub IsSent : List Packet → Packet → Type 0
  pub lists : Lists
  pub table : List Packet → Table

-- A member that is in a view is in this one, and its states are as the protocol says.
pub record IsIn (p : Protocol) (v : View) (packets : List Packet) (entries : List Entry) (id : ℕ) (view : View)
    (states : List State) : Type 0 where
  pub me : ℕ
  pub view_is : view ≡ v
  pub rank_is : rank v id ≡ Some me
  pub at : p.IsAt packets entries id me states

-- A member of the view is as the protocol says; of one that is out nothing is asked.
abbrev pub IsMember : Protocol → View → List Packet → List Entry → ℕ → Member → Type 0
IsMember p v packets entries id (inside view states) = IsIn p v packets entries id view states
IsMember p v packets entries id out = Unit {0}

-- A protocol stands in a world after these deliveries: each member, each packet and each delivery is as it says, and
-- fewer than 2^32 packets can be sent by the end.
pub record Stands (p : Protocol) (v : View) (left : ℕ) (w : World) (entries : List Entry) : Type 0 where
  pub members : (id : ℕ) → IsMember p v w.packets entries id (member_at w id)
  pub packets : (place : ℕ) (q : Packet) → slice_get w.packets place ≡ Some q → p.IsSent w.packets q
  pub told : AreTold p.lists (p.table w.packets) [] entries
  pub few : length w.packets + left < 2 ^ 32

-- The packets of a step, and its deliveries, with lines from n on.
abbrev pub sent_in : Step → List Packet
sent_in s = filter_map packet_in s.outputs

-- The deliveries of a step of this member.
abbrev pub delivered_in : ℕ → ℕ → Step → List Entry
delivered_in n id s = deliveries_from n (flat_map (output_said id) s.outputs)

-- What a step leaves: the member as the protocol says, given its new packets and deliveries too, and these as it says.
pub record Leaves (p : Protocol) (packets : List Packet) (entries : List Entry) (id me : ℕ) (states : List State)
    (more : List Packet) (delivered : List Entry) : Type 0 where
  pub at : p.IsAt (packets ++ more) (entries ++ delivered) id me states
  pub sent : AllByRecursion (p.IsSent (packets ++ more)) more
  pub told : AreTold p.lists (p.table (packets ++ more)) entries delivered

-- A step that leaves this, whatever the numbers of its lines. It installs no view, and sends at most one packet.
pub record Yields (p : Protocol) (packets : List Packet) (entries : List Entry) (id me : ℕ) (s : Step) : Type 0 where
  pub stays : s.installs ≡ None
  pub one : length (sent_in s) ≤ 1
  pub leaves : (n : ℕ) → Leaves p packets entries id me s.work.states (sent_in s) (delivered_in n id s)

-- Where a member of a rank stands.
abbrev pub here_at : (group stamp : ℕ) → View → ℕ → Here
here_at group stamp v me = record { group = group; stamp = stamp; view = v; rank = me }

-- What arrives: a packet is one that was sent, as the protocol says, and it is for the member.
pub record Arrived (p : Protocol) (packets : List Packet) (here : Here) (q : Packet) : Type 0 where
  pub listed : IsOneOf packets q
  pub sent : p.IsSent packets q
  pub meant : IsFor here q

-- What enters a step: a packet arrived, and of other inputs nothing is asked.
abbrev pub Arrives : Protocol → List Packet → Here → Entered → Type 0
Arrives p packets here (from_peer q) = Arrived p packets here q
Arrives p packets here _ = Unit {0}

-- What another member sends and delivers.
pub record IsOther (id me : ℕ) (more : List Packet) (delivered : List Entry) : Type 0 where
  pub other : ℕ
  pub rank : ℕ
  pub other_id : other ≢ id
  pub other_rank : rank ≢ me
  pub senders : AllByRecursion (λ q. q.sender ≡ rank) more
  pub members : AllByRecursion (λ e. e.member ≡ other) delivered

-- What is to be proved of a protocol in a view: a fresh member is as it says; what another member sends and delivers
-- changes nothing for a member; packets that are sent change nothing for earlier ones, nor for what the table told; and
-- each step leaves what it says.
pub record IsProved (stack : List LayerTree) (v : View) (p : Protocol) : Type 0 where
  pub begins : (id me : ℕ) → rank v id ≡ Some me →
      p.IsAt [] [] id me (map (λ layer. fresh layer me (member_count v) v.ltime) stack)
  pub others : (packets more : List Packet) (entries delivered : List Entry) (id me : ℕ) (states : List State) →
      IsOther id me more delivered → p.IsAt packets entries id me states →
      p.IsAt (packets ++ more) (entries ++ delivered) id me states
  pub sent : (packets more : List Packet) (q : Packet) → p.IsSent packets q → p.IsSent (packets ++ more) q
  pub tells : (packets more : List Packet) (name : Name) (list place : ℕ) (x : ℕ × List ℕ) →
      p.table packets name list place ≡ Some x → p.table (packets ++ more) name list place ≡ Some x
  pub steps : (group stamp : ℕ) (packets : List Packet) (entries : List Entry) (id me : ℕ) (states : List State)
      (what : Entered) →
      rank v id ≡ Some me → length packets + 1 < 2 ^ 32 → p.IsAt packets entries id me states →
      Arrives p packets (here_at group stamp v me) what →
      Yields p packets entries id me (step_from stack (here_at group stamp v me) id states what)

-- What is so of the report of a run in which these packets were sent: each delivery is what the table tells, and none
-- clashes with another.
pub record Keeps (p : Protocol) (packets : List Packet) (lines : List ReportLine) : Type 0 where
  pub told : AreTold p.lists (p.table packets) [] (entries_of (enumerate_from 1 lines))
  pub kept : clashes_of p.lists (entries_of (enumerate_from 1 lines)) ≡ []

-- A protocol that is proved keeps its order in every fair script of fewer than 2^32 events: with the lists of each peer
-- that is the law `sender`, and with the whole list `total`. It is a lemma, `protocols_keep` of `proofs/`, since no
-- contract speaks of all predicates; the contracts of the crates of protocols are its cases.
abbrev pub ProtocolsKeep : Type 1
ProtocolsKeep = (stack : List LayerTree) (p : Protocol) (s : Script) → TypedStack stack → IsFair s →
    length s.events < 2 ^ 32 → IsProved stack (first_view s.members) p →
    Keeps p (all_sent stack s) (report_said stack (run_of stack (plans_of stack) s))
