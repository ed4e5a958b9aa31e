-- What the proof says of `fifo`: what a member has counted, what each packet carries, and which delivery stands where.
use Rattle.std.specs.Prelude.{◌≡◌, ℕ, ◌==◌, ◌<◌, Bool, true, false, List, [], ◌∷◌, length, slice_get, slice_index}
use Rattle.std.specs.Prelude.{Option, Some, None}
use Rattle.std.specs.List.{filter_map}
use Rattle.msg_core.specs.View.{member_count, first_view}
use Rattle.msg_core.specs.declared.packet.Dest.{Dest}
use Rattle.msg_core.specs.declared.packet.Dest.TheVariants.{All, Rank}
use Rattle.msg_core.specs.declared.packet.Packet.{Packet}
use Rattle.msg_core.specs.declared.packet.View.{View}
use Rattle.script_mean.specs.Words.{Word}
use Rattle.script_mean.specs.EventText.{hex_text}
use Rattle.audit_mean.specs.Segment.{Entry, first_segment}
use Rattle.audit_mean.specs.Clash.{of_each_peer}
use Rattle.layer_mean.specs.State.{State}
use Rattle.order_laws.specs.Deliveries.{place_after}
use Rattle.protocol_laws.specs.Protocol.{Protocol, IsProved}
use Rattle.fifo_laws.specs.Layer.{stack}
use Rattle.fifo_laws.specs.Steps.{holding, numbered}

-- A packet as a cast of a rank: who cast it, and the body as a report writes it.
abbrev pub cast_to : Bool → Packet → Dest → Option (ℕ × Word)
cast_to true p All = Some (p.sender, hex_text p.message.body)
cast_to true p (Rank r) = None
cast_to false p dest = None

-- A packet as a cast of this peer, where it is one.
abbrev pub cast_in : ℕ → Packet → Option (ℕ × Word)
cast_in peer p = cast_to (p.sender == peer) p p.dest

-- What a rank has cast, in order: its packets to all.
abbrev pub casts_of : List Packet → ℕ → List (ℕ × Word)
casts_of packets peer = filter_map (cast_in peer) packets

-- A packet to all carries its number: it is the cast of this number of its sender.
pub record IsCast (packets : List Packet) (p : Packet) : Type 0 where
  pub number : ℕ
  pub message : p.message ≡ numbered number p.message.body
  pub cast : slice_get (casts_of packets p.sender) number ≡ Some (p.sender, hex_text p.message.body)

-- A packet to all is a cast with its number; of one to a rank nothing is asked.
abbrev pub IsSentTo : List Packet → Packet → Dest → Type 0
IsSentTo packets p All = IsCast packets p
IsSentTo packets p (Rank r) = Unit {0}

-- A delivery of a cast in the first view, as an audit has it.
abbrev pub delivery : (line id peer : ℕ) → Word → Entry
delivery line id peer body = record { line = line; member = id; segment = first_segment; peer = peer; body = body }

-- How many of a peer's casts a member has delivered.
abbrev pub got : List Entry → (id peer : ℕ) → ℕ
got entries id peer = place_after of_each_peer entries (delivery 0 id peer [])

-- A member has counted its casts in k, and what is due from each peer, e, is how many of its casts it has delivered.
pub record HasCounted (v : View) (packets : List Packet) (entries : List Entry) (id me : ℕ) (states : List State) : Type
    0 where
  pub n : ℕ
  pub ltime : ℕ
  pub k : ℕ
  pub e : List ℕ
  pub states_are : states ≡ holding me n ltime k e ∷ []
  pub counted : k ≡ length (casts_of packets me)
  pub row : length e ≡ member_count v
  pub due : (peer : ℕ) → peer < member_count v → slice_index e peer ≡ got entries id peer

-- So the delivery at each place of a peer's list is the peer's cast of this number.
abbrev pub fifo_protocol : View → Protocol
fifo_protocol v = record {
  IsAt = HasCounted v;
  IsSent = λ packets p. IsSentTo packets p p.dest;
  lists = of_each_peer;
  table = λ packets name peer place. slice_get (casts_of packets peer) place;
}

-- In each group all of this is kept by each step.
abbrev pub FifoIsProved : Type 0
FifoIsProved = (members : ℕ) → IsProved stack (first_view members) (fifo_protocol (first_view members))
