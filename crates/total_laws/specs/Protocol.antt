-- What the proof says of `bottom; local; total`: rank 0 gives each cast its place in one order, and each member
-- delivers the first so many of them.
use Rattle.std.specs.Prelude.{◌≡◌, ℕ, ◌==◌, Bool, true, false, List, [], ◌⊎◌, length, slice_get, slice_index}
use Rattle.std.specs.Prelude.{slice_index_or, Option, Some, None}
use Rattle.std.specs.List.{filter_map}
use Rattle.msg_core.specs.View.{first_view}
use Rattle.msg_core.specs.declared.message.Header.{Header}
use Rattle.msg_core.specs.declared.packet.Dest.{Dest}
use Rattle.msg_core.specs.declared.packet.Dest.TheVariants.{All, Rank}
use Rattle.msg_core.specs.declared.packet.Packet.{Packet}
use Rattle.script_mean.specs.Words.{Word}
use Rattle.script_mean.specs.EventText.{hex_text}
use Rattle.audit_mean.specs.Segment.{Entry, first_segment}
use Rattle.audit_mean.specs.Clash.{whole}
use Rattle.layer_mean.specs.State.{State}
use Rattle.library_rows.specs.OrderStack.{stack}
use Rattle.order_laws.specs.Deliveries.{place_after}
use Rattle.protocol_laws.specs.Protocol.{Protocol, IsProved}
use Rattle.total_laws.specs.Steps.{holding, ordered, asked, sent_alone, none_of_total}

-- Who cast what a packet to all carries: the first field of the header of `total`.
abbrev pub origin_in : List Header → ℕ
origin_in headers = slice_index (slice_index_or headers 2 none_of_total).fields 0

-- A packet of rank 0 to all, as the cast that it orders: who cast it, and the body as a report writes it.
abbrev pub order_to : Bool → Packet → Dest → Option (ℕ × Word)
order_to true p All = Some (origin_in p.message.headers, hex_text p.message.body)
order_to true p (Rank r) = None
order_to false p dest = None

-- A packet as the cast that it orders, where it is one of rank 0 to all.
abbrev pub order_in : Packet → Option (ℕ × Word)
order_in p = order_to (p.sender == 0) p p.dest

-- The one order: all casts in the places that rank 0 gave them.
abbrev pub order_of : List Packet → List (ℕ × Word)
order_of packets = filter_map order_in packets

-- A packet to all is rank 0's, and carries a cast with its place in the order.
pub record IsOrder (packets : List Packet) (p : Packet) : Type 0 where
  pub origin : ℕ
  pub place : ℕ
  pub from_first : p.sender ≡ 0
  pub message : p.message ≡ ordered origin place p.message.body
  pub there : slice_get (order_of packets) place ≡ Some (origin, hex_text p.message.body)

-- A packet to one rank asks, or is sent alone.
abbrev pub IsSentTo : List Packet → Packet → Dest → Type 0
IsSentTo packets p All = IsOrder packets p
IsSentTo packets p (Rank r) = (p.message ≡ asked p.message.body) ⊎ (p.message ≡ sent_alone p.message.body)

-- A delivery of a cast in the first view, as an audit has it.
abbrev pub delivery : (line id peer : ℕ) → Word → Entry
delivery line id peer body = record { line = line; member = id; segment = first_segment; peer = peer; body = body }

-- How many casts a member has delivered.
abbrev pub got : List Entry → ℕ → ℕ
got entries id = place_after whole entries (delivery 0 id 0 [])

-- A member's `next` is how many casts it has delivered. At rank 0 `out` is how many it has ordered, and it has
-- delivered all of them.
pub record HasCounted (packets : List Packet) (entries : List Entry) (id me : ℕ) (states : List State) : Type 0 where
  pub n : ℕ
  pub ltime : ℕ
  pub out : ℕ
  pub next : ℕ
  pub states_are : states ≡ holding me n ltime out next
  pub delivered : next ≡ got entries id
  pub orders : me ≡ 0 → out ≡ length (order_of packets)
  pub at_home : me ≡ 0 → out ≡ next

-- So the delivery at each place is the cast in this place of the order.
abbrev pub total_protocol : Protocol
total_protocol = record {
  IsAt = HasCounted;
  IsSent = λ packets p. IsSentTo packets p p.dest;
  lists = whole;
  table = λ packets name list place. slice_get (order_of packets) place;
}

-- In each group all of this is kept by each step.
abbrev pub TotalIsProved : Type 0
TotalIsProved = (members : ℕ) → IsProved stack (first_view members) total_protocol
