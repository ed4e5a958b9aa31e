-- What a member makes of a datagram: the packet that it spells, or the first cause for which it is refused.
use Rattle.std.specs.Prelude.{◌≡◌, ℕ, ◌<◌, ◌≢◌, ◌==◌, ◌&&◌, ◌||◌, not, nat_lt, nat_le, Bool, true, if◌then◌else◌, List}
use Rattle.std.specs.Prelude.{length, Option, Result, Ok, Err, ok_or}
use Rattle.std.specs.Result.{result_ok, result_err}
use Rattle.msg_core.specs.Parts.{longest_body}
use Rattle.msg_core.specs.View.{member_count}
use Rattle.msg_core.specs.declared.message.Header.{Header}
use Rattle.msg_core.specs.declared.packet.Dest.{Dest}
use Rattle.msg_core.specs.declared.packet.Dest.TheVariants as dest
use Rattle.msg_core.specs.declared.packet.Packet.{Packet}
use Rattle.msg_core.specs.declared.packet.Stray.{Stray}
use Rattle.msg_core.specs.declared.packet.Stray.TheVariants as cause
use Rattle.msg_core.specs.declared.packet.View.{View}
use Rattle.layer_mean.specs.Tree.{LayerTree}
use Rattle.stack_mean.specs.Plan.{Plan}
use Rattle.packet_mean.specs.Spelling.{full_form, short_form}
use Rattle.packet_mean.specs.Reading.{Preamble, preamble, named_plan, headers}
use Rattle.packet_mean.specs.declared.here.Here.{Here}

-- Whether two views are the same: the count of views before them, and the mask of their members' ids.
abbrev pub same_view : View → View → Bool
same_view v w = (v.ltime == w.ltime) && (v.mask == w.mask)

-- A packet to this destination is for a rank: it goes to all, or to this rank.
abbrev pub is_for : ℕ → Dest → Bool
is_for rank dest.All = true
is_for rank (dest.Rank r) = r == rank

infixl 10 ◌>>=◌
-- The second step, if the first met no cause.
abbrev pub ◌>>=◌ : {A B : Type 0} → Result A Stray → (A → Result B Stray) → Result B Stray
Ok x >>= next = next x
Err cause >>= next = Err cause

-- The cause, unless this holds.
abbrev pub unless : Bool → Stray → Result (Unit {0}) Stray
unless holds cause = if holds then Ok tt else Err cause

-- The packet of a preamble, headers and a body.
abbrev pub packet_of : Preamble → List Header → List ℕ → Packet
packet_of p headers body = record {
  group = p.group;
  stamp = p.stamp;
  view = p.view;
  sender = p.sender;
  dest = p.dest;
  message = record { headers = headers; body = body };
}

-- The first cause for which a packet with this preamble isn't meant for a member, if there is one: a group, stamp or
-- view other than the member's; a sender that isn't another rank of the view; a destination that isn't the member.
abbrev pub meant_for : Here → Preamble → Result (Unit {0}) Stray
meant_for here p = do
  _ ← unless (p.group == here.group) cause.Group
  _ ← unless (p.stamp == here.stamp) cause.Stamp
  _ ← unless (same_view p.view here.view) cause.View
  _ ← unless (nat_lt p.sender (member_count here.view) && not (p.sender == here.rank)) cause.Sender
  unless (is_for here.rank p.dest) cause.Dest

-- The packet that bytes spell to a member of a stack with these plans, or the first cause for which they are stray:
-- fewer bytes than a preamble; neither of the two forms; a packet that isn't meant for the member; a short form without
-- the number of a plan of its kind; headers that are cut off or not declared; a body that is too long.
unfoldable pub received : List LayerTree → List Plan → Here → List ℕ → Result Packet Stray
received stack plans here bytes = do
  (p, following) ← ok_or (preamble bytes) cause.Short
  _ ← unless ((p.form == full_form) || (p.form == short_form)) cause.Form
  _ ← meant_for here p
  (plan, following) ← ok_or (named_plan plans p following) cause.Plan
  (headers, body) ← ok_or (headers stack plan following) cause.Chain
  _ ← unless (nat_le (length body) longest_body) cause.Body
  Ok (packet_of p headers body)

-- Why bytes are stray, if they are.
abbrev pub stray : List LayerTree → List Plan → Here → List ℕ → Option Stray
stray stack plans here bytes = result_err (received stack plans here bytes)

-- The packet that bytes spell to a member, if they aren't stray.
abbrev pub packet_spelled : List LayerTree → List Plan → Here → List ℕ → Option Packet
packet_spelled stack plans here bytes = result_ok (received stack plans here bytes)

-- A packet is for a member: it is of the same group, stamp and view, from another rank of the view, to all or to the
-- member's own rank.
pub record IsFor (here : Here) (packet : Packet) : Type 0 where
  pub group : packet.group ≡ here.group
  pub stamp : packet.stamp ≡ here.stamp
  pub view : packet.view ≡ here.view
  pub sender : packet.sender < member_count here.view
  pub other : packet.sender ≢ here.rank
  pub addressed : is_for here.rank packet.dest ≡ true
