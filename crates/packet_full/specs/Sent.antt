-- The packet that a member sends, by its parts.
use Rattle.std.specs.Prelude.{ℕ, List}
use Rattle.msg_core.specs.declared.message.Header.{Header}
use Rattle.msg_core.specs.declared.packet.Dest.{Dest}
use Rattle.msg_core.specs.declared.packet.Packet.{Packet}
use Rattle.packet_mean.specs.declared.here.Here.{Here}

-- The packet of a member that is here, to a destination, with these headers and this body.
abbrev pub sent_packet : Here → Dest → List Header → List ℕ → Packet
sent_packet here dest headers body = record {
  group = here.group;
  stamp = here.stamp;
  view = here.view;
  sender = here.rank;
  dest = dest;
  message = record { headers = headers; body = body };
}
