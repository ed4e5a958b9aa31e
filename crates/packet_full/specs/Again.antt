-- What is written is read again.
use Rattle.std.specs.Prelude.{◌≡◌, List, [], Ok}
use Rattle.msg_core.specs.declared.packet.Packet.{Packet}
use Rattle.layer_mean.specs.Tree.{LayerTree}
use Rattle.packet_mean.specs.Reading.{preamble_of}
use Rattle.packet_mean.specs.Received.{◌>>=◌, meant_for, received}
use Rattle.packet_mean.specs.Spelling.{full_form, full_bytes, IsSpellable}
use Rattle.packet_mean.specs.declared.here.Here.{Here}

-- A member takes the bytes of a packet in full as this very packet, or refuses them with the first cause for which the
-- packet isn't meant for the member.
abbrev pub WrittenIsRead : Type 0
WrittenIsRead = (stack : List LayerTree) (here : Here) (packet : Packet) → IsSpellable stack packet →
    received stack [] here (full_bytes packet) ≡ (meant_for here (preamble_of full_form packet) >>= λ _. Ok packet)
