-- What is written short is read again.
use Rattle.std.specs.Prelude.{◌≡◌, ℕ, ◌<◌, List, Some, Ok}
use Rattle.msg_core.specs.declared.packet.Packet.{Packet}
use Rattle.layer_mean.specs.Tree.{LayerTree}
use Rattle.packet_mean.specs.Reading.{preamble_of}
use Rattle.packet_mean.specs.Received.{◌>>=◌, meant_for, received}
use Rattle.packet_mean.specs.Spelling.{full_form, IsSpellable}
use Rattle.packet_mean.specs.declared.here.Here.{Here}
use Rattle.stack_mean.specs.Plan.{Plan}
use Rattle.packet_short.specs.Shortened.{shortened}

-- A member reads a packet's short form, under a plan whose number is a byte, as this very packet, or refuses it for the
-- first cause for which the packet isn't meant for the member.
abbrev pub WrittenShortIsRead : Type 0
WrittenShortIsRead = (stack : List LayerTree) (plans : List Plan) (here : Here) (packet : Packet) (k : ℕ)
    (bytes : List ℕ) →
    IsSpellable stack packet → k < 256 → shortened plans k packet ≡ Some bytes →
    received stack plans here bytes ≡ (meant_for here (preamble_of full_form packet) >>= λ _. Ok packet)
