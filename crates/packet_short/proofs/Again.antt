-- A short form is one spelling of its packet.
use Rattle.std.proofs.Common.{◌≡◌, ℕ, ◌<◌, List, Some, subst}
use Rattle.std.specs.Prelude.{slice_get}
use Rattle.msg_core.specs.declared.packet.Packet.{Packet}
use Rattle.layer_mean.specs.Tree.{LayerTree}
use Rattle.stack_mean.specs.Plan.{Plan}
use Rattle.packet_mean.specs.Plan.{fits}
use Rattle.packet_mean.specs.Spelling.{short_bytes, IsSpellable, SpellsPacket}
use Rattle.packet_laws.proofs.Numbers.{through}
use Rattle.packet_laws.proofs.Once.{one_short_spelling}
use Rattle.packet_laws.proofs.Planned.{passed}
use Rattle.packet_laws.proofs.Strays.{received_as_meant}
use Rattle.packet_short.specs.Again.{WrittenShortIsRead}
use Rattle.packet_short.specs.Shortened.{shortened}

spells : (stack : List LayerTree) (plans : List Plan) (packet : Packet) (k : ℕ) (bytes : List ℕ) →
    IsSpellable stack packet → k < 256 →
    shortened plans k packet ≡ Some bytes → SpellsPacket stack plans bytes packet
spells stack plans packet k bytes is small short =
    through _ (slice_get plans k) _ short (λ plan listed written.
    let test = passed (fits plan packet) (short_bytes k plan packet) bytes written in
    subst (λ bs. SpellsPacket stack plans bs packet) test.1
    (one_short_spelling stack plans packet k plan is small listed test.0).0)

pub again : WrittenShortIsRead
again stack plans here packet k bytes is small short =
    received_as_meant stack plans here bytes packet (spells stack plans packet k bytes is small short)
