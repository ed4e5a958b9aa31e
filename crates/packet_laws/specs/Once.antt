-- Spellings of packets are unique: of bytes, and of packets.
use Rattle.std.specs.Prelude.{◌≡◌, ℕ, ◌<◌, true, List, slice_get, Some}
use Rattle.msg_core.specs.declared.packet.Packet.{Packet}
use Rattle.layer_mean.specs.Tree.{LayerTree}
use Rattle.packet_mean.specs.Plan.{fits}
use Rattle.stack_mean.specs.Plan.{Plan}
use Rattle.packet_mean.specs.Spelling.{full_form, short_form, full_bytes, short_bytes, IsSpellable, SpellsPacket}

-- Bytes spell at most one packet.
abbrev pub SpelledOnce : Type 0
SpelledOnce = (stack : List LayerTree) (plans : List Plan) (bytes : List ℕ) (p q : Packet) →
    SpellsPacket stack plans bytes p → SpellsPacket stack plans bytes q → p ≡ q

-- A packet that can be spelled has one full spelling.
abbrev pub OneFullSpelling : Type 0
OneFullSpelling = (stack : List LayerTree) (plans : List Plan) (p : Packet) → IsSpellable stack p →
    SpellsPacket stack plans (full_bytes p) p
    × ((bytes : List ℕ) → SpellsPacket stack plans bytes p → slice_get bytes 0 ≡ Some full_form → bytes ≡ full_bytes p)

-- It has one short spelling under each plan of the list that it fits and whose number is a byte; the number stands
-- after the preamble.
abbrev pub OneShortSpelling : Type 0
OneShortSpelling = (stack : List LayerTree) (plans : List Plan) (p : Packet) (k : ℕ) (plan : Plan) →
    IsSpellable stack p → k < 256 →
    slice_get plans k ≡ Some plan → fits plan p ≡ true →
    SpellsPacket stack plans (short_bytes k plan p) p
    × ((bytes : List ℕ) → SpellsPacket stack plans bytes p → slice_get bytes 0 ≡ Some short_form →
    slice_get bytes 19 ≡ Some k →
    bytes ≡ short_bytes k plan p)
