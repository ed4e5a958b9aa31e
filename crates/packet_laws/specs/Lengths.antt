-- How long datagrams are.
use Rattle.std.specs.Prelude.{◌≡◌, ℕ, ◌<◌, ◌≤◌, ◌↔◌, All, List, length, None}
use Rattle.msg_core.specs.declared.packet.Packet.{Packet}
use Rattle.layer_mean.specs.Tree.{LayerTree}
use Rattle.stack_mean.specs.Plan.{Plan}
use Rattle.packet_mean.specs.Reading.{preamble}
use Rattle.packet_mean.specs.Spelling.{SpellsPacket}
use Rattle.msg_core.specs.Headers.{most_places, most_fields}

-- A preamble is missing exactly where there are fewer than 19 bytes.
abbrev pub PreambleIs19 : Type 0
PreambleIs19 = (bytes : List ℕ) → (preamble bytes ≡ None) ↔ (length bytes < 19)

-- A stack has at most 24 places, and each header that is declared at most four fields.
pub record IsWithinLimits (stack : List LayerTree) : Type 0 where
  pub places : length stack ≤ most_places
  pub fields : All (λ layer. All (λ header. header.fields ≤ most_fields) layer.headers) stack

-- Bytes that spell a packet of such a stack are at most 8,619, in either form: a preamble, 17 for each place, and a
-- body.
abbrev pub DatagramsFit : Type 0
DatagramsFit = (stack : List LayerTree) (plans : List Plan) (bytes : List ℕ) (p : Packet) → IsWithinLimits stack →
    SpellsPacket stack plans bytes p → length bytes ≤ 8619
