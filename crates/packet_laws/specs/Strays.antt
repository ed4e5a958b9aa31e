-- Which datagrams a member takes, and which packet each is.
use Rattle.std.specs.Prelude.{◌≡◌, ℕ, ◌<◌, ◌^◌, ◌↔◌, All, IfSome, List, None, Some, Ok}
use Rattle.msg_core.specs.declared.packet.Packet.{Packet}
use Rattle.layer_mean.specs.Tree.{LayerTree}
use Rattle.stack_mean.specs.Plan.{Plan}
use Rattle.packet_mean.specs.Reading.{preamble_of}
use Rattle.packet_mean.specs.Received.{◌>>=◌, meant_for, received, stray, packet_spelled, IsFor}
use Rattle.packet_mean.specs.Spelling.{full_form, AreBytes, SpellsPacket}
use Rattle.packet_mean.specs.declared.here.Here.{Here}

-- The constants of plans are numbers below 2^32.
abbrev pub AreNumbered : List Plan → Type 0
AreNumbered plans = All (λ plan. All (λ field. IfSome field (λ constant. constant < 2 ^ 32)) plan.fields) plans

-- However bytes spell a packet, a member takes them as this packet, or refuses them for the first cause for which the
-- packet isn't meant for it: the form in which a packet came plays no part, and neither do the plans.
abbrev pub ReceivedAsMeant : Type 0
ReceivedAsMeant = (stack : List LayerTree) (plans : List Plan) (here : Here) (bytes : List ℕ) (p : Packet) →
    SpellsPacket stack plans bytes p →
    received stack plans here bytes ≡ (meant_for here (preamble_of full_form p) >>= λ _. Ok p)

-- A member takes bytes as a packet exactly where they spell it and it is for the member.
abbrev pub TakenAsSpelled : Type 0
TakenAsSpelled = (stack : List LayerTree) (plans : List Plan) (here : Here) (bytes : List ℕ) (p : Packet) →
    AreNumbered plans → AreBytes bytes →
    (received stack plans here bytes ≡ Ok p) ↔ (SpellsPacket stack plans bytes p × IsFor here p)

-- Bytes aren't stray exactly where they spell a packet that is for the member, and they are then taken as this packet.
abbrev pub StrayOrSpelled : Type 0
StrayOrSpelled = (stack : List LayerTree) (plans : List Plan) (here : Here) (bytes : List ℕ) → AreNumbered plans →
    AreBytes bytes →
    ((stray stack plans here bytes ≡ None) ↔ ((p : Packet) × SpellsPacket stack plans bytes p × IsFor here p))
    × ((p : Packet) → SpellsPacket stack plans bytes p → IsFor here p → packet_spelled stack plans here bytes ≡ Some p)
