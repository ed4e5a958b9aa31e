-- Datagrams and the packets that they spell.
use Rattle.std.proofs.Common.{◌≡◌, ℕ, suc, List, [], ◌∷◌, length, refl, ap}
use Rattle.msg_core.specs.declared.packet.Packet.{Packet}
use Rattle.layer_mean.specs.Tree.{LayerTree}
use Rattle.stack_mean.specs.Plan.{Plan}
use Rattle.run_mean.specs.World.{World}
use Rattle.group_feed.specs.Standing.{Peopled, SpellPackets, Stands}

-- there are as many of them
count_spelled : (stack : List LayerTree) (plans : List Plan) (datagrams : List (List ℕ)) (packets : List Packet) →
    SpellPackets stack plans datagrams packets → length datagrams ≡ length packets
count_spelled stack plans [] [] spell = refl
count_spelled stack plans [] (p ∷ packets) spell = absurd spell
count_spelled stack plans (bytes ∷ datagrams) [] spell = absurd spell
count_spelled stack plans (bytes ∷ datagrams) (p ∷ packets) spell =
    ap suc (count_spelled stack plans datagrams packets spell.1)

-- so where a group stands, it has a datagram for each packet
pub count_packets : (c : Peopled) (w : World) → Stands c w → length c.spelled ≡ length w.packets
count_packets c w stands = count_spelled c.stack c.plans c.spelled w.packets stands.spelled
