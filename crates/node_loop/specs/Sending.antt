-- The acts of a packet, and of a step.
use Rattle.std.specs.Prelude.{ℕ, ◌<◌, ◌≤◌, Bool, List, [], ◌∷◌, ◌++◌, map, length, Option}
use Rattle.std.specs.List.{flat_map}
use Rattle.outside.specs.declared.links.TheConstants.{LONGEST_DATAGRAM}
use Rattle.layer_mean.specs.Tree.{LayerTree}
use Rattle.stack_mean.specs.Plan.{Plan}
use Rattle.packet_full.specs.Sent.{sent_packet}
use Rattle.packet_mean.specs.declared.here.Here.{Here}
use Rattle.run_mean.specs.Common.{wire}
use Rattle.run_mean.specs.Journal.{Handed, handed_output}
use Rattle.run_mean.specs.Lines.{refused_line}
use Rattle.run_mean.specs.Member.{Output}
use Rattle.report_text.specs.Told.{change_lines}
use Rattle.packet_full.specs.declared.view.PacketView.{PacketView}
use Rattle.view_core.specs.Refusals.{refusal_meant}
use Rattle.view_core.specs.declared.step.Stepped.{Stepped}
use Rattle.view_core.specs.declared.step.Stepped.TheVariants.{Taken, Refused}
use Rattle.node_laws.specs.Acts.{Act, puts, outputs_acts}

-- A datagram from a member to a member.
abbrev pub sent_to : ℕ → List ℕ → ℕ → Handed
sent_to from bytes to = record { from = from; to = to; bytes = bytes }

-- The bytes of a packet from a member that is here, as it is sent.
abbrev pub datagram_of : List Plan → Here → PacketView → List ℕ
datagram_of plans here v = wire plans (sent_packet here v.dest v.headers.now v.body.now) v.plan

-- These bytes may be handed on to this one of the peers.
abbrev pub MayTake : List ℕ → (peers to : ℕ) → Type 0
MayTake bytes peers to = (to < peers) × (length bytes ≤ LONGEST_DATAGRAM)

-- What outputs hand on.
abbrev pub sends_of_outputs : List Plan → ℕ → List (Output × Option ℕ) → List Handed
sends_of_outputs plans id outs = flat_map (handed_output plans id) outs

-- The acts of a step that was taken or refused.
abbrev pub stepped_acts : List LayerTree → List Plan → (id first : ℕ) → List (Output × Option ℕ) → Stepped → List Bool →
    List Act
stepped_acts stack plans id first outs (Taken common change) failed =
    outputs_acts stack plans id first outs failed ++ map puts (change_lines id change)
stepped_acts stack plans id first outs (Refused refusal) failed = puts (refused_line id (refusal_meant refusal)) ∷ []
