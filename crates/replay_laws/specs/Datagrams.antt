-- The datagrams of a run: each packet as it is sent in a mode, with its number.
use Rattle.std.specs.Prelude.{◌≡◌, ℕ, ◌+◌, List, [], ◌∷◌, ◌++◌, map, length, Option, Some, None}
use Rattle.std.specs.List.{AllByRecursion, filter_map, flat_map, range_with_len}
use Rattle.msg_core.specs.declared.packet.Packet.{Packet}
use Rattle.layer_mean.specs.Tree.{LayerTree}
use Rattle.stack_mean.specs.Plan.{Plan}
use Rattle.script_mean.specs.Event.{member_of}
use Rattle.script_mean.specs.declared.event.ScriptEvent.{ScriptEvent}
use Rattle.script_mean.specs.declared.script.Script.{Script}
use Rattle.run_mean.specs.Mode.{Mode}
use Rattle.run_mean.specs.Common.{as_sent, wire}
use Rattle.run_mean.specs.Lines.{packet_line, wire_line}
use Rattle.run_mean.specs.Member.{Output, packet}
use Rattle.run_mean.specs.World.{World, packet_number, Did, taken}
use Rattle.run_mean.specs.Report.{Moment, moments, first_number, wanted_lines}

-- A packet by its number, with the id of the member that sends it, and the bytes as which it is sent.
pub record Datagram : Type 0 where
  pub number : ℕ
  pub member : ℕ
  pub packet : Packet
  pub bytes : List ℕ

-- The datagrams of a member's outputs with their plans, the first of which has this number.
abbrev pub datagrams_from : List Plan → (id k : ℕ) → List (Output × Option ℕ) → List Datagram
datagrams_from plans id k [] = []
datagrams_from plans id k ((packet p, plan) ∷ sent) =
    record { number = k; member = id; packet = p; bytes = wire plans p plan } ∷ datagrams_from plans id (k + 1) sent
datagrams_from plans id k (x ∷ sent) = datagrams_from plans id k sent

-- The datagrams of what an event yielded, of a moment, and of moments, in a mode.
abbrev pub did_send : Mode → List LayerTree → List Plan → (id k : ℕ) → Did → List Datagram
did_send mode stack plans id k (taken s) = datagrams_from plans id k (as_sent mode stack plans s)
did_send mode stack plans id k _ = []

abbrev pub moment_sends : Mode → List LayerTree → List Plan → Moment → List Datagram
moment_sends mode stack plans m = did_send mode stack plans (member_of m.event) (first_number m) m.happening.did

abbrev pub datagrams : Mode → List LayerTree → List Plan → List Moment → List Datagram
datagrams mode stack plans run = flat_map (moment_sends mode stack plans) run

-- The world after a run from a world.
abbrev pub world_after : World → List Moment → World
world_after w [] = w
world_after w (m ∷ run) = world_after m.happening.world run

-- Datagrams go from a world to one after it: the packets of the second are those of the first and then the datagrams',
-- in order; the numbers go on from those of the first; and each datagram has the number of its own packet. The
-- datagrams of a run go from one to the other so, in any mode.
pub record AreNumbered (before after : World) (ds : List Datagram) : Type 0 where
  pub packets : after.packets ≡ before.packets ++ map (λ d. d.packet) ds
  pub numbers : map (λ d. d.number) ds ≡ range_with_len (length before.packets + 1) (length ds)
  pub each : AllByRecursion (λ d. packet_number after d.number ≡ Some d.packet) ds

abbrev pub DatagramsAreNumbered : Type 0
DatagramsAreNumbered = (mode : Mode) (stack : List LayerTree) (plans : List Plan) (w : World)
    (events : List ScriptEvent) →
    let run = moments stack plans w events in AreNumbered w (world_after w run) (datagrams mode stack plans run)

-- A line, and the datagram whose packet it says, if it says one.
abbrev pub Said : Type 0
Said = List ℕ × Option Datagram

-- A line, and after it the line of its datagram's bytes.
abbrev pub with_bytes : Said → List (List ℕ)
with_bytes (line, None) = line ∷ []
with_bytes (line, Some d) = line ∷ wire_line d.number d.bytes ∷ []

-- A line with a datagram is the line of its packet, with its number and its member.
abbrev pub IsSaid : List LayerTree → Said → Type 0
IsSaid stack (line, None) = Unit {0}
IsSaid stack (line, Some d) = line ≡ packet_line stack d.number d.member d.packet

-- Some lines are others with the line of a datagram's bytes after that of its packet, for each of these datagrams in
-- order.
pub record AreWoven (stack : List LayerTree) (report written : List (List ℕ)) (ds : List Datagram) : Type 0 where
  pub lines : List Said
  pub report_is : map (λ x. x.0) lines ≡ report
  pub written_is : flat_map with_bytes lines ≡ written
  pub datagrams_are : filter_map (λ x. x.1) lines ≡ ds
  pub said : AllByRecursion (IsSaid stack) lines

-- The lines of a run with its packets' bytes in a mode are woven so from those without, whatever is counted.
abbrev pub LinesAreWoven : Type 0
LinesAreWoven = (mode : Mode) (count : Option Mode) (stack : List LayerTree) (plans : List Plan) (script : Script)
    (run : List Moment) →
    AreWoven stack (wanted_lines stack plans (record { wires = None; count = count }) script run)
    (wanted_lines stack plans (record { wires = Some mode; count = count }) script run) (datagrams mode stack plans run)
