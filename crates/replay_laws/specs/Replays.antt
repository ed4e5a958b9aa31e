-- What holds of a replay from its bytes to what is written: the report is the layered one, its datagrams expand to the
-- layered packets, and they are short exactly where it is due.
use Rattle.std.specs.Prelude.{◌≡◌, ◌↔◌, ℕ, ◌<◌, Bool, true, false, List, ◌++◌, map, slice_get, Option, Some}
use Rattle.std.specs.Prelude.{option_to_list, Ok}
use Rattle.std.specs.List.{AllByRecursion, concat, sum_by}
use Rattle.layer_mean.specs.declared.run.Case.{Case}
use Rattle.layer_mean.specs.Tree.{LayerTree}
use Rattle.packet_mean.specs.Spelling.{SpellsPacket}
use Rattle.stack_mean.specs.Plans.{plans_of}
use Rattle.stack_mean.specs.Shape.{Known, Shape, shape}
use Rattle.script_mean.specs.Event.{member_of}
use Rattle.script_mean.specs.declared.event.ScriptEvent.{ScriptEvent}
use Rattle.script_mean.specs.declared.script.Script.{Script}
use Rattle.run_mean.specs.Mode.{Mode}
use Rattle.run_mean.specs.Common.{as_sent, entry_of, first_missed, wire}
use Rattle.run_mean.specs.Member.{packet, Step}
use Rattle.run_mean.specs.World.{World, first_world, packet_number, Did, taken}
use Rattle.run_mean.specs.Report.{Moment, moments, visits_of, run_of, visits_line, report_lines, mode_if}
use Rattle.output_mean.specs.Output.{Replays}
use Rattle.chain_laws.specs.Runs.{TypedStack}
use Rattle.member_laws.specs.Members.{IsGivenEvent, IsChainedWorld}
use Rattle.replay_laws.specs.Datagrams.{Datagram, datagrams, world_after, AreWoven}
use Rattle.replay_laws.specs.Missed.{shape_decisions}
use Rattle.replay_laws.specs.Short.{IsDueShort, AreShort}
use Rattle.replay_laws.specs.Standing.{IsStandingWorld}
use Rattle.replay_laws.specs.Steps.{IsReplay}

-- A datagram is that of an output of a step of a run: the moment in which its member took the step, the output's
-- position, and the plan under which it is sent, if there is one.
pub record IsSent (mode : Mode) (stack : List LayerTree) (run : List Moment) (d : Datagram) : Type 0 where
  pub event : ℕ
  pub moment : Moment
  pub listed : slice_get run event ≡ Some moment
  pub step : Step
  pub member : member_of moment.event ≡ d.member
  pub took : moment.happening.did ≡ taken step
  pub position : ℕ
  pub plan : Option ℕ
  pub stands : slice_get (as_sent mode stack (plans_of stack) step) position ≡ Some (packet d.packet, plan)
  pub bytes_are : d.bytes ≡ wire (plans_of stack) d.packet plan

-- A datagram expands to the layered packet of its number: it spells it, short or in full. It is short exactly where the
-- mode is that of bypasses, its step is a common cast or send of an application, and the output's position has a plan.
pub record Expands (mode : Mode) (stack : List LayerTree) (after : World) (run : List Moment) (d : Datagram) : Type 0
  where
    pub numbered : packet_number after d.number ≡ Some d.packet
    pub spells : SpellsPacket stack (plans_of stack) d.bytes d.packet
    pub sent : IsSent mode stack run d
    pub short : AreShort d.bytes ↔ IsDueShort mode stack sent.step sent.position

-- There is one datagram for each packet of a run from a world, in order, and each expands to its own. (The world and
-- the moments know of no mode.)
pub record RunExpands (mode : Mode) (stack : List LayerTree) (w : World) (run : List Moment) : Type 0 where
  pub packets : (world_after w run).packets ≡ w.packets ++
      map (λ d. d.packet) (datagrams mode stack (plans_of stack) run)
  pub each : AllByRecursion (Expands mode stack (world_after w run) run) (datagrams mode stack (plans_of stack) run)

-- This holds in each run of events that are made of bytes and numbers, from a chained world whose members stand in
-- their views.
abbrev pub RunsExpand : Type 0
RunsExpand = (mode : Mode) (stack : List LayerTree) (w : World) (events : List ScriptEvent) → TypedStack stack →
    AllByRecursion IsGivenEvent events →
    IsChainedWorld stack w → IsStandingWorld w → RunExpands mode stack w (moments stack (plans_of stack) w events)

-- The world in which a script begins.
abbrev pub script_world : List LayerTree → Script → World
script_world stack script = first_world stack script.group script.stamp script.members

-- There is one datagram for each packet of the run of a script, in order, and each expands to its own.
abbrev pub ScriptExpands : Mode → List LayerTree → Script → Type 0
ScriptExpands mode stack script =
    RunExpands mode stack (script_world stack script) (run_of stack (plans_of stack) script)

-- It holds in each replay.
abbrev pub PacketsExpand : Type 0
PacketsExpand = (file script_text : List ℕ) (stack : List LayerTree) (script : Script) (mode : Mode) →
    IsReplay file script_text stack script →
    ScriptExpands mode stack script

-- The line with the number of visits that a mode counts, where it is wanted.
abbrev pub count_lines : List LayerTree → Script → Mode → Bool → List (List ℕ)
count_lines stack script mode count =
    map (λ counting. visits_line
    (sum_by (visits_of counting stack (plans_of stack)) (run_of stack (plans_of stack) script)))
    (option_to_list (mode_if count mode))

-- What a replay writes, in whatever mode, without the events and its packets' bytes: the report of the layered meaning,
-- and that line.
abbrev pub ReplaysWriteTheReport : Type 0
ReplaysWriteTheReport = (file script_text out : List ℕ) (mode : Mode) (count : Bool)
    (r : Replays file script_text mode false false count out) →
    out ≡ concat (report_lines r.stack (plans_of r.stack) r.script ++ count_lines r.stack r.script mode count)

-- What a replay writes with its packets' bytes: the same lines, and after the line of each packet the bytes of its
-- datagram, which expands to it.
pub record WritesDatagrams (file script_text : List ℕ) (mode : Mode) (count : Bool) (out : List ℕ) : Type 0 where
  pub stack : List LayerTree
  pub script : Script
  pub replay : IsReplay file script_text stack script
  pub lines : List (List ℕ)
  pub written : out ≡ concat lines
  pub woven : AreWoven stack (report_lines stack (plans_of stack) script ++ count_lines stack script mode count) lines
      (datagrams mode stack (plans_of stack) (run_of stack (plans_of stack) script))
  pub expand : ScriptExpands mode stack script

-- Each replay with its packets' bytes writes this.
abbrev pub ReplaysWriteDatagrams : Type 0
ReplaysWriteDatagrams = (file script_text out : List ℕ) (mode : Mode) (count : Bool) →
    Replays file script_text mode false true count out →
    WritesDatagrams file script_text mode count out

-- Along a replay the first decision of a step that doesn't go as predicted in a case is one on the way of the entry's
-- shape, if the entry has one.
abbrev pub MissesOnTheWay : List LayerTree → Did → Type 0
MissesOnTheWay stack (taken s) = (case : Case) (known : Known) (shape_is : Shape) (n : ℕ) →
    entry_of (plans_of stack) s.entered ≡ Some known →
    shape stack known case ≡ Ok shape_is → first_missed case s ≡ Some n → n < shape_decisions case stack shape_is
MissesOnTheWay stack _ = Unit {0}

-- This holds at each moment of a replay.
abbrev pub ReplaysMissOnTheWay : Type 0
ReplaysMissOnTheWay = (file script_text : List ℕ) (stack : List LayerTree) (script : Script) →
    IsReplay file script_text stack script →
    AllByRecursion (λ m. MissesOnTheWay stack m.happening.did) (run_of stack (plans_of stack) script)
