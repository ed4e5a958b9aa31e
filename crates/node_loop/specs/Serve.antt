-- What the run of a node does, by how it ended.
use Rattle.std.specs.Prelude.{◌≡◌, ◌⊎◌, ℕ, zero, suc, ◌+◌, ◌*◌, ◌<◌, ◌≤◌, Bool, true, false, List, [], ◌∷◌, ◌++◌}
use Rattle.std.specs.Prelude.{length, map, take, drop, replicate, Option, Result, Ok, Err}
use Rattle.outside.specs.Links.{Listen, Network, listen_of}
use Rattle.outside.specs.declared.links.Peer.{Peer}
use Rattle.outside.specs.Shelf.{is_next_to_fail}
use Rattle.outside.specs.declared.sink.SinkError.{SinkError}
use Rattle.outside.specs.declared.sink.SinkError.TheVariants as sink
use Rattle.layer_mean.specs.Tree.{LayerTree}
use Rattle.script_mean.specs.declared.plan.NodePlan.{NodePlan}
use Rattle.stack_mean.specs.Plans.{plans_of}
use Rattle.run_mean.specs.Journal.{Heard, failure, Handed, note_lines, node_lines}
use Rattle.run_mean.specs.World.{World, first_world}
use Rattle.group_mean.specs.Node.{Surroundings, NodeWords, failed_sends, failures, node_notes, node_moments, handed_by}
use Rattle.group_mean.specs.Node.{receiving}
use Rattle.run_mean.specs.Report.{end_line}
use Rattle.outside.specs.Lines.{Gains, Wrote}
use Rattle.outside.specs.Tells as sink_lines
use Rattle.node_laws.specs.Acts.{Act, puts, acts_of, sends_in}
use Rattle.node_laws.specs.Doings.{Doing, doings_of, events_of}
use Rattle.node_laws.specs.Losses.{lost_of}
use Rattle.node_laws.specs.Network.{Goes, Tells}
use Rattle.node_loop.specs.Around.{Around, RoseBy, Told}
use Rattle.node_loop.specs.Passing.{Stops, WentOn}
use Rattle.node_loop.specs.declared.error.NodeError.{NodeError}
use Rattle.node_loop.specs.declared.error.NodeError.TheVariants.{Link, Write, Memory}

-- What a node is asked to do: its stack, its plan, and what its words say.
pub record Task : Type 0 where
  pub stack : List LayerTree
  pub plan : NodePlan
  pub words : NodeWords

-- The world in which a node's group begins.
abbrev pub first_of_plan : List LayerTree → NodePlan → World
first_of_plan stack plan = first_world stack plan.group plan.stamp (length plan.peers)

-- What surrounded a node, before and after: its output and its links, and the moments that its clock was to tell.
pub record Whereabouts : Type 0 where
  pub around : Around
  pub clock : Option (List ℕ)

abbrev pub whereabouts : Around → Option (List ℕ) → Whereabouts
whereabouts around clock = record { around = around; clock = clock }

-- The listens of these members, each with where all members of the plan are reached.
abbrev pub listens_of : List Peer → List ℕ → List Listen
listens_of peers me = map (listen_of peers) me

-- A network after these listens.
abbrev pub after_listens : List Peer → List ℕ → Network → Network
after_listens peers me n =
    record n { listened = n.listened ++ listens_of peers me; listens = drop (length me) n.listens }

-- Which of the next n calls of a kind are to fail, where it is told of some.
abbrev pub flags_of : ℕ → List Bool → List Bool
flags_of zero flags = []
flags_of (suc count) flags = is_next_to_fail flags ∷ flags_of count (drop 1 flags)

-- What a node does in these surroundings.
abbrev pub doings_in : Task → Surroundings → List Doing
doings_in task s = doings_of task.plan task.words.me task.words.turns task.words.patience s.clock s.heard

-- A network that tells heard all members listen in their order, each at its own place of the plan, and went on as the
-- node ran: each member heard what there was for it then, each packet was handed on in its place, and those sendings
-- failed that were to fail.
pub record RanOver (task : Task) (s : Surroundings) (n n' : Network) : Type 0 where
  pub listens : flags_of (length task.words.me) n.listens ≡ replicate (length task.words.me) false
  pub flags : List (List Bool)
  pub lost : s.lost ≡ lost_of task.stack (plans_of task.stack) (first_of_plan task.stack task.plan) (doings_in task s)
      flags
  pub goes : Goes task.words.mode task.stack (plans_of task.stack) (first_of_plan task.stack task.plan)
      (doings_in task s) flags
      (after_listens task.plan.peers task.words.me n) n'

-- What was told of a node's run: its counts of failures, its clock and its network.
pub record IsTold (task : Task) (s : Surroundings) (a b : Whereabouts) (OverNetwork : Network → Network → Type 0) : Type
    0 where
  pub faults : RoseBy a.around.faults b.around.faults (failures s.heard)
  pub sends : RoseBy a.around.sends b.around.sends (length s.lost)
  pub clock : Told a.clock b.clock s.clock
  pub network : Tells OverNetwork a.around.told b.around.told

-- All turns were made: each had a moment, and an answer for each receive, of which no more failed than are borne.
-- What was written and what was handed to the network are those of the journal.
pub record MadeAllTurns (task : Task) (a b : Whereabouts) : Type 0 where
  pub s : Surroundings
  pub moments : length s.clock ≡ task.words.turns
  pub answers : length s.heard ≡ task.words.turns * length (receiving task.words.me)
  pub borne : failures s.heard ≤ task.words.patience
  pub written : Gains a.around.output b.around.output
      (node_lines task.stack (plans_of task.stack) (failed_sends s) (node_notes task.plan task.words s)
      (node_moments task.stack task.plan task.words s))
  pub told : IsTold task s a b (RanOver task s)

-- A member couldn't listen: of the listens, by ascending id, the first `count` went well and the next failed.
pub record ListenFailed (task : Task) (n n' : Network) : Type 0 where
  pub count : ℕ
  pub within : count < length task.words.me
  pub listens : flags_of (count + 1) n.listens ≡ replicate count false ++ true ∷ []
  pub is : n' ≡ after_listens task.plan.peers (take (count + 1) task.words.me) n

-- A member couldn't listen, and nothing else was done.
pub record CouldNotListen (task : Task) (a b : Whereabouts) : Type 0 where
  pub untouched : b.around.output ≡ a.around.output
  pub faults : RoseBy a.around.faults b.around.faults 1
  pub sends : b.around.sends ≡ a.around.sends
  pub clock : b.clock ≡ a.clock
  pub network : Tells (ListenFailed task) a.around.told b.around.told

-- One more receive failed than is borne: the last answer, in the turn of the last moment. What was written is the whole
-- journal up to there, without the last line.
pub record WentDeaf (task : Task) (a b : Whereabouts) : Type 0 where
  pub s : Surroundings
  pub before : List Heard
  pub last : s.heard ≡ before ++ failure ∷ []
  pub borne : failures before ≡ task.words.patience
  pub turns : length s.clock ≤ task.words.turns
  pub within : length s.heard ≤ length s.clock * length (receiving task.words.me)
  pub begun : length s.clock * length (receiving task.words.me) < length s.heard + length (receiving task.words.me)
  pub written : Gains a.around.output b.around.output
      (note_lines task.stack (plans_of task.stack) (failed_sends s) (node_notes task.plan task.words s)
      (node_moments task.stack task.plan task.words s))
  pub told : IsTold task s a b (RanOver task s)

-- Surroundings that told more.
abbrev pub told_on : Surroundings → List ℕ → List Heard → Surroundings
told_on s clock heard = record s { clock = s.clock ++ clock; heard = s.heard ++ heard }

-- The acts that were done are the first of all acts of a node in these surroundings; which sendings failed is told
-- event by event.
pub record Performed (task : Task) (e : SinkError) (s on : Surroundings) (sent : List Handed) (a b : sink_lines.Tells) :
    Type 0 where
  pub flags : List (List Bool)
  pub lost : s.lost ≡ lost_of task.stack (plans_of task.stack) (first_of_plan task.stack task.plan) (doings_in task on)
      flags
  pub done : List Act
  pub rest : List Act
  pub are : acts_of task.words.mode task.stack (plans_of task.stack) (first_of_plan task.stack task.plan)
      (doings_in task on) flags
      ++ puts (end_line (length (events_of (doings_in task on)))) ∷ [] ≡ done ++ rest
  pub stopped : Stops e done rest a b
  pub sent_are : sent ≡ sends_in done

-- What a network that tells was asked before a node was broken off. Where not all members were to listen, no turn was
-- begun.
pub record LeftOff (task : Task) (s : Surroundings) (sent : List Handed) (n n' : Network) : Type 0 where
  pub count : ℕ
  pub all : (count ≡ length task.words.me) ⊎ (s.clock ≡ [])
  pub some : WentOn (listens_of task.plan.peers (take count task.words.me)) sent s.heard n n'

-- The node was broken off: what was written is a part of a whole output, and what was handed to the network the first
-- of what is handed on then, where the clock and the network, had they been asked further, told this.
pub record BrokenOff (task : Task) (e : SinkError) (a b : Whereabouts) : Type 0 where
  pub s : Surroundings
  pub sent : List Handed
  pub clock_on : List ℕ
  pub heard_on : List Heard
  pub sent_on : List Handed
  pub moments : length (s.clock ++ clock_on) ≡ task.words.turns
  pub answers : length (s.heard ++ heard_on) ≡ task.words.turns * length (receiving task.words.me)
  pub borne : failures (s.heard ++ heard_on) ≤ task.words.patience
  pub handed_on : sent ++ sent_on ≡ handed_by task.stack task.plan task.words (told_on s clock_on heard_on)
  pub written : Wrote
      (node_lines task.stack (plans_of task.stack) (failed_sends s)
      (node_notes task.plan task.words (told_on s clock_on heard_on))
      (node_moments task.stack task.plan task.words (told_on s clock_on heard_on))) a.around.output b.around.output
      (Err e)
  pub performed : Performed task e s (told_on s clock_on heard_on) sent a.around.output b.around.output
  pub told : IsTold task s a b (LeftOff task s sent)

-- How a node ended.
abbrev pub Serves : Task → Whereabouts → Whereabouts → Result (Unit {0}) NodeError → Type 0
Serves task a b (Ok done) = MadeAllTurns task a b
Serves task a b (Err Link) = CouldNotListen task a b ⊎ WentDeaf task a b
Serves task a b (Err Write) = BrokenOff task sink.Failed a b
Serves task a b (Err Memory) = BrokenOff task sink.Memory a b
