-- What the job of a node gives: what its reads found, what was written, handed to the network and heard of it, and
-- why it ended so.
use Rattle.std.specs.Prelude.{◌≡◌, ◌⊎◌, ℕ, List, Option, Some}
use Rattle.clap.specs.Walk.{Text}
use Rattle.outside.specs.Links.{Network}
use Rattle.outside.specs.declared.clock.Clock as clocks
use Rattle.outside.specs.declared.links.Links as networks
use Rattle.outside.specs.Shelf.{Shelved}
use Rattle.outside.specs.declared.sink.SinkError.{SinkError}
use Rattle.outside.specs.declared.sink.SinkError.TheVariants.{Failed, Memory}
use Rattle.run_mean.specs.Mode.{Mode}
use Rattle.job_mean.specs.Job.{Job, node}
use Rattle.end_mean.specs.Status.{Ended, done, file_refused, second_refused, read_failed, write_failed, link_failed}
use Rattle.end_mean.specs.Status.{no_memory}
use Rattle.group_mean.specs.Node.{node_words}
use Rattle.output_mean.specs.Output.{IsNode}
use Rattle.job_ends.specs.Comes.{Around, Beside, Comes, Finds}
use Rattle.node_loop.specs.Around as outside
use Rattle.node_loop.specs.Serve.{BrokenOff, CouldNotListen, MadeAllTurns, Task, WentDeaf, Whereabouts, whereabouts}

-- A network and a clock before a job and after it: how many listens and receives failed, how many sends, what the
-- network tells, and the moments that the clock is to tell.
pub record Beyond : Type 0 where
  pub faults : ℕ
  pub faults_after : ℕ
  pub sends : ℕ
  pub sends_after : ℕ
  pub told : Option Network
  pub told_after : Option Network
  pub clock : Option (List ℕ)
  pub clock_after : Option (List ℕ)

-- A network and a clock before a job and after it, of which this is told.
abbrev pub lying_beyond : (faults faults_after sends sends_after : ℕ) → (told told_after : Option Network) →
    (clock clock_after : Option (List ℕ)) → Beyond
lying_beyond faults faults_after sends sends_after told told_after clock clock_after = record {
  faults = faults;
  faults_after = faults_after;
  sends = sends;
  sends_after = sends_after;
  told = told;
  told_after = told_after;
  clock = clock;
  clock_after = clock_after;
}

-- A network and a clock before a job and after it, as these links and this clock tell of themselves.
abbrev pub beyond : {N C : Type 0} → networks.Ghosts N → clocks.Ghosts C → N → N → C → C → Beyond
beyond n c links links_after clock clock_after =
    lying_beyond (n.faults links) (n.faults links_after) (n.send_faults links) (n.send_faults links_after)
    (n.told links) (n.told links_after)
    (c.told clock) (c.told clock_after)

-- A job had nothing to do with them.
pub record Untouched (n : Beyond) : Type 0 where
  pub faults : n.faults_after ≡ n.faults
  pub sends : n.sends_after ≡ n.sends
  pub told : n.told_after ≡ n.told
  pub clock : n.clock_after ≡ n.clock

-- The words of a node: its files, its turns, its own members, how many failed receives it bears, and its mode.
pub record Node : Type 0 where
  pub file : Text
  pub plan : Text
  pub turns : ℕ
  pub me : List ℕ
  pub patience : ℕ
  pub mode : Mode

abbrev pub job_of : Node → Job
job_of w = node w.file w.plan w.turns w.me w.patience w.mode

-- Its files were read, and are good.
pub record Good (w : Node) (told : Option Shelved) : Type 0 where
  pub file : List ℕ
  pub second : List ℕ
  pub found : Finds (job_of w) told (Some file)
  pub beside : Beside (job_of w) told (Some second)
  pub node : IsNode file second w.me

-- What it is to do then, and what surrounds it.
abbrev pub task_of : (w : Node) (told : Option Shelved) → Good w told → Task
task_of w told good =
    record { stack = good.node.stack; plan = good.node.plan; words = node_words w.turns w.me w.patience w.mode }

abbrev pub before : Around → Beyond → Whereabouts
before a n = whereabouts (outside.surrounding a.output n.faults n.sends n.told) n.clock

abbrev pub following : Around → Beyond → Whereabouts
following a n = whereabouts (outside.surrounding a.output_after n.faults_after n.sends_after n.told_after) n.clock_after

-- It ran, and something holds of its run.
pub record Ran (w : Node) (a : Around) (n : Beyond) (Holds : Task → Whereabouts → Whereabouts → Type 0) : Type 0 where
  pub good : Good w a.told
  pub sound : a.reads_after ≡ a.reads
  pub served : Holds (task_of w a.told good) (before a n) (following a n)

-- A member couldn't listen, or more receives failed than are borne.
abbrev pub Lost : Task → Whereabouts → Whereabouts → Type 0
Lost task a b = CouldNotListen task a b ⊎ WentDeaf task a b

-- It was broken off.
abbrev pub Broken : SinkError → Task → Whereabouts → Whereabouts → Type 0
Broken e task a b = BrokenOff task e a b

-- It ended before it ran, as jobs with two files do.
pub record EndedBefore (w : Node) (a : Around) (n : Beyond) (end : Ended) : Type 0 where
  pub came : Comes (job_of w) a end
  pub untouched : Untouched n

-- Memory ran out before it ran.
pub record Wanted (a : Around) (n : Beyond) : Type 0 where
  pub unwritten : a.output_after ≡ a.output
  pub untouched : Untouched n

-- How a node's job ended.
abbrev pub NodeComes : Node → Around → Beyond → Ended → Type 0
NodeComes w a n done = Ran w a n MadeAllTurns
NodeComes w a n link_failed = Ran w a n Lost
NodeComes w a n write_failed = Ran w a n (Broken Failed)
NodeComes w a n no_memory = Wanted a n ⊎ Ran w a n (Broken Memory)
NodeComes w a n (file_refused fault) = EndedBefore w a n (file_refused fault)
NodeComes w a n (second_refused fault) = EndedBefore w a n (second_refused fault)
NodeComes w a n read_failed = EndedBefore w a n read_failed
NodeComes w a n _ = ⊥
