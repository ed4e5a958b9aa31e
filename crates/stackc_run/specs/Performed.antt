-- What the words' job yielded, whichever it is, and what was said of that.
use Rattle.std.specs.Prelude.{List, Option, Some, None}
use Rattle.clap.specs.Walk.{Text}
use Rattle.job_mean.specs.Job.{Job, check, synth, pack, replay, replay_with, explain, load, node, audit, job_of_words}
use Rattle.end_mean.specs.Status.{Ended}
use Rattle.outside.specs.Said.{Errors}
use Rattle.job_ends.specs.Comes.{Around, NoJob, Comes}
use Rattle.job_ends.specs.Due.{Due, Exact}
use Rattle.job_ends.specs.Seen.{Seen}
use Rattle.job_ends.specs.Shown.{Said}
use Rattle.node_jobs.specs.Comes.{Beyond, Node, NodeComes, Untouched}
use Rattle.node_jobs.specs.Due.{NodeExact}
use Rattle.node_jobs.specs.Seen.{NodeSeen}

-- How a job is done: over files alone, or as a node over a network, too.
pub data Way : Type 0 where
  over_files : Way
  over_network : Node → Way

abbrev pub way_of : Job → Way
way_of (check file) = over_files
way_of (synth file) = over_files
way_of (pack file) = over_files
way_of (replay file script mode events wire count) = over_files
way_of (replay_with file script given events wire count) = over_files
way_of (explain file script) = over_files
way_of (load file seed events members raw mode) = over_files
way_of (node file plan turns me patience mode) =
    over_network (record { file = file; plan = plan; turns = turns; me = me; patience = patience; mode = mode })
way_of (audit file law) = over_files

-- How a job that is done in a way ended. A job that is no node left the network and the clock as they were.
abbrev pub PerformedBy : Way → Job → Around → Beyond → Ended → Type 0
PerformedBy over_files job a n end = Comes job a end × Untouched n
PerformedBy (over_network w) job a n end = NodeComes w a n end

-- How the words' job ended.
abbrev pub Performed : Option Job → Around → Beyond → Ended → Type 0
Performed None a n end = NoJob a end × Untouched n
Performed (Some job) a n end = PerformedBy (way_of job) job a n end

-- A job over files ended in one way, and that was said; this is a run of the program as the definitions have it; and
-- its status is the one that is due.
pub record Done (words : List Text) (job : Job) (a : Around) (n : Beyond) (e : Errors) : Type 0 where
  pub end : Ended
  pub came : Comes job a end
  pub untouched : Untouched n
  pub said : Said end e
  pub seen : Seen words (Some job) a e
  pub exact : Exact job a e.status

-- A node's job ended in one way, and that was said; this is a run of the program as the definitions have it; and its
-- status is the one that is due.
pub record NodeDone (words : List Text) (w : Node) (a : Around) (n : Beyond) (e : Errors) : Type 0 where
  pub end : Ended
  pub came : NodeComes w a n end
  pub said : Said end e
  pub seen : NodeSeen words w a n e
  pub exact : NodeExact w a n e.status

-- Words that are no job were refused, or memory ran out, and that was said; this is a run of the program as the
-- definitions have it; and its status is 2, or 7 where memory ran out.
pub record Jobless (words : List Text) (a : Around) (n : Beyond) (e : Errors) : Type 0 where
  pub end : Ended
  pub came : NoJob a end
  pub untouched : Untouched n
  pub said : Said end e
  pub seen : Seen words None a e
  pub due : Due 2 e.status

-- What `run` does with its words, by the job that they are.
abbrev pub DoesBy : Way → List Text → Job → Around → Beyond → Errors → Type 0
DoesBy over_files words job a n e = Done words job a n e
DoesBy (over_network w) words job a n e = NodeDone words w a n e

abbrev pub DoesJob : List Text → Option Job → Around → Beyond → Errors → Type 0
DoesJob words None a n e = Jobless words a n e
DoesJob words (Some job) a n e = DoesBy (way_of job) words job a n e

abbrev pub Does : List Text → Around → Beyond → Errors → Type 0
Does words a n e = DoesJob words (job_of_words words) a n e
