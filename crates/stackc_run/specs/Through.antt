-- A run over streams, and the handing on of what was put.
use Rattle.std.specs.Prelude.{◌≡◌, ◌⊎◌, ℕ, List, Option, Some, None}
use Rattle.std.specs.List.{concat}
use Rattle.std.specs.Io.KnownBytes.{Appends}
use Rattle.outside.specs.Shelf.{Shelved}
use Rattle.clap.specs.Walk.{Text}
use Rattle.stack_mean.specs.Plans.{plans_of}
use Rattle.job_mean.specs.Job.{Job, job_of_words}
use Rattle.end_mean.specs.Status.{Ended}
use Rattle.run_mean.specs.Journal.{node_lines}
use Rattle.group_mean.specs.Node.{node_words}
use Rattle.group_mean.specs.Node.{Surroundings, failed_sends, node_notes, node_moments}
use Rattle.output_mean.specs.Output.{IsNode}
use Rattle.outside.specs.Said.{errors}
use Rattle.outside.specs.Tells.{Tells}
use Rattle.program_streams.specs.Streams.{Stream, stream}
use Rattle.job_ends.specs.Comes.{Good, surrounding}
use Rattle.job_ends.specs.Closes.{Closes, end_after_delivery}
use Rattle.node_loop.specs.Serve.{MadeAllTurns}
use Rattle.node_jobs.specs.Comes.{Beyond, Node, Ran}
use Rattle.stackc_run.specs.Performed.{Way, over_files, over_network, way_of, Performed, Does}

-- A run: what it put on the output, how it ended, and how that was said over the streams. Where that is the job's own
-- end, all that `run` does is done.
pub record RunsThrough (words : List Text) (told : Option Shelved) (reads reads_after : ℕ) (n : Beyond)
    (out err : Stream) (status : ℕ) : Type 0 where
  pub put : Tells
  pub end : Ended
  pub performed : Performed (job_of_words words) (surrounding told reads reads_after out.before put) n end
  pub closes : Closes end (stream put out.after out.holds) err status
  pub does : end_after_delivery closes.whole end ≡ end →
      Does words (surrounding told reads reads_after out.before put) n (errors err.before closes.closing status)

-- The status of a whole output: 0, or 8 where that is a breach of a law.
abbrev pub IsWhole : ℕ → Type 0
IsWhole status = (status ≡ 0) ⊎ (status ≡ 8)

-- The files of a job were read and have an output, and the output's stream gained it.
pub record DeliversOutput (job : Job) (told : Option Shelved) (reads reads_after : ℕ) (out : Stream) : Type 0 where
  pub good : Good job told
  pub sound : reads_after ≡ reads
  pub gained : Appends out.before.contents out.holds (concat good.lines)

-- The whole journal of a node over what its surroundings told.
abbrev pub journal_of : {file second : List ℕ} (w : Node) → IsNode file second w.me → Surroundings → List (List ℕ)
journal_of w node s = let words = node_words w.turns w.me w.patience w.mode in
    node_lines node.stack (plans_of node.stack) (failed_sends s) (node_notes node.plan words s)
    (node_moments node.stack node.plan words s)

-- A node made all its turns, and the output's stream gained its whole journal.
pub record DeliversJournal (w : Node) (told : Option Shelved) (reads reads_after : ℕ) (n : Beyond) (out : Stream) : Type
    0 where
  pub put : Tells
  pub ran : Ran w (surrounding told reads reads_after out.before put) n MadeAllTurns
  pub gained : Appends out.before.contents out.holds (concat (journal_of w ran.good.node ran.served.s))

abbrev pub DeliversBy : Way → Job → Option Shelved → ℕ → ℕ → Beyond → Stream → Type 0
DeliversBy over_files job told reads reads_after n out = DeliversOutput job told reads reads_after out
DeliversBy (over_network w) job told reads reads_after n out = DeliversJournal w told reads reads_after n out

-- The words are a job, and the output's stream gained its whole output.
abbrev pub Delivers : Option Job → Option Shelved → ℕ → ℕ → Beyond → Stream → Type 0
Delivers None told reads reads_after n out = ⊥
Delivers (Some job) told reads reads_after n out = DeliversBy (way_of job) job told reads reads_after n out
