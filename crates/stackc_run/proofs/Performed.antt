-- What `run` does, from what its job gave and what was said of that.
use Rattle.std.proofs.Common.{◌≡◌, ◌∙◌, refl, ap, inl, ℕ, List, Option, Some, None}
use Rattle.clap.specs.Walk.{Text}
use Rattle.outside.specs.Links.{Network}
use Rattle.outside.specs.Shelf.{Shelved}
use Rattle.job_mean.specs.Job.{Job, check, synth, pack, replay, replay_with, explain, load, node, audit, job_of_words}
use Rattle.end_mean.specs.Status.{Ended, no_memory}
use Rattle.program_laws.specs.OneEnd.{IsAlone}
use Rattle.outside.specs.Said.{Errors}
use Rattle.outside.specs.Tells.{Tells}
use Rattle.job_ends.specs.Comes.{Around, surrounding}
use Rattle.job_ends.specs.Shown.{Said}
use Rattle.job_ends.proofs.Due.{words_due, exact}
use Rattle.job_ends.proofs.Seen.{seen, jobless_seen}
use Rattle.node_jobs.specs.Comes.{Beyond, Node, Untouched, lying_beyond, job_of}
use Rattle.node_jobs.proofs.Due.{node_exact}
use Rattle.node_jobs.proofs.Seen.{node_seen}
use Rattle.stackc_run.specs.Performed.{Way, over_files, over_network, way_of, PerformedBy, Performed, DoesBy, DoesJob}

-- a job over files has no network
alone : (job : Job) → way_of job ≡ over_files → IsAlone job
alone (check file) is = tt
alone (synth file) is = tt
alone (pack file) is = tt
alone (replay file script mode events wire count) is = tt
alone (replay_with file script given events wire count) is = tt
alone (explain file script) is = tt
alone (load file seed events members raw mode) is = tt
alone (node file plan turns me patience mode) is = absurd (cc is)
alone (audit file law) is = tt

-- a job over a network is a node's
node_is : (job : Job) (w : Node) → way_of job ≡ over_network w → job ≡ job_of w
node_is (check file) w is = absurd (cc is)
node_is (synth file) w is = absurd (cc is)
node_is (pack file) w is = absurd (cc is)
node_is (replay file script mode events wire count) w is = absurd (cc is)
node_is (replay_with file script given events wire count) w is = absurd (cc is)
node_is (explain file script) w is = absurd (cc is)
node_is (load file seed events members raw mode) w is = absurd (cc is)
node_is (node file plan turns me patience mode) w is =
    let own : Node = record { file = file; plan = plan; turns = turns; me = me; patience = patience; mode = mode } in
    let same : own ≡ w = cc is in
    ap job_of same
node_is (audit file law) w is = absurd (cc is)

does_by : (words : List Text) (job : Job) (way : Way) → way_of job ≡ way → job_of_words words ≡ Some job →
    (a : Around) (n : Beyond) (e : Errors) (end : Ended) →
    PerformedBy way job a n end → Said end e → DoesBy way words job a n e
does_by words job over_files by is a n e end came said = let run = seen words job a e end is came.0 said in record {
  end = end;
  came = came.0;
  untouched = came.1;
  said = said;
  seen = run;
  exact = exact words job a e is (alone job by) run end came.0 said;
}
does_by words job (over_network w) by is a n e end came said =
    let named : job_of_words words ≡ Some (job_of w) = is ∙ ap Some (node_is job w by) in
    let run = node_seen words w a n e end named came said in record {
      end = end;
      came = came;
      said = said;
      seen = run;
      exact = node_exact words w a n e named run end came said;
    }

pub does : (words : List Text) (job : Option Job) → job_of_words words ≡ job →
    (a : Around) (n : Beyond) (e : Errors) (end : Ended) →
    Performed job a n end → Said end e → DoesJob words job a n e
does words None is a n e end came said = let run = jobless_seen words a e end is came.0 said in
    record { end = end; came = came.0; untouched = came.1; said = said; seen = run; due = words_due words a e run is }
does words (Some job) is a n e end came said = does_by words job (way_of job) refl is a n e end came said

-- Where memory ran out over the words, nothing was done.
pub wanted : (job : Option Job) (told : Option Shelved) (reads : ℕ) (output : Tells) (faults sends : ℕ)
    (links : Option Network) (clock : Option (List ℕ)) →
    Performed job (surrounding told reads reads output output)
    (lying_beyond faults faults sends sends links links clock clock) no_memory
wanted job told reads output faults sends links clock = go job where
  untouched : Untouched (lying_beyond faults faults sends sends links links clock clock)
  untouched = record { faults = refl; sends = refl; told = refl; clock = refl }

  by : (way : Way) (job : Job) →
      PerformedBy way job (surrounding told reads reads output output)
      (lying_beyond faults faults sends sends links links clock clock) no_memory
  by over_files job = (inl refl, untouched)
  by (over_network w) job = inl (record { unwritten = refl; untouched = untouched })

  go : (job : Option Job) →
      Performed job (surrounding told reads reads output output)
      (lying_beyond faults faults sends sends links links clock clock) no_memory
  go None = (record { untouched = refl; unread = refl }, untouched)
  go (Some job) = by (way_of job) job
