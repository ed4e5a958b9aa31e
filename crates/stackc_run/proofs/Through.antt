-- With status 0 or 8 the output's stream has the whole output.
use Rattle.std.proofs.Common.{◌≡◌, subst, ℕ, true, List, Option, Some, None, ⊎_elim}
use Rattle.std.specs.List.{concat}
use Rattle.clap.specs.Walk.{Text}
use Rattle.outside.proofs.Appended.{appends_keeps}
use Rattle.outside.specs.Shelf.{Shelved}
use Rattle.job_mean.specs.Job.{Job, job_of_words}
use Rattle.end_mean.specs.Status.{Ended, done, breached}
use Rattle.outside.specs.Tells.{Tells}
use Rattle.job_ends.specs.Comes.{Around, surrounding, Whole}
use Rattle.job_ends.proofs.Closed.{ends_well, ends_in_breach}
use Rattle.node_loop.specs.Serve.{MadeAllTurns}
use Rattle.node_jobs.specs.Comes.{Beyond, Node, Ran}
use Rattle.stackc_run.specs.Performed.{Way, over_files, over_network, way_of, PerformedBy, Performed}
use Rattle.stackc_run.specs.Through.{RunsThrough, IsWhole, DeliversOutput, DeliversJournal, DeliversBy}
use Rattle.stackc_run.specs.Through.{Delivers, journal_of}
use Rattle.program_streams.specs.Streams.{Stream, HandsOn, stream}

module _ (told : Option Shelved) (reads reads_after : ℕ) (n : Beyond) (out : Stream) (put : Tells)
    (handed : HandsOn put out.after out.holds true) where
  abbrev a : Around
  a = surrounding told reads reads_after out.before put

  delivered : (job : Job) (end : Ended) → Whole job a end → DeliversOutput job told reads reads_after out
  delivered job end w = record {
    good = w.good;
    sound = w.sound;
    gained = appends_keeps out.before.contents put.contents out.holds (concat w.good.lines) w.written.gained handed.0;
  }

  journal : (w : Node) → Ran w a n MadeAllTurns → DeliversJournal w told reads reads_after n out
  journal w r = record {
    put = put;
    ran = r;
    gained = appends_keeps out.before.contents put.contents out.holds (concat (journal_of w r.good.node r.served.s))
        r.served.written.gained handed.0;
  }

  well_by : (way : Way) (job : Job) → PerformedBy way job a n done → DeliversBy way job told reads reads_after n out
  well_by over_files job p = delivered job done p.0
  well_by (over_network w) job p = journal w p

  breach_by : (way : Way) (job : Job) → PerformedBy way job a n breached →
      DeliversBy way job told reads reads_after n out
  breach_by over_files job p = delivered job breached p.0
  breach_by (over_network w) job p = absurd p

  by_well : (job : Option Job) → Performed job a n done → Delivers job told reads reads_after n out
  by_well None p = absurd p.0
  by_well (Some job) p = well_by (way_of job) job p

  by_breach : (job : Option Job) → Performed job a n breached → Delivers job told reads reads_after n out
  by_breach None p = absurd p.0
  by_breach (Some job) p = breach_by (way_of job) job p

module _ (words : List Text) (told : Option Shelved) (reads reads_after : ℕ) (n : Beyond) (out err : Stream)
    (status : ℕ)
    (r : RunsThrough words told reads reads_after n out err status) where
  delivers_well : status ≡ 0 → Delivers (job_of_words words) told reads reads_after n out
  delivers_well is =
      let got = ends_well r.end (stream r.put out.after out.holds) err status r.closes is in
      by_well told reads reads_after n out r.put got.0 (job_of_words words)
      (subst (Performed (job_of_words words) (surrounding told reads reads_after out.before r.put) n) got.1 r.performed)

  delivers_breach : status ≡ 8 → Delivers (job_of_words words) told reads reads_after n out
  delivers_breach is =
      let got = ends_in_breach r.end (stream r.put out.after out.holds) err status r.closes is in
      by_breach told reads reads_after n out r.put got.0 (job_of_words words)
      (subst (Performed (job_of_words words) (surrounding told reads reads_after out.before r.put) n) got.1 r.performed)

  pub delivers : IsWhole status → Delivers (job_of_words words) told reads reads_after n out
  delivers = ⊎_elim delivers_well delivers_breach
