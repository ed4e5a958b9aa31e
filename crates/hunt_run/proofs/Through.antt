-- With status 0 or 8 the output's stream has all that was put.
use Rattle.std.proofs.Common.{◌≡◌, subst, ℕ, true, List, [], ◌∷◌, append-nil, Option, Some, None}
use Rattle.std.specs.List.{concat}
use Rattle.std.specs.Io.KnownBytes.{Appends}
use Rattle.clap.specs.Walk.{Text}
use Rattle.outside.proofs.Appended.{appends_keeps}
use Rattle.outside.specs.Shelf.{Shelved}
use Rattle.outside.specs.Tells.{Tells}
use Rattle.end_mean.specs.Status.{Ended, done, breached}
use Rattle.job_ends.specs.Comes.{surrounding}
use Rattle.job_ends.proofs.Closed.{ends_well, ends_in_breach}
use Rattle.hunt_mean.specs.Ends.{Comes, Whole}
use Rattle.hunt_mean.specs.Through.{RunsThrough, Delivers, DeliversAll}
use Rattle.program_streams.specs.Streams.{Stream, HandsOn, stream}
use Rattle.hunt_mean.specs.Words.{Request, request_of}

module _ (told : Option Shelved) (reads reads_after : ℕ) (out : Stream) (put : Tells)
    (handed : HandsOn put out.after out.holds true) where
  all : (r : Request) (end : Ended) → Whole r (surrounding told reads reads_after out.before put) end →
      DeliversAll r told reads reads_after out end
  all r end w = record {
    good = w.good;
    gained = subst (Appends out.before.contents out.holds) (append-nil w.good.text)
        (appends_keeps out.before.contents put.contents out.holds (concat (w.good.text ∷ [])) w.written.gained
        handed.0);
  }

  by_done : (r : Option Request) → Comes r (surrounding told reads reads_after out.before put) done →
      Delivers r told reads reads_after out done
  by_done None came = absurd came
  by_done (Some r) came = all r done came

  by_breached : (r : Option Request) → Comes r (surrounding told reads reads_after out.before put) breached →
      Delivers r told reads reads_after out breached
  by_breached None came = absurd came
  by_breached (Some r) came = all r breached came

module _ (words : List Text) (told : Option Shelved) (reads reads_after : ℕ) (out err : Stream) (status : ℕ)
    (r : RunsThrough words told reads reads_after out err status) where
  pub delivers_held : status ≡ 0 → Delivers (request_of words) told reads reads_after out done
  delivers_held is =
      let got = ends_well r.end (stream r.put out.after out.holds) err status r.closes is in
      by_done told reads reads_after out r.put got.0 (request_of words)
      (subst (Comes (request_of words) (surrounding told reads reads_after out.before r.put)) got.1 r.came)

  pub delivers_found : status ≡ 8 → Delivers (request_of words) told reads reads_after out breached
  delivers_found is =
      let got = ends_in_breach r.end (stream r.put out.after out.holds) err status r.closes is in
      by_breached told reads reads_after out r.put got.0 (request_of words)
      (subst (Comes (request_of words) (surrounding told reads reads_after out.before r.put)) got.1 r.came)
