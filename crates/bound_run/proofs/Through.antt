-- With status 0, 8 or 10 the output's stream has all that was put.
use Rattle.std.proofs.Common.{◌≡◌, refl, sym, subst, ◌∙◌, ℕ, Bool, true, false, List, [], ◌∷◌, append-nil, Option, Some}
use Rattle.std.proofs.Common.{None, arith}
use Rattle.std.specs.List.{concat}
use Rattle.std.specs.Prelude.{codes}
use Rattle.std.specs.Io.KnownBytes.{Appends}
use Rattle.clap.specs.Walk.{Text}
use Rattle.outside.proofs.Appended.{appends_keeps}
use Rattle.outside.specs.Said.{Errors, SaysLine, whole, failed, no_memory, errors}
use Rattle.outside.specs.Shelf.{Shelved}
use Rattle.outside.specs.Tells.{Tells}
use Rattle.end_mean.specs.Status.{Ended, done, breached, error_line, status_number, write_failed}
use Rattle.job_ends.specs.Closes as jobs
use Rattle.job_ends.specs.Closes.{end_after_delivery}
use Rattle.job_ends.specs.Comes.{surrounding}
use Rattle.job_ends.specs.Shown.{Said}
use Rattle.job_ends.proofs.Closed.{ends_well, ends_in_breach}
use Rattle.program_streams.specs.Streams.{Stream, HandsOn, stream}
use Rattle.bound_mean.specs.Ends.{Comes, SaidSo, Whole}
use Rattle.bound_mean.specs.Through.{Closes, Delivers, DeliversAll, RunsThrough, finish_after_delivery}
use Rattle.bound_mean.specs.Told.{Finish, ended, stopped}
use Rattle.bound_mean.specs.Words.{Request, request_of}

-- the status of a line that is said is its own, or 7
not_said : (line : List ℕ) (n m : ℕ) (e : Errors) → SaysLine line n e → (n ≡ m → ⊥) → (7 ≡ m → ⊥) → e.status ≡ m → ⊥
not_said line n m e (whole gained is) apart seven now = apart (sym is ∙ now)
not_said line n m e (failed part is) apart seven now = apart (sym is ∙ now)
not_said line n m e (no_memory begun is) apart seven now = seven (sym is ∙ now)

-- no end of a job has the status 10
not_ten : (end : Ended) (e : Errors) → Said end e → e.status ≡ 10 → ⊥
not_ten done e said is = let zero = said.status in omega (arith, is, zero)
not_ten end e said is =
    not_said (error_line end) (status_number end) 10 e said (λ z. omega (arith, z)) (λ z. omega (arith, z)) is

-- where the time was up, the status is 10, or that of a fault
stopped_is : (b : Bool) (e : Errors) → SaidSo (finish_after_delivery b stopped) e → e.status ≡ 10 → b ≡ true
stopped_is true e said is = refl
stopped_is false e said is = absurd (not_ten write_failed e said is)

not_zero : (b : Bool) (m : ℕ) (e : Errors) → SaidSo (finish_after_delivery b stopped) e → (10 ≡ m → ⊥) → (5 ≡ m → ⊥) →
    (7 ≡ m → ⊥) → e.status ≡ m → ⊥
not_zero true m e said ten five seven is = not_said (codes "unfinished\n") 10 m e said ten seven is
not_zero false m e said ten five seven is = not_said (error_line write_failed) 5 m e said five seven is

-- a check that ended as a job does closes as one
as_job : (end : Ended) (out err : Stream) (status : ℕ) → Closes (ended end) out err status →
    jobs.Closes end out err status
as_job end out err status c = record {
  whole = c.whole;
  handed_on = c.handed_on;
  closing = c.closing;
  said = c.said;
  heard = c.heard;
  told_on = c.told_on;
}

module _ (out err : Stream) (status : ℕ) where
  closes_held : (finish : Finish) → Closes finish out err status → status ≡ 0 →
      HandsOn out.before out.after out.holds true × (finish ≡ ended done)
  closes_held (ended end) c is =
      let got = ends_well end out err status (as_job end out err status c) is in
      (got.0, subst (λ e. ended end ≡ ended e) got.1 refl)
  closes_held stopped c is =
      absurd (not_zero c.whole 0 (errors err.before c.closing status) c.said (λ z. omega (arith, z))
      (λ z. omega (arith, z)) (λ z. omega (arith, z)) is)

  closes_found : (finish : Finish) → Closes finish out err status → status ≡ 8 →
      HandsOn out.before out.after out.holds true × (finish ≡ ended breached)
  closes_found (ended end) c is =
      let got = ends_in_breach end out err status (as_job end out err status c) is in
      (got.0, subst (λ e. ended end ≡ ended e) got.1 refl)
  closes_found stopped c is =
      absurd (not_zero c.whole 8 (errors err.before c.closing status) c.said (λ z. omega (arith, z))
      (λ z. omega (arith, z)) (λ z. omega (arith, z)) is)

  closes_stopped : (finish : Finish) → Closes finish out err status → status ≡ 10 →
      HandsOn out.before out.after out.holds true × (finish ≡ stopped)
  closes_stopped (ended end) c is =
      absurd (not_ten (end_after_delivery c.whole end) (errors err.before c.closing status) c.said is)
  closes_stopped stopped c is = (
    subst (HandsOn out.before out.after out.holds)
        (stopped_is c.whole (errors err.before c.closing status) c.said is) c.handed_on,
    refl,
  )

module _ (told : Option Shelved) (reads reads_after : ℕ) (out : Stream) (put : Tells)
    (handed : HandsOn put out.after out.holds true) where
  all : (r : Request) (finish : Finish) → Whole r (surrounding told reads reads_after out.before put) finish →
      DeliversAll r told reads reads_after out finish
  all r finish w = record {
    good = w.good;
    gained = subst (Appends out.before.contents out.holds) (append-nil w.good.text)
        (appends_keeps out.before.contents put.contents out.holds (concat (w.good.text ∷ [])) w.written.gained
        handed.0);
  }

  by_done : (r : Option Request) → Comes r (surrounding told reads reads_after out.before put) (ended done) →
      Delivers r told reads reads_after out (ended done)
  by_done None came = absurd came
  by_done (Some r) came = all r (ended done) came

  by_breached : (r : Option Request) → Comes r (surrounding told reads reads_after out.before put) (ended breached) →
      Delivers r told reads reads_after out (ended breached)
  by_breached None came = absurd came
  by_breached (Some r) came = all r (ended breached) came

  by_stopped : (r : Option Request) → Comes r (surrounding told reads reads_after out.before put) stopped →
      Delivers r told reads reads_after out stopped
  by_stopped None came = absurd came
  by_stopped (Some r) came = all r stopped came

module _ (words : List Text) (told : Option Shelved) (reads reads_after : ℕ) (out err : Stream) (status : ℕ)
    (r : RunsThrough words told reads reads_after out err status) where
  came_so : (finish : Finish) → r.finish ≡ finish →
      Comes (request_of words) (surrounding told reads reads_after out.before r.put) finish
  came_so finish is = subst (Comes (request_of words) (surrounding told reads reads_after out.before r.put)) is r.came

  pub delivers_held : status ≡ 0 → Delivers (request_of words) told reads reads_after out (ended done)
  delivers_held is =
      let got = closes_held (stream r.put out.after out.holds) err status r.finish r.closes is in
      by_done told reads reads_after out r.put got.0 (request_of words) (came_so (ended done) got.1)

  pub delivers_found : status ≡ 8 → Delivers (request_of words) told reads reads_after out (ended breached)
  delivers_found is =
      let got = closes_found (stream r.put out.after out.holds) err status r.finish r.closes is in
      by_breached told reads reads_after out r.put got.0 (request_of words) (came_so (ended breached) got.1)

  pub delivers_stopped : status ≡ 10 → Delivers (request_of words) told reads reads_after out stopped
  delivers_stopped is =
      let got = closes_stopped (stream r.put out.after out.holds) err status r.finish r.closes is in
      by_stopped told reads reads_after out r.put got.0 (request_of words) (came_so stopped got.1)
