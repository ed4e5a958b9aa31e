-- With status 0 the output's stream has the whole text.
use Rattle.std.proofs.Common.{◌≡◌, refl, subst, ℕ, Bool, true, false, List, Option, Some, None, arith, ⊎_elim}
use Rattle.outside.proofs.Appended.{appends_keeps}
use Rattle.outside.specs.Said.{Errors, errors}
use Rattle.outside.specs.Shelf.{Shelved}
use Rattle.format_mean.specs.Layout.{formatted}
use Rattle.format_run.specs.declared.ending.LayoutEnding.{LayoutEnding}
use Rattle.format_run.specs.declared.ending.LayoutEnding.TheVariants as ending
use Rattle.format_run.specs.Ends.{Comes, Said}
use Rattle.format_run.specs.Through.{RunsThrough, surrounding, end_after_delivery, Delivers}
use Rattle.program_streams.specs.Streams.{Stream, HandsOn}
use Rattle.format_run.proofs.Due.{status_said}

-- an end that was said with status 0 is a whole text
zero_done : (end : LayoutEnding) (e : Errors) → Said end e → e.status ≡ 0 → end ≡ ending.Done
zero_done ending.Done e s is = refl
zero_done ending.Words e s is =
    absurd (⊎_elim (λ due. omega (arith, due, is)) (λ due. omega (arith, due, is)) (status_said ending.Words e s))
zero_done ending.TooLarge e s is =
    absurd (⊎_elim (λ due. omega (arith, due, is)) (λ due. omega (arith, due, is)) (status_said ending.TooLarge e s))
zero_done (ending.BadToken at) e s is =
    absurd (⊎_elim (λ due. omega (arith, due, is)) (λ due. omega (arith, due, is))
    (status_said (ending.BadToken at) e s))
zero_done ending.Read e s is =
    absurd (⊎_elim (λ due. omega (arith, due, is)) (λ due. omega (arith, due, is)) (status_said ending.Read e s))
zero_done ending.Write e s is =
    absurd (⊎_elim (λ due. omega (arith, due, is)) (λ due. omega (arith, due, is)) (status_said ending.Write e s))
zero_done ending.Memory e s is =
    absurd (⊎_elim (λ due. omega (arith, due, is)) (λ due. omega (arith, due, is)) (status_said ending.Memory e s))

-- a text that is whole after the delivery was so before it, and the stream got all
got_all : (whole : Bool) (end : LayoutEnding) → end_after_delivery whole end ≡ ending.Done →
    (whole ≡ true) × (end ≡ ending.Done)
got_all true ending.Done is = (refl, refl)
got_all false ending.Done is = absurd (cc is)
got_all true ending.Words is = absurd (cc is)
got_all false ending.Words is = absurd (cc is)
got_all true ending.TooLarge is = absurd (cc is)
got_all false ending.TooLarge is = absurd (cc is)
got_all true (ending.BadToken at) is = absurd (cc is)
got_all false (ending.BadToken at) is = absurd (cc is)
got_all true ending.Read is = absurd (cc is)
got_all false ending.Read is = absurd (cc is)
got_all true ending.Write is = absurd (cc is)
got_all false ending.Write is = absurd (cc is)
got_all true ending.Memory is = absurd (cc is)
got_all false ending.Memory is = absurd (cc is)

pub delivers : (name : Option (List ℕ)) (told : Option Shelved) (reads reads_after : ℕ) (out err : Stream)
    (status : ℕ) →
    RunsThrough name told reads reads_after out err status → status ≡ 0 → Delivers name told reads reads_after out
delivers name told reads reads_after out err status r is =
    let f = got_all r.whole r.end
    (zero_done (end_after_delivery r.whole r.end) (errors err.before r.closing status) r.said is) in
    by_name name (subst (Comes name (surrounding told reads reads_after out.before r.put)) f.1 r.came)
    (subst (HandsOn r.put out.after out.holds) f.0 r.handed_on)
  where
    by_name : (name : Option (List ℕ)) → Comes name (surrounding told reads reads_after out.before r.put) ending.Done →
        HandsOn r.put out.after out.holds true → Delivers name told reads reads_after out
    by_name None c h = absurd c
    by_name (Some name) c h = record {
      file = c.file;
      found = c.found;
      gained = appends_keeps out.before.contents r.put.contents out.holds (formatted c.file) c.written.gained h.0;
    }
