-- With status 0 the output's stream has the whole picture.
use Rattle.std.proofs.Common.{◌≡◌, refl, subst, ℕ, Bool, true, false, List, [], ◌∷◌, append-nil, Option, Some, None}
use Rattle.std.proofs.Common.{arith}
use Rattle.std.specs.List.{concat}
use Rattle.std.specs.Io.KnownBytes.{Appends}
use Rattle.clap.specs.Walk.{Text}
use Rattle.outside.proofs.Appended.{appends_keeps}
use Rattle.outside.specs.Shelf.{Shelved}
use Rattle.outside.specs.Said.{Errors, SaysLine, whole, failed, no_memory, errors}
use Rattle.chart_mean.specs.Words.{Request, request_of}
use Rattle.chart_mean.specs.Ends.{Said}
use Rattle.chart_mean.specs.Runs.{Comes, surrounding}
use Rattle.chart_mean.specs.Through.{RunsThrough, end_after_delivery, Delivers}
use Rattle.program_streams.specs.Streams.{Stream, HandsOn}
use Rattle.chart_mean.specs.declared.types.ChartEnding.{ChartEnding}
use Rattle.chart_mean.specs.declared.types.ChartEnding.TheVariants.{Done, TooLarge, Line, Words, Read, Write, Memory}

not_said : (line : List ℕ) (n : ℕ) (e : Errors) → SaysLine line n e → (n ≡ 0 → ⊥) → e.status ≡ 0 → ⊥
not_said line n e (whole gained is) apart zero = apart (omega (arith, is, zero))
not_said line n e (failed part is) apart zero = apart (omega (arith, is, zero))
not_said line n e (no_memory begun is) apart zero = absurd (omega (arith, is, zero))

-- only a run that went well has the status 0
well : (end : ChartEnding) (e : Errors) → Said end e → e.status ≡ 0 → end ≡ Done
well Done e said is = refl
well TooLarge e said is = absurd (not_said _ 1 e said (λ z. omega (arith, z)) is)
well (Line number) e said is = absurd (not_said _ 1 e said (λ z. omega (arith, z)) is)
well Words e said is = absurd (not_said _ 2 e said (λ z. omega (arith, z)) is)
well Read e said is = absurd (not_said _ 4 e said (λ z. omega (arith, z)) is)
well Write e said is = absurd (not_said _ 5 e said (λ z. omega (arith, z)) is)
well Memory e said is = absurd (not_said _ 7 e said (λ z. omega (arith, z)) is)

-- an end that is well after the delivery was so before it, and the stream got all
got_all : (whole : Bool) (end : ChartEnding) → end_after_delivery whole end ≡ Done → (whole ≡ true) × (end ≡ Done)
got_all true end is = (refl, is)
got_all false Done is = absurd (cc is)
got_all false TooLarge is = absurd (cc is)
got_all false (Line number) is = absurd (cc is)
got_all false Words is = absurd (cc is)
got_all false Read is = absurd (cc is)
got_all false Write is = absurd (cc is)
got_all false Memory is = absurd (cc is)

pub delivers : (words : List Text) (told : Option Shelved) (reads reads_after : ℕ) (out err : Stream) (status : ℕ) →
    RunsThrough words told reads reads_after out err status → status ≡ 0 →
    Delivers (request_of words) told reads reads_after out
delivers words told reads reads_after out err status r zero =
    let got = got_all r.whole r.end
    (well (end_after_delivery r.whole r.end) (errors err.before r.closing status) r.said zero) in
    by (request_of words)
    (subst (Comes (request_of words) (surrounding told reads reads_after out.before r.put)) got.1 r.came)
    (subst (HandsOn r.put out.after out.holds) got.0 r.handed_on)
  where
    by : (request : Option Request) → Comes request (surrounding told reads reads_after out.before r.put) Done →
        HandsOn r.put out.after out.holds true →
        Delivers request told reads reads_after out
    by None came handed = absurd came
    by (Some request) came handed =
        record {
          good = came.good;
          gained = subst (Appends out.before.contents out.holds) (append-nil came.good.picture)
              (appends_keeps out.before.contents r.put.contents out.holds (concat (came.good.picture ∷ []))
              came.written.gained handed.0);
        }
