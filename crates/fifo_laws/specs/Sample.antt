-- A script that meets the premises, and its report: so the laws aren't empty.
use Rattle.std.specs.Prelude.{◌≡◌, ℕ, ◌<◌, ◌^◌, false, List, [], ◌∷◌, ◌++◌, length, codes}
use Rattle.std.specs.List.{AllByRecursion}
use Rattle.script_mean.specs.declared.event.ScriptEvent.TheVariants as script
use Rattle.script_mean.specs.declared.script.Script.{Script}
use Rattle.audit_mean.specs.Text.{is_too_large}
use Rattle.fifo_laws.specs.Layer.{stack}
use Rattle.protocol_laws.specs.Runs.{IsUnforged}
use Rattle.report_laws.specs.ReadsBack.{IsGiven, report_bytes}

-- Two casts; the second comes early and is dropped, the first comes twice, and then the second comes again.
abbrev pub sample : Script
sample = record {
  group = 1;
  stamp = 7;
  members = 3;
  events =
      script.Cast 0 (97 ∷ []) ∷ script.Cast 0 (98 ∷ []) ∷ script.Give 2 1 ∷ script.Give 1 1 ∷ script.Give 1 1 ∷
      script.Give 2 1 ∷ [];
}

-- It is as the law `audit_holds` asks.
abbrev pub SampleIsFair : Type 0
SampleIsFair = IsGiven sample × (AllByRecursion IsUnforged sample.events × (length sample.events < 2 ^ 32))

-- Its report has deliveries.
abbrev pub SampleReports : Type 0
SampleReports =
    (report_bytes stack sample ≡
    codes "packet 1 0 all fifo.num(0) 61\n" ++ codes "packet 2 0 all fifo.num(1) 62\n" ++ codes "deliver 1 cast 0 61\n"
    ++ codes "deliver 1 cast 0 62\n" ++ codes "end 6\n")
    × (is_too_large (report_bytes stack sample) ≡ false)
