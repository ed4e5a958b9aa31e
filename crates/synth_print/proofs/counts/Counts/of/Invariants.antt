use Rattle.std.proofs.Common.{◌≡◌, ◌∷◌, take}
use Rattle.std.specs.List.{fold}
use Rattle.synth_print.specs.Counts.{no_counts, with_cases}
use Rattle.synth_print.proofs.counts.Counts.of.Given as goal

abbrev pub invariant-loop-cases : goal.invariant-loop-cases
invariant-loop-cases l = l.counts ≡
    fold with_cases no_counts (l.bypasses.cast ∷ l.bypasses.send ∷ take l.cases-index l.cases-items)
