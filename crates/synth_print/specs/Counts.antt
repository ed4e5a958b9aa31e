-- How many entries have a trace in a case, and how many have none.
use Rattle.std.specs.Prelude.{◌+◌, ◌∷◌, Option, Some, None}
use Rattle.std.specs.List.{fold}
use Rattle.bypass_mean.specs.Bypasses as mean
use Rattle.bypass_mean.specs.Lines.{a_fused, an_absent}
use Rattle.synth_print.specs.declared.counts.Counts.{Counts}
use Rattle.trace_core.specs.Bypasses.{first_tree, second_tree}
use Rattle.trace_core.specs.declared.bypass.Bypasses.{Bypasses}
use Rattle.trace_core.specs.declared.bypass.Cases.{Cases}

abbrev pub no_counts : Counts
no_counts = record { fused = 0; absent = 0 }

-- With what is made in one more case, where there is one.
abbrev pub with_made : Counts → mean.Made → Counts
with_made c made = record { fused = c.fused + a_fused made; absent = c.absent + an_absent made }

abbrev pub with_second : Counts → Option mean.Made → Counts
with_second c None = c
with_second c (Some made) = with_made c made

abbrev pub with_cases : Counts → Cases → Counts
with_cases c cases = with_second (with_made c (first_tree cases)) (second_tree cases)

-- Those of all entries.
abbrev pub counts_of : Bypasses → Counts
counts_of b = fold with_cases no_counts (b.cast ∷ b.send ∷ b.plans.items)
