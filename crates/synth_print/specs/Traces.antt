-- The lines of traces, as they are put.
use Rattle.std.specs.Prelude.{ℕ, ◌+◌, Bool, true, false, List, [], ◌++◌, codes, Option, Some, None}
use Rattle.std.specs.List.{enumerate_from, flat_map}
use Rattle.bypass_mean.specs.Bypasses as mean
use Rattle.bypass_mean.specs.Lines.{entry_traces, plan_name, trace_lines}
use Rattle.layer_mean.specs.Tree.{LayerTree}
use Rattle.stack_mean.specs.Plan.{Plan}
use Rattle.synth_print.specs.Entries.{if_made, name_text}
use Rattle.synth_print.specs.Lines.{ended_lines}
use Rattle.synth_print.specs.declared.name.Name.{Name}
use Rattle.synth_print.specs.declared.name.Name.TheVariants as names
use Rattle.trace_core.specs.Bypasses.{bypasses_tree, first_tree, second_tree}
use Rattle.trace_core.specs.declared.bypass.Bypasses.{Bypasses}
use Rattle.trace_core.specs.declared.bypass.Cases.{Cases}

-- What stands before the trace of a case of an entry.
abbrev pub trace_heading : Name → Bool → List ℕ
trace_heading name false = codes "entry " ++ name_text name ++ codes " case 1"
trace_heading name true = codes "entry " ++ name_text name ++ codes " case 2"

-- The traces of an entry: that of its first case, and that of its second where there is one.
abbrev pub second_traces : List LayerTree → Name → Option mean.Made → List (List ℕ)
second_traces stack name second = if_made (trace_lines stack (trace_heading name true)) second

abbrev pub case_traces : List LayerTree → Name → mean.Made → Option mean.Made → List (List ℕ)
case_traces stack name first second = ended_lines (trace_lines stack (trace_heading name false) first) ++
    second_traces stack name second

-- Those of an entry of which something is made, and those of the entry of a numbered plan.
abbrev pub found_traces : List LayerTree → Name → Option Cases → List (List ℕ)
found_traces stack name None = []
found_traces stack name (Some cases) = case_traces stack name (first_tree cases) (second_tree cases)

abbrev pub plan_traces : List LayerTree → mean.Bypasses → ℕ → List (List ℕ)
plan_traces stack b k = ended_lines (entry_traces stack b (k + 2) (plan_name k))

abbrev pub plan_turn : List LayerTree → mean.Bypasses → ℕ × Plan → List (List ℕ)
plan_turn stack b x = plan_traces stack b x.0

-- The traces of all entries.
abbrev pub all_traces : List LayerTree → List Plan → Bypasses → List (List ℕ)
all_traces stack plans b =
    case_traces stack names.Cast (first_tree b.cast) (second_tree b.cast) ++
    case_traces stack names.Send (first_tree b.send) (second_tree b.send)
    ++ flat_map (plan_turn stack (bypasses_tree b)) (enumerate_from 0 plans)
