-- The file of traces, part by part.
use Rattle.std.proofs.Common.{◌≡◌, ℕ, suc, ◌+◌, List, [], ◌∷◌, ◌++◌, codes, Option, Some, None, refl, sym, ap, ◌∙◌}
use Rattle.std.proofs.Common.{arith, true, false}
use Rattle.std.specs.List.{enumerate_from, flat_map, slice_get}
use Rattle.bypass_mean.specs.Bypasses as mean
use Rattle.bypass_mean.specs.Lines.{ended_line, entry_traces, file_lines, plan_name, plans_traces, trace_lines}
use Rattle.layer_words.specs.declared.events.Kind.TheVariants.{Cast}
use Rattle.layer_mean.specs.Tree.{LayerTree}
use Rattle.stack_mean.specs.Plan.{Plan}
use Rattle.synth_print.specs.Entries.{name_text}
use Rattle.synth_print.specs.Lines.{ended_lines}
use Rattle.synth_print.specs.Traces.{all_traces, case_traces, found_traces, plan_traces, plan_turn, trace_heading}
use Rattle.synth_print.specs.declared.name.Name.{Name}
use Rattle.synth_print.specs.declared.name.Name.TheVariants as names
use Rattle.synth_print.proofs.Printed.{ended_both, entry_none, entry_told, plan_made}
use Rattle.trace_core.specs.Bypasses.{bypasses_tree, first_tree, second_tree}
use Rattle.trace_core.specs.declared.bypass.Bypasses.{Bypasses}
use Rattle.trace_core.specs.declared.bypass.Cases.{Cases}

-- where a plan's number alone is looked at
pub no_plan : Plan
no_plan = record { kind = Cast; tags = []; fields = [] }

entry_is : (stack : List LayerTree) (b : mean.Bypasses) (n : ℕ) (name : Name) (first : mean.Made)
    (second : Option mean.Made) →
    slice_get b.made n ≡ Some first → slice_get b.second n ≡ Some second →
    case_traces stack name first second ≡ ended_lines (entry_traces stack b n (name_text name))
entry_is stack b n name first second is also =
    entry_told (trace_lines stack (trace_heading name false)) (trace_lines stack (trace_heading name true)) b n first
    second is also

pub found_is : (stack : List LayerTree) (b : Bypasses) (k : ℕ) (o : Option Cases) → o ≡ slice_get b.plans.items k →
    found_traces stack (names.Plan k) o ≡ plan_traces stack (bypasses_tree b) k
found_is stack b k None is =
    entry_none (trace_lines stack (trace_heading (names.Plan k) false))
    (trace_lines stack (trace_heading (names.Plan k) true)) (bypasses_tree b) (k + 2)
    (plan_made first_tree b k None is) (plan_made second_tree b k None is)
found_is stack b k (Some c) is =
    entry_is stack (bypasses_tree b) (k + 2) (names.Plan k) (first_tree c) (second_tree c)
    (plan_made first_tree b k (Some c) is)
    (plan_made second_tree b k (Some c) is)

turns_are : (stack : List LayerTree) (b : mean.Bypasses) (k : ℕ) (plans : List Plan) →
    flat_map (plan_turn stack b) (enumerate_from k plans) ≡ ended_lines (plans_traces stack b k plans)
turns_are stack b k [] = refl
turns_are stack b k (plan ∷ plans) =
    let next : k + 1 ≡ suc k = omega arith in
    ap (λ lines. plan_traces stack b k ++ lines)
    (ap (λ n. flat_map (plan_turn stack b) (enumerate_from n plans)) next ∙ turns_are stack b (suc k) plans)
    ∙ sym (ended_both (entry_traces stack b (k + 2) (plan_name k)) (plans_traces stack b (suc k) plans))

pub all_is : (stack : List LayerTree) (plans : List Plan) (b : Bypasses) →
    (ended_line (codes "bypasses 1") ∷ []) ++ (all_traces stack plans b ++ ended_line (codes "end") ∷ [])
    ≡ ended_lines (file_lines stack plans (bypasses_tree b))
all_is stack plans b =
    let bs = bypasses_tree b in
    let cast = entry_traces stack bs 0 (codes "cast") in
    let send = entry_traces stack bs 1 (codes "send") in
    let rest = plans_traces stack bs 0 plans in
    let last = codes "end" ∷ [] in
    ap (λ l. ended_line (codes "bypasses 1") ∷ l)
    (ap (λ l. l ++ case_traces stack names.Send (first_tree b.send) (second_tree b.send)
    ++ flat_map (plan_turn stack bs) (enumerate_from 0 plans) ++ ended_lines last)
    (entry_is stack bs 0 names.Cast (first_tree b.cast) (second_tree b.cast) refl refl)
    ∙ ap (λ l. ended_lines cast ++ l ++ flat_map (plan_turn stack bs) (enumerate_from 0 plans) ++ ended_lines last)
    (entry_is stack bs 1 names.Send (first_tree b.send) (second_tree b.send) refl refl)
    ∙ ap (λ l. ended_lines cast ++ ended_lines send ++ l ++ ended_lines last) (turns_are stack bs 0 plans)
    ∙ ap (λ l. l ++ ended_lines rest ++ ended_lines last) (sym (ended_both cast send))
    ∙ ap (λ l. l ++ ended_lines last) (sym (ended_both (cast ++ send) rest))
    ∙ sym (ended_both (cast ++ send ++ rest) last))
