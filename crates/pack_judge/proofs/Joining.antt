-- The joins of a trace, operation by operation.
use Rattle.std.proofs.Common.{◌≡◌, ◌∙◌, ℕ, ◌+◌, take, min, Some, sym, ap, arith}
use Rattle.std.specs.Prelude.{slice_get, option_map}
use Rattle.std.proofs.lemmas.List.Sums.{sum_by_push}
use Rattle.std.proofs.lemmas.Option.{slice_get-map, slice_get_within, get_or_from_slice_get}
use Rattle.stack_judge.proofs.Steps.{one_taken}
use Rattle.trace_mean.specs.Counts.{note_joins, trace_joins}
use Rattle.trace_core.specs.declared.operation.Operation.{Operation}
use Rattle.trace_core.specs.Links.{chains}
use Rattle.trace_core.specs.Operations.{operation_in}
use Rattle.trace_core.specs.Trees.{trace_tree}
use Rattle.trace_core.specs.View.{terms}
use Rattle.trace_core.specs.declared.trace.Trace.{Trace}

abbrev most : ℕ
most = 4294967295

added : (a b s joins one total : ℕ) → s ≡ a + b → joins ≡ min a most → one ≡ min b most →
    total ≡ min (joins + one) most → total ≡ min s most
added a b s joins one total sum first second is = omega (arith, sum, first, second, is)

pub one_more : (t : Trace) (k : ℕ) (o : Operation) (joins one total : ℕ) → slice_get t.operations.items k ≡ Some o →
    joins ≡ min (trace_joins (take k (trace_tree t))) most →
    one ≡ min (note_joins (operation_in (terms t.nodes) (chains t.links) o)) most →
    total ≡ min (joins + one) most → total ≡ min (trace_joins (take (k + 1) (trace_tree t))) most
one_more t k o joins one total found so_far of_one is =
    let read = operation_in (terms t.nodes) (chains t.links) in
    let at : slice_get (trace_tree t) k ≡ Some (read o) = slice_get-map read t.operations.items k ∙
    ap (option_map read) found in
    let taken = one_taken (trace_tree t) k (read o) (slice_get_within (trace_tree t) k (read o) at)
    (sym (get_or_from_slice_get (trace_tree t) k (read o) (read o) at)) in
    added (trace_joins (take k (trace_tree t))) (note_joins (read o)) (trace_joins (take (k + 1) (trace_tree t))) joins
    one total
    (ap trace_joins taken ∙ sum_by_push note_joins (take k (trace_tree t)) (read o)) so_far of_one is
