-- How much room a trace needs: its joins, its notes and its outputs are no more than is known of its entry beforehand.
use Rattle.std.specs.Prelude.{◌≡◌, ℕ, ◌+◌, ◌<◌, ◌≤◌, List, Option, None, Ok}
use Rattle.layer_mean.specs.declared.run.Case.{Case}
use Rattle.layer_mean.specs.Tree.{LayerTree}
use Rattle.stack_mean.specs.Graph.{first_on_cycle}
use Rattle.stack_mean.specs.Acceptance.{weight, weight_limit, most_joins, joins_limit, acceptance}
use Rattle.stack_mean.specs.Shape.{Known, visits_limit}
use Rattle.weight_laws.specs.Orderly.{IsOrderly}
use Rattle.trace_mean.specs.Trace.{Operation}
use Rattle.trace_mean.specs.Fuse.{trace_of}
use Rattle.trace_mean.specs.Counts.{trace_length, trace_notes, trace_outputs, trace_joins}
use Rattle.trace_form_laws.specs.Entries.{IsEntry, entry_node}

-- A trace joins no more than acceptance counts for its entry.
abbrev pub TracesJoinLess : Type 0
TracesJoinLess = (case : Case) (stack : List LayerTree) (k : Known) (fields : List (Option ℕ))
    (operations : List Operation) →
    IsOrderly stack → first_on_cycle stack ≡ None → IsEntry stack k →
    trace_of case stack k fields ≡ Ok operations →
    trace_joins operations ≤ most_joins stack (entry_node stack k)

-- There are fewer notes than other operations and visits together.
abbrev pub FewNotes : List Operation → Type 0
FewNotes operations = trace_notes operations < trace_length operations + visits_limit

-- So it is in a trace, and it has no more outputs than its entry weighs.
pub record IsFew (stack : List LayerTree) (k : Known) (operations : List Operation) : Type 0 where
  pub notes : FewNotes operations
  pub outputs : trace_outputs operations ≤ weight stack (entry_node stack k)

abbrev pub TracesAreFew : Type 0
TracesAreFew = (case : Case) (stack : List LayerTree) (k : Known) (fields : List (Option ℕ))
    (operations : List Operation) →
    IsOrderly stack → first_on_cycle stack ≡ None → IsEntry stack k → weight stack (entry_node stack k) ≤ weight_limit →
    trace_of case stack k fields ≡ Ok operations → IsFew stack k operations

-- So where a stack is accepted, all three are within limits.
pub record IsWithin (operations : List Operation) : Type 0 where
  pub joins : trace_joins operations ≤ joins_limit
  pub notes : FewNotes operations
  pub outputs : trace_outputs operations ≤ weight_limit

abbrev pub AcceptedTracesFit : Type 0
AcceptedTracesFit = (case : Case) (stack : List LayerTree) (k : Known) (fields : List (Option ℕ))
    (operations : List Operation) →
    IsOrderly stack → acceptance stack ≡ Ok stack → IsEntry stack k →
    trace_of case stack k fields ≡ Ok operations → IsWithin operations
