-- What may be answered for a stack.
use Rattle.std.specs.Prelude.{◌≡◌, ℕ, List, map, slice_index, Result, Ok, Err}
use Rattle.layer_mean.specs.Tree.{LayerTree}
use Rattle.stack_mean.specs.Graph.{Node}
use Rattle.stack_mean.specs.Acceptance.{acceptance, cycle, too_many, too_many_joins, largest, largest_weight}
use Rattle.stack_mean.specs.Acceptance.{largest_joins}
use Rattle.weight_laws.specs.Tables.{node_number}
use Rattle.stack_judge.specs.declared.error.StackError.{StackError}
use Rattle.stack_judge.specs.declared.error.StackError.TheVariants.{Cycle, TooMany, TooManyJoins, Memory}
use Rattle.stack_judge.specs.declared.rounds.Measure.{Measure}
use Rattle.stack_judge.specs.declared.rounds.Measure.TheVariants.{Tasks, Joins}

-- What is counted of a stack: its weight, or its joins.
abbrev pub largest_of : Measure → List LayerTree → ℕ
largest_of Tasks = largest_weight
largest_of Joins = largest_joins

-- The largest cost of some nodes, by a table.
abbrev pub largest_at : List ℕ → List Node → ℕ
largest_at costs ns = largest (map (λ n. slice_index costs (node_number n)) ns)

-- The answer for a stack: its weight where it is accepted, the very refusal that the definition gives, or want of
-- memory.
abbrev pub IsJudged : List LayerTree → Result ℕ StackError → Type 0
IsJudged stack (Ok weight) = (acceptance stack ≡ Ok stack) × (weight ≡ largest_weight stack)
IsJudged stack (Err (Cycle place kind)) = acceptance stack ≡ Err (cycle place kind)
IsJudged stack (Err (TooMany weight)) = acceptance stack ≡ Err (too_many weight)
IsJudged stack (Err TooManyJoins) = acceptance stack ≡ Err too_many_joins
IsJudged stack (Err Memory) = Unit {0}
