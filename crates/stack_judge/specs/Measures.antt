-- What is counted of the nodes of a stack.
use Rattle.std.specs.Prelude.{ℕ}
use Rattle.weight_laws.specs.Tables.{Vertex}
use Rattle.weight_laws.specs.Rounds.{one_task, joins_of_vertex}
use Rattle.stack_judge.specs.declared.rounds.Measure.{Measure}
use Rattle.stack_judge.specs.declared.rounds.Measure.TheVariants.{Tasks, Joins}

-- What a vertex costs of its own.
abbrev pub own_of : Measure → Vertex → ℕ
own_of Tasks = one_task
own_of Joins = joins_of_vertex
