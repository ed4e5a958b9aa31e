use Rattle.std.proofs.Common.{◌≡◌, length, map, take, vec_capacity}
use Rattle.live_layer.specs.Layer.{state_in}
use Rattle.guard_mean.specs.Checks.{failing_from}
use Rattle.trace_mean.specs.Worth.{nothing_kept}
use Rattle.code_make.specs.Trees.{test_tree}
use Rattle.code_tests.specs.Registers.{ValuesLie, input_of, kept_in, prepared_numbers}
use Rattle.code_tests.proofs.Failing.{failing_at}
use Rattle.code_tests.proofs.guards.first_failing.Given as goal

abbrev pub invariant-loop-k : goal.invariant-loop-k
invariant-loop-k l =
    (failing_from (input_of l.given) (map (state_in l.pool) l.layers) 0 nothing_kept (map test_tree l.tests)
    ≡ failing_at (input_of l.given) (map (state_in l.pool) l.layers) l.k (kept_in l.pool l.values) l.tests)
    × (length l.values.numbers.items ≡ prepared_numbers (map test_tree (take l.k l.tests)))
    × (vec_capacity l.values.numbers ≡ vec_capacity l.fn.values.numbers)
    × (l.values ≡ record l.fn.values { numbers = l.values.numbers })
    × ValuesLie l.pool l.values
