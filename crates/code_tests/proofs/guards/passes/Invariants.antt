use Rattle.std.proofs.Common.{◌≡◌, ◌+◌, true, length, map, vec_capacity}
use Rattle.std.specs.List.{fold}
use Rattle.live_layer.specs.Layer.{state_in}
use Rattle.guard_mean.specs.Machine.{tested, tests}
use Rattle.code_make.specs.Trees.{test_tree}
use Rattle.code_tests.specs.Registers.{ValuesLie, input_of, kept_in, prepared_numbers}
use Rattle.code_tests.proofs.guards.passes.Given as goal

abbrev pub invariant-loop-test : goal.invariant-loop-test
invariant-loop-test l =
    (fold (tests (input_of l.given) (map (state_in l.pool) l.layers))
    (record { kept = kept_in l.pool l.values; passes = true })
    (map test_tree l.left)
    ≡ tested (input_of l.given) (map test_tree l.tests) (map (state_in l.pool) l.layers))
    × (length l.values.numbers.items + prepared_numbers (map test_tree l.left) ≡
    prepared_numbers (map test_tree l.tests))
    × (vec_capacity l.values.numbers ≡ vec_capacity l.fn.values.numbers)
    × (l.values ≡ record l.fn.values { numbers = l.values.numbers })
    × ValuesLie l.pool l.values

abbrev pub decreases-loop-test : goal.decreases-loop-test
decreases-loop-test l = length l.left
