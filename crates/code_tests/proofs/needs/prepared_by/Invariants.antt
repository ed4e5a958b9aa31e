use Rattle.std.proofs.Common.{◌≡◌, ◌≤◌, map, take}
use Rattle.code_make.specs.Trees.{test_tree}
use Rattle.code_tests.specs.Registers.{prepared_numbers}
use Rattle.code_tests.proofs.needs.prepared_by.Given as goal

abbrev pub invariant-loop-test : goal.invariant-loop-test
invariant-loop-test l = (l.numbers ≡ prepared_numbers (map test_tree (take l.test-index l.tests))) ×
    (l.numbers ≤ l.test-index)
