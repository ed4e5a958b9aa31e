use Rattle.std.proofs.Common.{◌≡◌, List, length, map, take}
use Rattle.slot_pool.specs.Held.{Held}
use Rattle.guard_mean.specs.Machine.{operand_at}
use Rattle.code_make.specs.Trees.{operand_tree}
use Rattle.code_tests.specs.Registers.{input_of, kept_in}
use Rattle.code_tests.proofs.numbers.all_operands.Given as goal

abbrev pub invariant-loop-k : goal.invariant-loop-k
invariant-loop-k l =
    ((p : List Held) → l.numbers ≡ map (operand_at (input_of l.given) (kept_in p l.values))
    (map operand_tree (take l.k l.operands)))
    × (length l.numbers ≡ l.k)
