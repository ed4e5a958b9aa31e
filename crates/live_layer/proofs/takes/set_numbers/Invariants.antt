use Rattle.std.proofs.Common.{◌≡◌, drop, vec_capacity}
use Rattle.live_layer.specs.Taken.{numbers_filled}
use Rattle.live_layer.proofs.takes.set_numbers.Given as goal

abbrev pub invariant-loop-k : goal.invariant-loop-k
invariant-loop-k l =
    (numbers_filled (drop l.k l.fn.slots) (drop l.k l.fn.values) l.numbers.items ≡
    numbers_filled l.fn.slots l.fn.values l.fn.numbers.items) ×
    (vec_capacity l.numbers ≡ vec_capacity l.fn.numbers)
