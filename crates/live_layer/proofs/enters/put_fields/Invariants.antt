use Rattle.std.proofs.Common.{◌≡◌, ◌++◌, take, vec_capacity}
use Rattle.live_layer.proofs.enters.put_fields.Given as goal

abbrev pub invariant-loop-k : goal.invariant-loop-k
invariant-loop-k l = (l.numbers.items ≡ l.fn.numbers.items ++ take l.k l.fn.fields) ×
    (vec_capacity l.numbers ≡ vec_capacity l.fn.numbers)
