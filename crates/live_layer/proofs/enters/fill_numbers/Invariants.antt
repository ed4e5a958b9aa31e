use Rattle.std.proofs.Common.{◌≡◌, ◌+◌, ◌-◌, ◌≤◌, length, vec_capacity}
use Rattle.layer_mean.specs.Visit.{with_room}
use Rattle.live_layer.specs.Entered.{entry_numbers}
use Rattle.live_layer.proofs.enters.fill_numbers.Given as goal

abbrev pub invariant-loop : goal.invariant-loop
invariant-loop l =
    (with_room (l.fn.count - l.counter) 0 l.numbers.items ≡ entry_numbers l.fn.envelope l.fn.fields l.fn.count) ×
    (length l.numbers.items + (l.fn.count - l.counter) ≤ vec_capacity l.numbers) ×
    (vec_capacity l.numbers ≡ vec_capacity l.fn.numbers)
