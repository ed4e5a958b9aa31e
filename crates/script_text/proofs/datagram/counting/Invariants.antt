use Rattle.std.proofs.Common.{◌≡◌, ◌≤◌, ◌%◌, vec_capacity}
use Rattle.std.specs.Prelude.{map}
use Rattle.std.specs.List.{range_with_len}
use Rattle.script_text.proofs.datagram.counting.Given as goal

abbrev pub invariant-loop-place : goal.invariant-loop-place
invariant-loop-place l = (l.bytes.items ≡ map (λ byte. byte % 256) (range_with_len l.number l.place)) ×
    (l.size ≤ vec_capacity l.bytes)
