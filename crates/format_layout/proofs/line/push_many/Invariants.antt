use Rattle.std.proofs.Common.{◌≡◌, ◌++◌, replicate}
use Rattle.format_layout.proofs.line.push_many.Given as goal

abbrev pub invariant-loop : goal.invariant-loop
invariant-loop l = l.line.items ≡ l.initial.line.items ++ replicate l.counter l.byte
