use Rattle.std.proofs.Common.{◌≡◌}
use Rattle.symbol_compare.specs.Table.{Grown}
use Rattle.symbol_compare.specs.Steps.{Walked}
use Rattle.symbol_compare.proofs.difference.go.Given as goal

abbrev pub invariant-loop-turn : goal.invariant-loop-turn
invariant-loop-turn l = Grown l.fn.table l.table × (l.walk.trace ≡ l.fn.walk.trace) × (l.walk.done ≡ l.turn) ×
    Walked l.table l.walk l.acts.items
