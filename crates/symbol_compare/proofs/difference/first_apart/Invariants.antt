use Rattle.std.proofs.Common.{◌≡◌, take}
use Rattle.symbol_compare.proofs.difference.first_apart.Given as goal

abbrev pub invariant-loop-place : goal.invariant-loop-place
invariant-loop-place l = take l.place l.acts ≡ take l.place l.own
