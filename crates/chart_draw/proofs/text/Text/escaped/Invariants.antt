use Rattle.std.proofs.Common.{◌≡◌, ◌++◌, take}
use Rattle.chart_mean.specs.Escape.{escaped}
use Rattle.chart_draw.proofs.text.Text.escaped.Given as goal

abbrev pub invariant-loop-byte : goal.invariant-loop-byte
invariant-loop-byte l = l.self ≡ l.initial.self ++ escaped (take l.byte-index l.text)
