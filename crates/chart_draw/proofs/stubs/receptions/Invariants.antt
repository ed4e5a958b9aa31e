use Rattle.std.proofs.Common.{take}
use Rattle.std.specs.Prelude.{map}
use Rattle.std.specs.HashMap as hash
use Rattle.chart_draw.specs.Reading.{line_shown}
use Rattle.chart_draw.specs.Scenes.{Receives, same_reception}
use Rattle.chart_draw.proofs.stubs.receptions.Given as goal

abbrev pub invariant-loop-line : goal.invariant-loop-line
invariant-loop-line l =
    Receives (hash.get same_reception l.receptions) (map line_shown (take l.line-index l.lines))
