use Rattle.std.proofs.Common.{◌≡◌, length}
use Rattle.script_text.specs.Reading.{all_left, lines_left}
use Rattle.script_text.proofs.lines.LinesIterator.next.Given as goal

abbrev pub invariant-loop-line : goal.invariant-loop-line
invariant-loop-line l = lines_left l.self ≡ lines_left l.initial.self

abbrev pub decreases-loop-line : goal.decreases-loop-line
decreases-loop-line l = length (all_left l.self)
