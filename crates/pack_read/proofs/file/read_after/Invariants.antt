use Rattle.std.proofs.Common.{◌≡◌, ◌+◌, ◌≤◌, length}
use Rattle.stack_judge.specs.Answer.{stack_tree}
use Rattle.pack_mean.specs.File.{traces_from}
use Rattle.pack_read.specs.Lines.{lines_left}
use Rattle.pack_read.specs.Open.{AreParts}
use Rattle.pack_read.specs.Files.{begun_after, reading_in}
use Rattle.pack_read.proofs.file.read_after.Given as goal

abbrev pub invariant-loop-line : goal.invariant-loop-line
invariant-loop-line l =
    (traces_from (stack_tree l.stack) (reading_in (stack_tree l.stack) l.reading) l.number (lines_left l.line-iterator)
    ≡ traces_from (stack_tree l.stack) (begun_after l.fn.due) 2 (lines_left l.fn.lines))
    × AreParts l.reading.current
    × (l.number + length (lines_left l.line-iterator) ≤ 33554434)
