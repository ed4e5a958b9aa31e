use Rattle.std.proofs.Common.{length}
use Rattle.outside.specs.Tells.{tells_of}
use Rattle.format_mean.specs.Layout.{formatted_lines}
use Rattle.format_layout.specs.Shown.{begun_of}
use Rattle.format_layout.proofs.Laying.{SoFar}
use Rattle.format_layout.proofs.text.lay_out.Given as goal

abbrev pub invariant-loop-first : goal.invariant-loop-first
invariant-loop-first g l =
    SoFar (formatted_lines l.initial.text) (tells_of g.O.Sink l.initial.out) (tells_of g.O.Sink l.out) (begun_of l.line)
    l.feeds l.rest

abbrev pub decreases-loop-first : goal.decreases-loop-first
decreases-loop-first g l = length l.rest
