use Rattle.std.proofs.Common.{length}
use Rattle.format_layout.proofs.Remarks.{Counting}
use Rattle.format_layout.proofs.marks.comment_length.Given as goal

abbrev pub invariant-loop-first : goal.invariant-loop-first
invariant-loop-first l = Counting l.bytes l.length l.seen l.rest

abbrev pub decreases-loop-first : goal.decreases-loop-first
decreases-loop-first l = length l.rest
