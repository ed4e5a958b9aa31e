use Rattle.std.proofs.Common.{◌≡◌, ◌+◌, length}
use Rattle.std.specs.Prelude.{count_by}
use Rattle.script_mean.specs.Lines.{is_line_feed}
use Rattle.script_text.proofs.lines.line_feeds.Given as goal

abbrev pub invariant-loop-rest : goal.invariant-loop-rest
invariant-loop-rest l = l.count + count_by is_line_feed l.rest ≡ count_by is_line_feed l.text

abbrev pub decreases-loop-rest : goal.decreases-loop-rest
decreases-loop-rest l = length l.rest
