use Rattle.std.proofs.Common.{◌≡◌, ◌≤◌, take}
use Rattle.std.specs.Prelude.{count_by}
use Rattle.script_mean.specs.Lines.{is_line_feed}
use Rattle.script_text.proofs.lines.line_feeds_of_block.Given as goal

abbrev pub invariant-loop-byte : goal.invariant-loop-byte
invariant-loop-byte l = (l.count ≡ count_by is_line_feed (take l.byte-index l.block)) × (l.count ≤ l.byte-index)
