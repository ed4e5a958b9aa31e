use Rattle.std.proofs.Common.{arith}
use Rattle.std.proofs.lemmas.List.Splits.{length-slice_split}
use Rattle.script_mean.specs.Lines.{is_line_feed}
use Rattle.script_text.proofs.lines.Lines.of.Goals as goal

pub invariant_of-result : goal.invariant_of-result
invariant_of-result c = record { counted = omega (arith, c.requires, length-slice_split is_line_feed c.args.text.now) }
