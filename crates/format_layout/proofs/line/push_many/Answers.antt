use Rattle.std.proofs.Common.{rules}
use Rattle.format_layout.proofs.Lines.{filled_more}
use Rattle.format_layout.proofs.line.push_many.Goals as goal

pub loop-preserved : goal.loop-preserved
loop-preserved c = filled_more _ _ _ _ _ c.loop.invariant (search rules)
