use Rattle.std.proofs.Common.{arith, ◌∙◌}
use Rattle.chart_draw.proofs.Loops.{says_last, says_next}
use Rattle.chart_draw.proofs.lines.says_after.Goals as goal

pub returns-then-next-texts : goal.returns-then-next-texts
returns-then-next-texts c = c.says_of.ensures ∙ says_next c.args.texts.now _ _ (omega arith)

pub returns-else-next-texts : goal.returns-else-next-texts
returns-else-next-texts c = says_last c.args.texts.now _ (omega arith)
