use Rattle.std.proofs.Common.{arith, rules}
use Rattle.chart_draw.proofs.Loops.{placed_all, placed_first, placed_on}
use Rattle.chart_draw.proofs.lines.placed.Goals as goal

pub loop-place-init : goal.loop-place-init
loop-place-init c = placed_first c.args.hide.now c.args.first c.args.texts.now _ (search rules)

pub loop-place-preserved : goal.loop-place-preserved
loop-place-preserved c =
    placed_on c.args.hide.now c.args.first c.loop-place.place c.args.texts.now _ _ _ _ _ _ _ (omega arith)
    c.loop-place.invariant c.in_ok-push.ensures.items c.says_after-next.ensures c.line_at-line.ensures
    c.in_ok-end.ensures.is c.in_ok-end.ensures.few

pub returns-clause-lines : goal.returns-clause-lines
returns-clause-lines c =
    (placed_all c.args.hide.now c.args.first _ c.args.texts.now _ _ (omega arith) c.loop-place.invariant).0

pub returns-clause-end : goal.returns-clause-end
returns-clause-end c =
    (placed_all c.args.hide.now c.args.first _ c.args.texts.now _ _ (omega arith) c.loop-place.invariant).1
