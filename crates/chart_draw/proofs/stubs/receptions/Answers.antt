use Rattle.std.proofs.Common.{arith}
use Rattle.std.specs.HashMap as hash
use Rattle.chart_draw.specs.Scenes.{same_reception}
use Rattle.chart_draw.proofs.Stubbed.{received_more}
use Rattle.chart_draw.proofs.stubs.receptions.Goals as goal

pub loop-line-preserved : goal.loop-line-preserved
loop-line-preserved c =
    received_more (hash.get same_reception c.loop-line.receptions)
    (hash.get same_reception c.note_reception.new.receptions)
    c.args.lines.now c.loop-line.line-index _ (omega arith) c.loop-line.invariant c.in_ok-note_reception.ensures
