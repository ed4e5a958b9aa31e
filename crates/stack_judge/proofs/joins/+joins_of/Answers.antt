use Rattle.stack_judge.proofs.Blocks.{joins_step}
use Rattle.stack_judge.proofs.joins.+joins_of.Goals as goal

pub of_block-loop-statement-preserved : goal.of_block-loop-statement-preserved
of_block-loop-statement-preserved t c =
    joins_step c.as_slice-statement-items.result.now c.loop-statement.statement-index c.statement-item.result
    c.loop-statement.sum
    c.of_statement.result c.saturating_add-sum.result c.loop-statement-test.true c.statement-item.is
    c.loop-statement.invariant
    c.of_statement.ensures c.saturating_add-sum.ensures
