use Rattle.desk_needs.proofs.Blocks.{in_hand_step}
use Rattle.desk_needs.proofs.reserve.+in_hand.Goals as goal

pub of_block-loop-statement-preserved : goal.of_block-loop-statement-preserved
of_block-loop-statement-preserved t c =
    in_hand_step c.as_slice-statement-items.result.now c.loop-statement.statement-index c.statement-item.result
    c.loop-statement.most
    c.of_statement.result c.max-most.result c.loop-statement-test.true c.statement-item.is c.loop-statement.invariant
    c.of_statement.ensures
    c.max-most.ensures
