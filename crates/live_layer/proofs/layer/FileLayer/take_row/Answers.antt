use Rattle.std.proofs.Common.{rules}
use Rattle.std.specs.Rc.{rc_value}
use Rattle.typed_layer.specs.View.{layer_tree}
use Rattle.pool_message.specs.Seen.{row_seen}
use Rattle.live_layer.specs.Layer.{refs_of, state_in, IsInOrder}
use Rattle.live_layer.specs.OwnCells.{capacity_at}
use Rattle.live_layer.proofs.OwnCells.{row_own, room_after, without_first_rest, front_together, rows_before}
use Rattle.live_layer.proofs.OwnUndone.{front_read, front_left}
use Rattle.live_layer.proofs.layer.FileLayer.take_row.Goals as goal

pub returns-clause-row : goal.returns-clause-row
unfolding state_in
returns-clause-row c p = front_read (row_seen p) c.args.self.now.desk.cells c.args.cell c.args.index _ (search rules)

pub returns-clause-own : goal.returns-clause-own
unfolding IsInOrder
returns-clause-own c p is =
    row_own (layer_tree (rc_value c.args.self.now.layer)) p c.args.self.now.desk is c.args.cell c.args.index
    0 _ (search rules)

pub returns-clause-state : goal.returns-clause-state
unfolding state_in
returns-clause-state c p = front_left (row_seen p) c.args.self.now.desk.cells c.take.new.self c.args.cell c.args.index
    (search rules)

pub returns-clause-refs : goal.returns-clause-refs
unfolding refs_of
returns-clause-refs c = front_together c.args.self.now.desk.cells c.take.new.self c.args.cell c.args.index _
    (search rules) (search rules)

pub returns-clause-room : goal.returns-clause-room
unfolding state_in capacity_at
returns-clause-room c = room_after c.take.new.self c.args.cell c.args.index _ (search rules)

pub returns-clause-order : goal.returns-clause-order
unfolding IsInOrder
returns-clause-order c p is =
    without_first_rest (layer_tree (rc_value c.args.self.now.layer)) p c.args.self.now.desk is c.args.cell c.args.index
    _ (search rules)

pub returns-clause-others : goal.returns-clause-others
returns-clause-others c = rows_before c.args.self.now c.args.cell c.args.index _ c.take.new.self c.take.ensures.rest
