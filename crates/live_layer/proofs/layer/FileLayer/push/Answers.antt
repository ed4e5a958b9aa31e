use Rattle.std.proofs.Common.{sym, ap, subst, ◌∙◌}
use Rattle.std.specs.Rc.{rc_value}
use Rattle.typed_layer.specs.View.{layer_tree}
use Rattle.cell_store.specs.Kept.{kept_capacity, state_of}
use Rattle.cell_store.proofs.Seen.{last_seen}
use Rattle.pool_message.specs.Seen.{row_seen}
use Rattle.live_layer.specs.Layer.{refs_of, state_in, IsInOrder}
use Rattle.live_layer.specs.OwnCells.{capacity_at}
use Rattle.live_layer.specs.Rest.{IsAtRest}
use Rattle.live_layer.proofs.OwnCells.{room_kept, last_rest, last_together, rows_before}
use Rattle.live_layer.proofs.ReadyCells.{there_with_room}
use Rattle.live_layer.proofs.layer.FileLayer.push.Goals as goal

pub push-requires : goal.push-requires
unfolding state_in capacity_at
push-requires c = room_kept c.args.self.now.desk.cells c.args.cell c.args.index c.requires.room

pub returns-clause-state : goal.returns-clause-state
unfolding state_in
returns-clause-state c p =
    ap (state_of (row_seen p)) c.push.ensures ∙ last_seen (row_seen p) c.args.self.now.desk.cells c.args.cell
    c.args.index c.args.row

pub returns-clause-refs : goal.returns-clause-refs
unfolding refs_of state_in capacity_at
returns-clause-refs c =
    last_together c.args.self.now.desk.cells c.push.new.self c.args.cell c.args.index c.args.row
    (room_kept c.args.self.now.desk.cells c.args.cell c.args.index c.requires.room) c.push.ensures

pub returns-clause-order : goal.returns-clause-order
unfolding IsInOrder state_in capacity_at
returns-clause-order c p is own =
    let old = c.args.self.now.desk.cells in
    let room = there_with_room old c.args.cell c.args.index (kept_capacity old c.args.cell)
    (room_kept old c.args.cell c.args.index c.requires.room) in
    subst (λ k. IsAtRest (layer_tree (rc_value c.args.self.now.layer)) p (record c.args.self.now.desk { cells = k }))
    (sym c.push.ensures)
    (last_rest (layer_tree (rc_value c.args.self.now.layer)) p c.args.self.now.desk is c.args.cell c.args.index
    c.args.row room.1 own)

pub returns-clause-others : goal.returns-clause-others
returns-clause-others c = rows_before c.args.self.now c.args.cell c.args.index _ c.push.new.self c.push.ensures
