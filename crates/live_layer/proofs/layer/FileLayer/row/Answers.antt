use Rattle.live_layer.specs.Layer.{state_in, IsInOrder}
use Rattle.live_layer.proofs.Read.{row_read, read_lies}
use Rattle.live_layer.proofs.layer.FileLayer.row.Goals as goal

pub returns-clause-row : goal.returns-clause-row
unfolding state_in
returns-clause-row c p = row_read p c.args.self.now.desk.cells c.args.cell c.args.index c.args.row c.row.result
    c.row.ensures

pub returns-clause-lies : goal.returns-clause-lies
unfolding IsInOrder
returns-clause-lies c p is = read_lies p c.args.self.now.desk.cells c.args.cell c.args.index c.args.row c.row.result
    c.row.ensures is.lie
