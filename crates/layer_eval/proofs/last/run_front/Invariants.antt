use Rattle.std.proofs.Common.{map, take, ◌+◌}
use Rattle.typed_layer.specs.View.{trees, statement_tree}
use Rattle.layer_desk.specs.Need.{block_need}
use Rattle.layer_desk.specs.Spent.{SpentAtMost}
use Rattle.layer_eval.specs.Did.{Did, block_does}
use Rattle.layer_eval.specs.Owed.{with_debt_paid, owed_places, owing}
use Rattle.layer_eval.proofs.last.run_front.Given as goal

abbrev pub invariant-loop-statement : goal.invariant-loop-statement
invariant-loop-statement g l =
    let old = g.D.Desk.shown l.initial.pool l.initial.desk in
    let room = g.D.Desk.free l.initial.pool l.initial.desk in
    let done = trees (map statement_tree (take l.statement-index l.statements)) in
    g.D.Desk.ready g.K.Start.begun l.pool l.desk
    × Did (block_does l.place done old) (with_debt_paid l.initial.pending old)
    (with_debt_paid l.pending (g.D.Desk.shown l.pool l.desk)) l.initial.predicted l.predicted
    × SpentAtMost (record room { places = owed_places l.pending + room.places }) (g.D.Desk.free l.pool l.desk)
    (owing l.initial.pending (block_need g.K.Start.begun.layout done))
