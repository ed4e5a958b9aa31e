use Rattle.std.proofs.Common.{map, take}
use Rattle.typed_layer.specs.View.{trees, statement_tree, block_tree}
use Rattle.layer_mean.specs.Effect.{in_order, acts, turns}
use Rattle.layer_desk.specs.Need.{block_need}
use Rattle.layer_desk.specs.Spent.{SpentAtMost}
use Rattle.layer_eval.specs.Did.{Did, block_does}
use Rattle.layer_eval.proofs.Needs.{repeated}
use Rattle.layer_eval.proofs.effect.+effect.Given as goal

abbrev pub invariant-run_statements-loop-statement : goal.invariant-run_statements-loop-statement
invariant-run_statements-loop-statement g l =
    let old = g.D.Desk.shown l.initial.pool l.initial.desk in
    let done = trees (map statement_tree (take l.statement-index l.statements)) in
    g.D.Desk.ready g.K.Start.begun l.pool l.desk
    × Did (block_does l.place done old) old (g.D.Desk.shown l.pool l.desk) l.initial.predicted l.predicted
    × SpentAtMost (g.D.Desk.free l.initial.pool l.initial.desk) (g.D.Desk.free l.pool l.desk)
    (block_need g.K.Start.begun.layout done)

abbrev pub invariant-run_statement-loop-turn : goal.invariant-run_statement-loop-turn
invariant-run_statement-loop-turn g l =
    let old = g.D.Desk.shown l.initial.pool l.initial.desk in
    let o = turns l.turn l.slot (in_order (acts l.place (block_tree l.block))) old.state old.scope in
    g.D.Desk.ready g.K.Start.begun l.pool l.desk
    × Did o old (g.D.Desk.shown l.pool l.desk) l.initial.predicted l.predicted
    × SpentAtMost (g.D.Desk.free l.initial.pool l.initial.desk) (g.D.Desk.free l.pool l.desk)
    (repeated l.turn (block_need g.K.Start.begun.layout (block_tree l.block)))
