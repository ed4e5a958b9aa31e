use Rattle.typed_layer.specs.View.{expression_tree}
use Rattle.layer_eval.specs.Worth.{number_of}
use Rattle.layer_eval.proofs.Nothing.{no_row}
use Rattle.layer_eval.proofs.effect.has_no_row.Goals as goal

pub returns : goal.returns
returns g c =
    let p = g.D.Desk.shown c.args.pool.now c.args.desk.now in
    no_row p.state c.args.cell (number_of (expression_tree c.args.index.now) p) c.number-index.result c.rows.result
    c.number-index.ensures c.rows.ensures
