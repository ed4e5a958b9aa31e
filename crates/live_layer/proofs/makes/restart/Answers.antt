use Rattle.std.proofs.Common.{ap, ◌∙◌, arith}
use Rattle.typed_layer.specs.View.{layer_tree}
use Rattle.cell_store.specs.Kept.{Kept}
use Rattle.cell_store.specs.Fresh.{kept_fresh}
use Rattle.cell_store.proofs.Seen.{emptied_for}
use Rattle.pool_message.specs.declared.row.PoolRow.{PoolRow}
use Rattle.live_layer.proofs.Fresh.{begins_again}
use Rattle.live_layer.proofs.makes.restart.Goals as goal

pub reset-requires-clause-layer : goal.reset-requires-clause-layer
reset-requires-clause-layer c =
    emptied_for (layer_tree c.args.layer.now) c.args.desk.now.cells c.give_rows_back.new.cells
    c.give_rows_back.ensures.kept c.requires.rest.forms

pub returns-clause-fresh : goal.returns-clause-fresh
returns-clause-fresh c =
    let most = ap (λ (k : Kept PoolRow). k.most) c.give_rows_back.ensures.kept in
    let view = c.args.membership in
    let few = c.reset.ensures.within in let within = c.requires.few in
    begins_again (layer_tree c.args.layer.now) c.args.pool.now view.me view.count view.ltime c.args.desk.now _
    c.requires.rest (omega arith)
    (ap (λ k. record c.args.desk.now { cells = k })
    (c.reset.ensures.fresh ∙ ap (kept_fresh (layer_tree c.args.layer.now) view.me view.count view.ltime) most))
