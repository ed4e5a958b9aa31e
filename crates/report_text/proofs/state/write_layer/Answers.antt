use Rattle.std.proofs.Common.{arith}
use Rattle.std.proofs.lemmas.List.{length-map}
use Rattle.std.proofs.lemmas.Result.{err_from_is_err_and}
use Rattle.stack_judge.specs.Answer.{stack_tree}
use Rattle.group_feed.specs.Showing.{state_at}
use Rattle.run_mean.specs.Report.{cell_lines}
use Rattle.outside.proofs.Turns.{turns_cut, turns_done, turns_more}
use Rattle.typed_layer.specs.View.{cell_tree, layer_tree}
use Rattle.report_text.proofs.Shown.{mapped_at}
use Rattle.report_text.proofs.state.write_layer.Goals as goal

pub loop-number-preserved : goal.loop-number-preserved
loop-number-preserved g c =
    let s = state_at (g.S.Feed.group c.args.group.now) c.args.shown.id c.args.shown.place in
    let item = c.index-item.result.now in
    turns_more
    (cell_lines (stack_tree c.args.shown.stack.now) c.args.shown.id c.args.shown.place
    (layer_tree c.args.shown.layer.now) s)
    (layer_tree c.args.shown.layer.now).cells c.loop-number.number (cell_tree item) (cell_tree item) _ _ _
    c.loop-number.invariant c.in_ok-write_cell.ensures
    (omega (
      arith,
      c.loop-number-test.true,
      c.len-count.ensures,
      length-map c.args.shown.layer.now.cells.items cell_tree,
    ))
    (mapped_at cell_tree c.args.shown.layer.now.cells.items c.loop-number.number item
    (omega (arith, c.loop-number-test.true, c.len-count.ensures)) c.index-item.ensures)

pub returns-in_err-write_cell : goal.returns-in_err-write_cell
returns-in_err-write_cell g c =
    let s = state_at (g.S.Feed.group c.args.group.now) c.args.shown.id c.args.shown.place in
    let item = c.index-item.result.now in
    let p = err_from_is_err_and c.from_residual.result c.from_residual.ensures.1 in
    rw (p.1, p.2) (turns_cut
    (cell_lines (stack_tree c.args.shown.stack.now) c.args.shown.id c.args.shown.place
    (layer_tree c.args.shown.layer.now) s)
    (layer_tree c.args.shown.layer.now).cells c.loop-number.number (cell_tree item) (cell_tree item) _ _ _ _
    c.loop-number.invariant c.in_err-write_cell.ensures
    (omega (
      arith,
      c.loop-number-test.true,
      c.len-count.ensures,
      length-map c.args.shown.layer.now.cells.items cell_tree,
    ))
    (mapped_at cell_tree c.args.shown.layer.now.cells.items c.loop-number.number item
    (omega (arith, c.loop-number-test.true, c.len-count.ensures)) c.index-item.ensures))

pub returns : goal.returns
returns g c =
    let s = state_at (g.S.Feed.group c.args.group.now) c.args.shown.id c.args.shown.place in
    turns_done
    (cell_lines (stack_tree c.args.shown.stack.now) c.args.shown.id c.args.shown.place
    (layer_tree c.args.shown.layer.now) s)
    (layer_tree c.args.shown.layer.now).cells c.loop-number.number _ _ c.loop-number.invariant
    (omega (
      arith,
      c.loop-number-test.false,
      c.len-count.ensures,
      length-map c.args.shown.layer.now.cells.items cell_tree,
    ))
