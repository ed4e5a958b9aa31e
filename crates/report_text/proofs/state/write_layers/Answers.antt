use Rattle.std.proofs.Common.{arith, rules}
use Rattle.std.proofs.lemmas.Result.{err_from_is_err_and}
use Rattle.stack_judge.specs.Answer.{stack_tree}
use Rattle.group_feed.specs.Showing.{shown_in}
use Rattle.layer_mean.specs.Tree.{no_layer}
use Rattle.outside.proofs.Turns.{turns_cut, turns_done, turns_more}
use Rattle.typed_layer.specs.View.{layer_tree}
use Rattle.report_text.specs.Cells.{layer_shown}
use Rattle.report_text.proofs.state.write_layers.Goals as goal

pub loop-place-preserved : goal.loop-place-preserved
loop-place-preserved g c =
    let m = shown_in (g.S.Feed.group c.args.group.now) c.args.id in
    turns_more (layer_shown (stack_tree c.args.stack.now) c.args.id m) (stack_tree c.args.stack.now) c.loop-place.place
    (layer_tree c.deref.result.now) no_layer _ _ _
    c.loop-place.invariant c.in_ok-write_layer.ensures
    (omega (arith, c.loop-place-test.true, c.places-place-end.ensures)) (search rules)

pub returns-in_err-write_layer : goal.returns-in_err-write_layer
returns-in_err-write_layer g c =
    let m = shown_in (g.S.Feed.group c.args.group.now) c.args.id in
    let p = err_from_is_err_and c.from_residual.result c.from_residual.ensures.1 in
    rw (p.1, p.2) (turns_cut (layer_shown (stack_tree c.args.stack.now) c.args.id m) (stack_tree c.args.stack.now)
    c.loop-place.place
    (layer_tree c.deref.result.now) no_layer _ _ _ _
    c.loop-place.invariant c.in_err-write_layer.ensures
    (omega (arith, c.loop-place-test.true, c.places-place-end.ensures)) (search rules))

pub returns : goal.returns
returns g c =
    let m = shown_in (g.S.Feed.group c.args.group.now) c.args.id in
    turns_done (layer_shown (stack_tree c.args.stack.now) c.args.id m) (stack_tree c.args.stack.now) c.loop-place.place
    _ _
    c.loop-place.invariant (omega (arith, c.loop-place-test.false, c.places-place-end.ensures))
