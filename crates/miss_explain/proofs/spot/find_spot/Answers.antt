use Rattle.std.proofs.Common.{◌+◌, ◌<◌, ◌≤◌, length, arith, slice_get, subst, sym}
use Rattle.stack_judge.specs.Answer.{stack_tree}
use Rattle.layer_ast.specs.View.{file_tree}
use Rattle.miss_mean.specs.Spots.{shape_spots}
use Rattle.shape_core.specs.Sketch.{shape_tree}
use Rattle.miss_explain.proofs.Finding.{Sought, Seeks, rest_spots, seeks_none, seeks_on, spot_at}
use Rattle.miss_explain.proofs.spot.find_spot.Goals as goal

pub returns-in-Found : goal.returns-in-Found
returns-in-Found c =
    let file = file_tree c.args.file.now in
    let stack = stack_tree c.args.stack.now in
    let visits = c.args.shape.now.visits in
    let k = c.loop-index.index in
    let lt : k < length visits.items = omega (arith, c.loop-index-test.true, c.len-index-end.ensures, visits.ok) in
    sym (subst (Sought (spot_at c.args.case file stack visits.items k c.index-visit.result.now) _ _) c.in-Found.is
    (seeks_on c.args.case file stack visits.items k c.index-visit.result.now _ _ _ lt c.index-visit.ensures
    c.loop-index.invariant c.pass_visit.ensures))

pub loop-index-preserved : goal.loop-index-preserved
loop-index-preserved c =
    let file = file_tree c.args.file.now in
    let stack = stack_tree c.args.stack.now in
    let visits = c.args.shape.now.visits in
    let k = c.loop-index.index in
    let rest = rest_spots c.args.case file stack visits.items (k + 1) in
    let sought = slice_get (shape_spots c.args.case file stack (shape_tree c.args.shape.now)) c.args.number in
    let lt : k < length visits.items = omega (arith, c.loop-index-test.true, c.len-index-end.ensures, visits.ok) in
    subst (Seeks rest sought) (sym c.in_default.is)
    (subst (Sought (spot_at c.args.case file stack visits.items k c.index-visit.result.now) rest sought) c.in_default.is
    (seeks_on c.args.case file stack visits.items k c.index-visit.result.now _ _ _ lt c.index-visit.ensures
    c.loop-index.invariant c.pass_visit.ensures))

pub returns : goal.returns
returns c =
    let visits = c.args.shape.now.visits in
    let past : length visits.items ≤ c.loop-index.index =
    omega (arith, c.loop-index-test.false, c.len-index-end.ensures, visits.ok) in
    seeks_none c.args.case (file_tree c.args.file.now) (stack_tree c.args.stack.now) visits.items c.loop-index.index _ _
    past c.loop-index.invariant
