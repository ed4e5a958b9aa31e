use Rattle.std.proofs.Common.{slice_get}
use Rattle.stack_judge.specs.Answer.{stack_tree}
use Rattle.layer_ast.specs.View.{file_tree}
use Rattle.miss_mean.specs.Spots.{shape_spots}
use Rattle.shape_core.specs.Sketch.{shape_tree}
use Rattle.miss_explain.proofs.Finding.{Seeks, rest_spots}
use Rattle.miss_explain.proofs.spot.find_spot.Given as goal

abbrev pub invariant-loop-index : goal.invariant-loop-index
invariant-loop-index l = Seeks (rest_spots l.case (file_tree l.file) (stack_tree l.stack) l.shape.visits.items l.index)
    (slice_get (shape_spots l.case (file_tree l.file) (stack_tree l.stack) (shape_tree l.shape)) l.number) l.search
