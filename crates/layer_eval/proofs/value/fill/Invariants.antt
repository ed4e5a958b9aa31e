use Rattle.std.proofs.Common.{◌≡◌, take, map}
use Rattle.typed_layer.specs.View.{expression_tree}
use Rattle.layer_eval.specs.Worth.{numbers_of}
use Rattle.layer_eval.proofs.value.fill.Given as goal

abbrev pub invariant-loop-expression : goal.invariant-loop-expression
invariant-loop-expression g l =
    l.fields ≡ numbers_of (map expression_tree (take l.expression-index l.expression-items))
    (g.D.Desk.shown l.pool l.desk)
