use Rattle.stack_judge.specs.Answer.{stack_tree}
use Rattle.layer_ast.specs.View.{file_tree}
use Rattle.outside.specs.Tells.{tells_of}
use Rattle.stack_shapes.specs.Trees.{plans_tree}
use Rattle.miss_explain.proofs.Going.{Held}
use Rattle.miss_explain.proofs.script.explain_events.Given as goal

abbrev pub invariant-loop-index : goal.invariant-loop-index
invariant-loop-index g l = Held (file_tree l.texts.file.now) (stack_tree l.texts.stack.now)
    (plans_tree l.texts.plans.now) l.script l.index
    (g.P.Feed.group l.probe) l.run.outputs.places (tells_of g.O.Sink l.initial.out) (tells_of g.O.Sink l.out)
