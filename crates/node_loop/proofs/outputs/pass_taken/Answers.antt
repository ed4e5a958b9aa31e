use Rattle.std.proofs.Common.{refl}
use Rattle.std.proofs.lemmas.Result.{err_from_is_err_and}
use Rattle.stack_judge.specs.Answer.{stack_tree}
use Rattle.stack_shapes.specs.Trees.{plans_tree}
use Rattle.node_loop.proofs.Handing.{taken_cut, taken_handled}
use Rattle.node_loop.proofs.outputs.pass_taken.Goals as goal

pub returns-in_err-pass_outputs-clause-handed : goal.returns-in_err-pass_outputs-clause-handed
returns-in_err-pass_outputs-clause-handed g c =
    let p = err_from_is_err_and c.from_residual.result c.from_residual.ensures.1 in
    λ common. rw (p.1, p.2)
    (taken_cut (stack_tree c.args.source.stack.now) (plans_tree c.args.source.plans.now) c.args.source.id
    c.args.source.number
    c.args.outputs.now.outputs c.args.change _ _ _ c.in_err-pass_outputs.ensures.handed)

pub returns-clause-handed : goal.returns-clause-handed
returns-clause-handed g c =
    λ common. taken_handled (stack_tree c.args.source.stack.now) (plans_tree c.args.source.plans.now) c.args.source.id
    c.args.source.number c.args.outputs.now.outputs
    c.args.change _ _ _ c.write_change.result c.in_ok-pass_outputs.ensures.handed c.write_change.ensures refl refl refl
