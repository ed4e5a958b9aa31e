use Rattle.std.proofs.Common.{ℕ, ◌∷◌, [], length, ap, subst, sym}
use Rattle.std.proofs.lemmas.Result.{err_from_is_err_and}
use Rattle.stack_judge.specs.Answer.{stack_tree}
use Rattle.layer_ast.specs.View.{file_tree}
use Rattle.outside.proofs.Turns.{part_of, wrote_as, wrote_both}
use Rattle.outside.specs.Lines.{Wrote}
use Rattle.outside.specs.Tells.{tells_of}
use Rattle.run_mean.specs.Report.{end_line}
use Rattle.stack_shapes.specs.Trees.{plans_tree}
use Rattle.miss_explain.proofs.Going.{explained_is}
use Rattle.miss_explain.proofs.script.explain.Goals as goal

pub returns-in_err-explain_events : goal.returns-in_err-explain_events
returns-in_err-explain_events g c =
    let texts = c.args.explanation.texts in
    let p = err_from_is_err_and c.from_residual.result c.from_residual.ensures.1 in
    rw (p.1, p.2) (part_of _ _ _ _ _ _
    (sym (explained_is (file_tree texts.file.now) (stack_tree texts.stack.now) (plans_tree texts.plans.now)
    c.args.explanation.script.now))
    c.in_err-explain_events.ensures)

pub returns : goal.returns
returns g c =
    let texts = c.args.explanation.texts in
    let before = tells_of g.O.Sink c.explain_events.new.out in
    let after = tells_of g.O.Sink c.write_end.new.out in
    wrote_as _ _ _ _ c.write_end.result
    (explained_is (file_tree texts.file.now) (stack_tree texts.stack.now) (plans_tree texts.plans.now)
    c.args.explanation.script.now)
    (wrote_both _ _ _ _ _ c.write_end.result c.in_ok-explain_events.ensures
    (subst {A = ℕ} (λ n. Wrote (end_line n ∷ []) before after c.write_end.result) (ap length c.slice.ensures)
    c.write_end.ensures))
