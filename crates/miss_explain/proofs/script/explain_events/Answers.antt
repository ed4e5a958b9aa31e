use Rattle.std.proofs.Common.{◌∙◌, ◌<◌, length, get_or, ap, arith}
use Rattle.std.proofs.lemmas.Result.{err_from_is_err_and}
use Rattle.stack_judge.specs.Answer.{stack_tree}
use Rattle.layer_ast.specs.View.{file_tree}
use Rattle.stack_shapes.specs.Trees.{plans_tree}
use Rattle.miss_explain.proofs.Going.{held_cut, held_first, held_more}
use Rattle.miss_explain.proofs.script.explain_events.Goals as goal

pub loop-index-init : goal.loop-index-init
loop-index-init g c = held_first _ _ _ _ _ _ _ c.requires.first

pub returns-in_err-explain_event : goal.returns-in_err-explain_event
returns-in_err-explain_event g c =
    let texts = c.args.texts in
    let script = c.args.script.now in
    let k = c.loop-index.index in
    let lt : k < length script.events = omega (arith, c.loop-index-test.true, ap length c.slice-events.ensures) in
    let p = err_from_is_err_and c.from_residual.result c.from_residual.ensures.1 in
    rw (p.1, p.2) (held_cut (file_tree texts.file.now) (stack_tree texts.stack.now) (plans_tree texts.plans.now) script
    k c.index-events-index.result lt
    (c.index-events-index.is ∙ ap (λ es. get_or es k c.index-events-index.result) c.slice-events.ensures) _ _ _ _ _ _
    c.loop-index.invariant
    (c.in_err-explain_event.ensures.told c.loop-index.invariant.world c.loop-index.invariant.stands))

pub loop-index-preserved : goal.loop-index-preserved
loop-index-preserved g c =
    let texts = c.args.texts in
    let script = c.args.script.now in
    let k = c.loop-index.index in
    let lt : k < length script.events = omega (arith, c.loop-index-test.true, ap length c.slice-events.ensures) in
    held_more (file_tree texts.file.now) (stack_tree texts.stack.now) (plans_tree texts.plans.now) script k
    c.index-events-index.result lt
    (c.index-events-index.is ∙ ap (λ es. get_or es k c.index-events-index.result) c.slice-events.ensures) _ _ _ _ _ _ _
    c.loop-index.invariant
    c.in_ok-explain_event.ensures.kept
    (c.in_ok-explain_event.ensures.told c.loop-index.invariant.world c.loop-index.invariant.stands)
