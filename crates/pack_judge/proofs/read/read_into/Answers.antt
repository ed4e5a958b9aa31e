use Rattle.std.proofs.Common.{◌≡◌, ◌≤◌, ◌∙◌, map, sym, ap, subst, Ok}
use Rattle.std.proofs.lemmas.Result.{err_from_is_err_and}
use Rattle.stack_judge.specs.Answer.{stack_tree}
use Rattle.stack_shapes.specs.declared.types.TheConstants.{MOST_PLANS}
use Rattle.trace_core.specs.Trees.{trace_tree}
use Rattle.pack_mean.specs.File.{due_of, traces_in}
use Rattle.pack_read.specs.Files.{bare, due_tree}
use Rattle.pack_judge.proofs.Whole.{as_many, due_known, simple_known}
use Rattle.pack_judge.proofs.Judging.{judged, unreadable}
use Rattle.pack_judge.proofs.read.read_into.Goals as goal

pub all_due-requires-clause-each : goal.all_due-requires-clause-each
all_due-requires-clause-each c = as_many (stack_tree c.args.stack.now) c.args.own.now c.requires.own c.args.plans.now
    c.requires.plans

pub fill_all-requires-clause-few : goal.fill_all-requires-clause-few
fill_all-requires-clause-few c =
    subst (λ n. n ≤ MOST_PLANS)
    (sym (as_many (stack_tree c.args.stack.now) c.args.own.now c.requires.own c.args.plans.now c.requires.plans))
    c.requires.few

pub fill_all-requires-clause-simple : goal.fill_all-requires-clause-simple
fill_all-requires-clause-simple c = simple_known (stack_tree c.args.stack.now) c.args.own.now c.requires.own

pub returns : goal.returns
returns c =
    let stack = stack_tree c.args.stack.now in
    let due : map bare (due_of stack) ≡ map due_tree c.as_slice.result.now =
    ap (map bare) (sym (due_known stack c.args.own.now c.requires.own c.args.plans.now c.requires.plans))
    ∙ sym c.in_ok-due.ensures ∙ ap (map due_tree) (sym c.as_slice.ensures.value) in
    let read : traces_in stack c.args.text.now ≡ Ok (map trace_tree c.from_vec.result.items) =
    c.in_ok-traces.ensures (due_of stack) due ∙ ap (λ ts. Ok (map trace_tree ts)) (sym c.from_vec.ensures.items) in
    judged stack c.args.own.now c.requires.own c.args.text.now c.requires.short (map trace_tree c.from_vec.result.items)
    read
    (map trace_tree c.fill_all.new.traces.items) c.fill_all.new.own c.fill_all.result c.fill_all.ensures

pub returns-in_err-traces : goal.returns-in_err-traces
returns-in_err-traces c =
    let stack = stack_tree c.args.stack.now in
    let due : map bare (due_of stack) ≡ map due_tree c.as_slice.result.now =
    ap (map bare) (sym (due_known stack c.args.own.now c.requires.own c.args.plans.now c.requires.plans))
    ∙ sym c.in_ok-due.ensures ∙ ap (map due_tree) (sym c.as_slice.ensures.value) in
    let p = err_from_is_err_and c.from_residual-in_err-traces.result c.from_residual-in_err-traces.ensures.1 in
    rw (p.1, p.2) (unreadable stack c.args.text.now c.args.own.now c.requires.short _
    (c.in_err-traces.ensures (due_of stack) due))
