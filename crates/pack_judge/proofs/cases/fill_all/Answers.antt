use Rattle.std.proofs.Common.{map, ◌∷◌}
use Rattle.std.proofs.lemmas.Result.{err_from_is_err_and}
use Rattle.synth.specs.Cases.{cases_tree}
use Rattle.trace_core.specs.Trees.{trace_tree}
use Rattle.pack_judge.specs.Due.{plans_cases}
use Rattle.pack_judge.proofs.Walk.{more_cut, more_filled}
use Rattle.pack_judge.proofs.cases.fill_all.Goals as goal

pub returns-in_err-fill_plans : goal.returns-in_err-fill_plans
returns-in_err-fill_plans c =
    let p = err_from_is_err_and c.from_residual-in_err-fill_plans.result c.from_residual-in_err-fill_plans.ensures.1 in
    let old = map trace_tree c.args.traces.now.items in
    let mid = map trace_tree c.fill_cases.new.traces.items in
    let next = map trace_tree c.fill_cases-2.new.traces.items in
    let new = map trace_tree c.fill_plans.new.traces.items in
    let cast = cases_tree c.fill_cases.new.own in
    let send = cases_tree c.fill_cases-2.new.own in
    let plans = plans_cases c.fill_plans.new.own in
    rw (p.1, p.2) (more_cut 0 (cases_tree c.args.own.now.cast) cast
    (cases_tree c.args.own.now.send ∷ plans_cases c.args.own.now.plans) (send ∷ plans)
    (cast ∷ send ∷ plans) old mid new new c.in_err-fill_plans.field-0.0 c.in_ok-fill_cases.ensures
    (more_cut 1 (cases_tree c.args.own.now.send) send (plans_cases c.args.own.now.plans) plans (send ∷ plans) mid next
    new new
    c.in_err-fill_plans.field-0.0 c.in_ok-fill_cases-2.ensures c.in_err-fill_plans.ensures))

pub returns : goal.returns
returns c =
    let old = map trace_tree c.args.traces.now.items in
    let mid = map trace_tree c.fill_cases.new.traces.items in
    let next = map trace_tree c.fill_cases-2.new.traces.items in
    let new = map trace_tree c.fill_plans.new.traces.items in
    let send = cases_tree c.fill_cases-2.new.own in
    let plans = plans_cases c.fill_plans.new.own in
    more_filled 0 (cases_tree c.args.own.now.cast) (cases_tree c.args.own.now.send ∷ plans_cases c.args.own.now.plans)
    old mid new
    (cases_tree c.fill_cases.new.own) (send ∷ plans) c.in_ok-fill_cases.ensures
    (more_filled 1 (cases_tree c.args.own.now.send) (plans_cases c.args.own.now.plans) mid next new send plans
    c.in_ok-fill_cases-2.ensures
    c.in_ok-fill_plans.ensures)
