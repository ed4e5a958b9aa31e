use Rattle.std.proofs.Common.{◌<◌, length, map, slice_set, arith, refl}
use Rattle.std.proofs.lemmas.List.{length-map}
use Rattle.synth.specs.Cases.{cases_tree}
use Rattle.trace_core.specs.Trees.{trace_tree}
use Rattle.pack_judge.specs.Due.{plans_cases}
use Rattle.pack_judge.proofs.Plans.{one_filled}
use Rattle.pack_judge.proofs.cases.fill_plans.Goals as goal

pub loop-number-preserved : goal.loop-number-preserved
loop-number-preserved c =
    let count = c.loop-number.invariant.count in
    let many = length-map c.args.own.now.items cases_tree in
    let end = c.len-number-end.ensures in
    let within : c.loop-number.number < length c.loop-number.own.items =
    omega (arith, c.loop-number-test.true, count, many, end) in
    one_filled (plans_cases c.args.own.now) (map trace_tree c.args.traces.now.items) c.loop-number.number
    c.loop-number.own.items
    (slice_set c.loop-number.own.items c.loop-number.number c.fill_cases.new.own) c.index_mut.result.now
    c.fill_cases.new.own
    (map trace_tree c.loop-number.traces.items) (map trace_tree c.fill_cases.new.traces.items) within
    c.index_mut.ensures.value refl
    c.loop-number.invariant c.in_ok-fill_cases.ensures
