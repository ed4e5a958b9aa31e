use Rattle.std.proofs.Common.{ap, ◌∙◌, rules}
use Rattle.std.proofs.lemmas.Result.{err_from_is_err_and}
use Rattle.stack_judge.specs.Answer.{stack_tree}
use Rattle.stack_shapes.specs.Trees.{plans_tree}
use Rattle.report_text.proofs.Gained.{counted_tally}
use Rattle.report_text.specs.Counts.{tally_lines}
use Rattle.outside.proofs.Turns.{wrote_as}
use Rattle.script_text.specs.Course.{script_for}
use Rattle.stack_play.proofs.counting.write_counts.Goals as goal

pub returns-in_err-count_events : goal.returns-in_err-count_events
returns-in_err-count_events g c =
    let p = err_from_is_err_and c.from_residual.result c.from_residual.ensures.1 in
    rw (p.1, p.2) (search rules)

pub returns : goal.returns
returns g c = wrote_as _ _ _ _ c.write_tally.result
    (ap tally_lines c.in_ok-count_events.ensures
    ∙ counted_tally (g.G.Feed.group c.args.group.now).mode (stack_tree c.args.load.stack.now)
    (plans_tree c.args.load.plans.now)
    (script_for c.args.load.workload))
    c.write_tally.ensures
