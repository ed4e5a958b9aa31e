use Rattle.std.proofs.Common.{ap, sym, ◌∙◌}
use Rattle.stack_judge.specs.Answer.{stack_tree}
use Rattle.group_feed.specs.Showing.{shown_in}
use Rattle.script_mean.specs.Event.{member_of}
use Rattle.stack_shapes.specs.Trees.{plans_tree}
use Rattle.outside.proofs.Turns.{wrote_as}
use Rattle.report_text.specs.Told.{annex_of, stepped_lines, told_lines}
use Rattle.report_text.proofs.event.write_yield.Goals as goal

pub returns-in-Stepped : goal.returns-in-Stepped
returns-in-Stepped g c =
    let manner = c.args.manner in
    let outcome = c.args.outcome.now in
    let plans = plans_tree manner.plans.now in
    let m = shown_in (g.S.Feed.group c.args.group.now) (member_of outcome.event.now) in
    wrote_as _ _ _ _ _
    (ap (λ id. stepped_lines (stack_tree manner.stack.now) (annex_of manner.wire plans) id outcome.first
    outcome.outputs.now.outputs c.in-Stepped.stepped)
    c.member_of-id.ensures
    ∙ ap (λ did. told_lines (stack_tree manner.stack.now) plans manner.wire outcome.event.now did
    outcome.outputs.now.outputs m outcome.first)
    (sym c.in-Stepped.is))
    c.write_stepped.ensures
