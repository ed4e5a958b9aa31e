use Rattle.std.proofs.Common.{rules, ◌∙◌}
use Rattle.stack_judge.specs.Answer.{stack_tree}
use Rattle.job_ends.specs.Shown.{shown_end}
use Rattle.group_mean.specs.Shown.{shown_mode}
use Rattle.node_loop.specs.Around.{around}
use Rattle.node_loop.specs.Serve.{whereabouts}
use Rattle.node_jobs.specs.Plan.{words_of}
use Rattle.group_open.proofs.Running.{can_run}
use Rattle.node_jobs.proofs.Below.{each_below}
use Rattle.node_jobs.proofs.Runs.{ready, run}
use Rattle.node_jobs.proofs.node.serve_plan.Goals as goal

pub as_bytes-requires : goal.as_bytes-requires
as_bytes-requires g c = each_below _ 256 _ _ _ c.deref.ensures.value c.deref-2.ensures.value (search rules) _
    c.are_below.ensures (search rules)

pub open-requires-clause-runs : goal.open-requires-clause-runs
open-requires-clause-runs g c = can_run (shown_mode c.args.node.now.mode) _ c.requires.sound

pub serve-served-requires-clause-members : goal.serve-served-requires-clause-members
serve-served-requires-clause-members g c = each_below _ _ _ _ _ c.deref.ensures.value
    (c.deref-in-Ok-open-2.ensures.value ∙ c.in-Ok.ensures ∙ c.deref-2.ensures.value) (search rules) _
    c.are_below.ensures (search rules)

pub returns-in-Ok-open : goal.returns-in-Ok-open
returns-in-Ok-open g c = run (stack_tree c.args.stack) c.args.plan.now (words_of c.args.node.now)
    (ready _ _ (words_of c.args.node.now) _ (search rules) _ c.deref.ensures.value _ c.are_below.ensures (search rules)
    c.in-Ok-open.ensures.room)
    _ c.in-Ok-open.ensures.stack_is _ (c.deref-in-Ok-open-2.ensures.value ∙ c.in-Ok.ensures ∙ c.deref-2.ensures.value)
    _ c.in-Ok-open.ensures.first.ready.mode_is
    (whereabouts (around g.O.Sink g.N.Links c.args.out.now c.args.links.now) (g.C.Clock.told c.args.clock.now))
    (whereabouts (around g.O.Sink g.N.Links c.serve-served.new.out c.serve-served.new.links)
    (g.C.Clock.told c.serve-served.new.clock))
    c.serve-served.result (shown_end c.ending.result) c.ending.ensures c.serve-served.ensures
