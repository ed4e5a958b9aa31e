use Rattle.std.proofs.Common.{sym, subst}
use Rattle.script_mean.specs.NodePlan.{node_plan}
use Rattle.file_jobs.specs.Second.{Refused}
use Rattle.file_jobs.proofs.SecondStops.{refused_so}
use Rattle.node_jobs.proofs.Plans.{servable}
use Rattle.node_jobs.proofs.plan.judged.Goals as goal

pub returns-in-Ok : goal.returns-in-Ok
returns-in-Ok c =
    (c.in-Ok.ensures.spelled, servable c.args.text.now c.in-Ok.plan c.in-Ok.ensures.spelled c.in-Ok.ensures.runnable)

pub returns-in-Err : goal.returns-in-Err
returns-in-Err c = subst (Refused node_plan c.args.text.now) (sym c.refusal.ensures)
    (refused_so node_plan c.args.text.now c.in-Err.error c.in-Err.ensures.spelled)
