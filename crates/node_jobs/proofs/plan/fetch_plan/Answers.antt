use Rattle.script_mean.specs.NodePlan.{node_plan}
use Rattle.job_ends.specs.Shown.{shown_end}
use Rattle.file_jobs.proofs.SecondStops.{fetches, stops_unread}
use Rattle.node_jobs.specs.Plan.{IsServable}
use Rattle.node_jobs.proofs.Plans.{large_plan}
use Rattle.node_jobs.proofs.plan.fetch_plan.Goals as goal

pub returns-in-Ok : goal.returns-in-Ok
returns-in-Ok g c = fetches node_plan IsServable _ _ _ _ c.in-Ok.text.items _ c.in-Ok.ensures.read
    (rw c.deref.ensures.value at c.judged.ensures)

pub returns-in-Err : goal.returns-in-Err
returns-in-Err g c = stops_unread node_plan large_plan _ _ _ _ (shown_end c.in-Err.ending) c.in-Err.ensures.read
