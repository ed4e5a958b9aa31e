-- What a text's plan has.
use Rattle.std.proofs.Common.{◌≡◌, ap, ℕ, ◌+◌, ◌<◌, true, List, [], ◌∷◌, length}
use Rattle.std.specs.Prelude.{Ok, Err, if◌then◌else◌}
use Rattle.std.specs.List.{AllByRecursion}
use Rattle.script_mean.specs.Lines.{line_count, said_lines}
use Rattle.script_mean.specs.NodePlan.{node_plan, plan_of_lines}
use Rattle.script_mean.specs.PlanLine.{is_request}
use Rattle.script_mean.specs.Script.{too_long}
use Rattle.script_mean.specs.declared.event.ScriptEvent.{ScriptEvent}
use Rattle.script_mean.specs.declared.event.ScriptEvent.TheVariants.{Cast, Send, Leave, Tick, Give, Raw, Show}
use Rattle.script_mean.specs.declared.plan.NodePlan.{NodePlan}
use Rattle.script_text.specs.Plan.{IsRunnable}
use Rattle.node_laws.proofs.Stages.{plans_are_ordered, plans_ask}
use Rattle.node_loop.specs.Feeding.{IsOwn}
use Rattle.file_jobs.proofs.SecondStops.{too_large}
use Rattle.file_jobs.specs.Second.{longest_second}
use Rattle.node_jobs.specs.Plan.{IsServable}

-- what an application asks for is a member's own
own : (event : ScriptEvent) → is_request event ≡ true → IsOwn event
own (Cast id body) is = tt
own (Send id rank body) is = tt
own (Leave id) is = tt
own (Tick id moment) is = tt
own (Give number id) is = absurd (cc is)
own (Raw id bytes) is = tt
own (Show id) is = absurd (cc is)

each_own : (turns : List (ℕ × ScriptEvent)) → AllByRecursion (λ entry. is_request entry.1 ≡ true) turns →
    AllByRecursion (λ entry. IsOwn entry.1) turns
each_own [] h = tt
each_own (entry ∷ turns) h = (own entry.1 h.0, each_own turns h.1)

pub servable : (text : List ℕ) (plan : NodePlan) → node_plan text ≡ Ok plan → IsRunnable plan → IsServable plan
servable text plan is runs =
    record { runs = runs; ordered = plans_are_ordered text plan is; own = each_own plan.turns (plans_ask text plan is) }

-- A text of too many bytes is refused.
pub large_plan : (text : List ℕ) → longest_second < length text → node_plan text ≡ Err too_long
large_plan text more = ap (λ b. if b then Err too_long else plan_of_lines (line_count text + 1) (said_lines text))
    (too_large text more)
