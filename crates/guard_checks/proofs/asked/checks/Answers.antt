use Rattle.std.proofs.Common.{ap, ◌∙◌}
use Rattle.guard_mean.specs.Checks.{checks_of}
use Rattle.trace_core.specs.Trees.{trace_tree}
use Rattle.guard_checks.proofs.asked.checks.Goals as goal

pub returns : goal.returns
returns c = c.in_ok-checks.ensures (trace_tree c.args.trace.now) ∙ ap checks_of c.in_ok-hoisted.ensures
