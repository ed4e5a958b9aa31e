use Rattle.std.proofs.Common.{◌≡◌, ◌+◌}
use Rattle.hunt_run.proofs.hunt.all_runs.Given as goal

abbrev pub invariant-loop-run : goal.invariant-loop-run
invariant-loop-run g l = l.search ≡ l.fn.search + l.run
