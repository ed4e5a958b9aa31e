-- By computation.
use Rattle.std.proofs.Common.{refl}
use Rattle.run_mean.specs.Report.{report_lines}
use Rattle.group_mean.specs.Told.{replay_lines}
use Rattle.program_mean.proofs.one_report.Goals as goal

pub returns : goal.returns
unfolding report_lines replay_lines
returns c stack plans script mode = refl
