-- By computation.
use Rattle.std.proofs.Common.{refl}
use Rattle.std.specs.Fmt.{digits}
use lib.Count.{ones, ones_in}
use Rattle.hex.proofs.OnLiterals.{hex_on_literals}
use Rattle.layer_mean.specs.Visit.{step}
use Rattle.layer_mean.specs.Queue.{run}
use Rattle.stack_mean.specs.Shape.{drawn_shape, has_second_case}
use Rattle.packet_mean.specs.Received.{received}
use Rattle.run_mean.specs.World.{happens}
use Rattle.run_mean.specs.Report.{report_lines, output_in}
use Rattle.run_rows.proofs.node.Goals as goal

pub returns-clause-journal : goal.returns-clause-journal
unfolding output_in report_lines happens received drawn_shape has_second_case run step digits ones ones_in
    hex_on_literals
returns-clause-journal c = (refl, refl, refl, refl)

pub returns-clause-writes : goal.returns-clause-writes
unfolding output_in report_lines happens received drawn_shape has_second_case run step digits ones ones_in
    hex_on_literals
returns-clause-writes c = refl

pub returns-clause-hands : goal.returns-clause-hands
unfolding output_in report_lines happens received drawn_shape has_second_case run step digits ones ones_in
    hex_on_literals
returns-clause-hands c = refl
