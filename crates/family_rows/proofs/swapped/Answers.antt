-- By computation.
use Rattle.std.proofs.Common.{refl}
use Rattle.std.specs.Fmt.{digits}
use lib.Count.{ones, ones_in}
use Rattle.hex.proofs.OnLiterals.{hex_on_literals}
use Rattle.layer_mean.specs.Visit.{step}
use Rattle.layer_mean.specs.Queue.{run}
use Rattle.stack_mean.specs.Shape.{drawn_shape, has_second_case}
use Rattle.packet_mean.specs.Received.{received}
use Rattle.run_mean.specs.World.{happens}
use Rattle.run_mean.specs.Report.{report_lines}
use Rattle.family_rows.proofs.swapped.Goals as goal

pub returns : goal.returns
unfolding report_lines happens received drawn_shape has_second_case run step digits ones ones_in hex_on_literals
returns c = (refl, refl)
