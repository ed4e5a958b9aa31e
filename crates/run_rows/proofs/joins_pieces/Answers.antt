-- By computation.
use Rattle.std.proofs.Common.{refl}
use Rattle.std.specs.Fmt.{digits}
use lib.Count.{ones, ones_in, count_trailing_zeros}
use Rattle.hex.proofs.OnLiterals.{hex_on_literals}
use Rattle.layer_ast.specs.Reader.{file_of}
use Rattle.file_library.specs.Reliable.{bottom, mnak}
use Rattle.file_library.specs.Flow.{frag}
use Rattle.layer_mean.specs.Visit.{step}
use Rattle.layer_mean.specs.Queue.{run}
use Rattle.stack_mean.specs.Shape.{drawn_shape, has_second_case}
use Rattle.packet_mean.specs.Received.{received}
use Rattle.file_mean.specs.Layers.{handler_of, layer_of}
use Rattle.file_mean.specs.Stack.{stack_of}
use Rattle.run_mean.specs.World.{happens}
use Rattle.run_mean.specs.Report.{report_lines, output_in}
use Rattle.run_rows.proofs.joins_pieces.Goals as goal

pub returns : goal.returns
unfolding file_of bottom mnak frag stack_of layer_of handler_of output_in
    report_lines happens received drawn_shape has_second_case run step digits ones ones_in
    count_trailing_zeros hex_on_literals
returns c = refl
