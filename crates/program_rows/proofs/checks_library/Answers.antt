use Rattle.std.proofs.Common.{refl, arith}
use Rattle.std.specs.Fmt.{digits}
use lib.Count.{ones, ones_in, count_trailing_zeros}
use Rattle.hex.proofs.OnLiterals.{hex_on_literals}
use Rattle.layer_ast.specs.Reader.{file_of}
use Rattle.layer_ast.proofs.Laid.{fits_laid}
use Rattle.file_library.specs.Library.{library}
use Rattle.file_library.specs.Reliable.{bottom, mnak, pt2pt}
use Rattle.file_library.specs.Flow.{pt2ptw, mflow, frag}
use Rattle.file_library.specs.Order.{collect, stable, local, total}
use Rattle.file_library.specs.Membership.{suspect, elect, sync, intra, top}
use Rattle.layer_mean.specs.Visit.{step}
use Rattle.layer_mean.specs.Queue.{run}
use Rattle.stack_mean.specs.Shape.{drawn_shape, has_second_case}
use Rattle.packet_mean.specs.Received.{received}
use Rattle.file_mean.specs.Layers.{handler_of, layer_of}
use Rattle.file_mean.specs.Stack.{stack_of}
use Rattle.run_mean.specs.World.{happens}
use Rattle.run_mean.specs.Report.{report_lines, output_in}
use Rattle.library_rows.proofs.Texts.Bottom as bottom_text
use Rattle.library_rows.proofs.Texts.Mnak as mnak_text
use Rattle.library_rows.proofs.Texts.Pt2pt as pt2pt_text
use Rattle.library_rows.proofs.Texts.Pt2ptw as pt2ptw_text
use Rattle.library_rows.proofs.Texts.Mflow as mflow_text
use Rattle.library_rows.proofs.Texts.Frag as frag_text
use Rattle.library_rows.proofs.Texts.Collect as collect_text
use Rattle.library_rows.proofs.Texts.Stable as stable_text
use Rattle.library_rows.proofs.Texts.Local as local_text
use Rattle.library_rows.proofs.Texts.Total as total_text
use Rattle.library_rows.proofs.Texts.Suspect as suspect_text
use Rattle.library_rows.proofs.Texts.Elect as elect_text
use Rattle.library_rows.proofs.Texts.Sync as sync_text
use Rattle.library_rows.proofs.Texts.Intra as intra_text
use Rattle.library_rows.proofs.Texts.Top as top_text
use Rattle.library_rows.specs.WholeStack as whole
use Rattle.program_rows.proofs.checks_library.Goals as goal

pub returns : goal.returns
unfolding file_of bottom mnak pt2pt pt2ptw mflow frag collect stable local total suspect elect sync intra top library
    stack_of layer_of handler_of output_in report_lines happens received drawn_shape has_second_case run step digits
    ones ones_in count_trailing_zeros hex_on_literals
returns c = record {
  stack = stack_of whole.file;
  means = record {
    small = omega arith;
    file = whole.file;
    is_file = record {
      spelled = record { good = refl; fits = fits_laid _ _ refl; within = tt; placed = λ none. cc };
      library = (
        bottom_text.spelled,
        (
          mnak_text.spelled,
          (
            pt2pt_text.spelled,
            (
              pt2ptw_text.spelled,
              (
                mflow_text.spelled,
                (
                  frag_text.spelled,
                  (
                    collect_text.spelled,
                    (
                      stable_text.spelled,
                      (
                        local_text.spelled,
                        (
                          total_text.spelled,
                          (
                            suspect_text.spelled,
                            (elect_text.spelled, (sync_text.spelled, (intra_text.spelled, (top_text.spelled, tt)))),
                          ),
                        ),
                      ),
                    ),
                  ),
                ),
              ),
            ),
          ),
        ),
      );
    };
    accepted = refl;
  };
  written = refl;
}
