use Rattle.std.proofs.Common.{refl, arith}
use Rattle.std.specs.Fmt.{digits}
use lib.Count.{ones, ones_in, count_trailing_zeros}
use Rattle.hex.proofs.OnLiterals.{hex_on_literals}
use Rattle.layer_ast.specs.Reader.{file_of}
use Rattle.layer_ast.proofs.Laid.{fits_laid}
use Rattle.file_library.specs.Library.{library}
use Rattle.layer_mean.specs.Visit.{step}
use Rattle.layer_mean.specs.Queue.{run}
use Rattle.stack_mean.specs.Shape.{drawn_shape, has_second_case}
use Rattle.packet_mean.specs.Received.{received}
use Rattle.file_mean.specs.Layers.{handler_of, layer_of}
use Rattle.file_mean.specs.Stack.{stack_of}
use Rattle.run_mean.specs.World.{happens}
use Rattle.run_mean.specs.Report.{report_lines}
use Rattle.group_mean.specs.Told.{replay_lines}
use Rattle.std.specs.Prelude.{[], ◌∷◌}
use Rattle.script_mean.specs.declared.event.ScriptEvent.TheVariants as script
use Rattle.program_rows.specs.FlipFile as flip
use Rattle.program_rows.proofs.replays_flips.Goals as goal

pub returns : goal.returns
unfolding file_of library stack_of layer_of handler_of replay_lines
    report_lines happens received drawn_shape has_second_case run step digits ones ones_in
    count_trailing_zeros hex_on_literals
returns c = record {
  stack = stack_of flip.file;
  means = record {
    small = omega arith;
    file = flip.file;
    is_file = record {
      spelled = record { good = refl; fits = fits_laid _ _ refl; within = tt; placed = λ none. cc };
      library = tt;
    };
    accepted = refl;
  };
  script = record {
    group = 1;
    stamp = 1;
    members = 2;
    events = script.Cast 0 [] ∷ script.Cast 0 [] ∷ script.Cast 0 [] ∷
        [];
  };
  spelled = refl;
  room = omega arith;
  written = refl;
}
