use Rattle.std.proofs.Common.{refl, arith}
use Rattle.std.specs.Fmt.{digits}
use Rattle.std.proofs.lemmas.List.Elements.{All-cons, All-nil}
use lib.Count.{ones, ones_in, count_trailing_zeros}
use Rattle.hex.proofs.OnLiterals.{hex_on_literals}
use Rattle.layer_ast.specs.Reader.{file_of}
use Rattle.layer_ast.proofs.Laid.{fits_laid}
use Rattle.file_library.specs.Library.{library}
use Rattle.layer_mean.specs.Visit.{step}
use Rattle.layer_mean.specs.Queue.{run}
use Rattle.stack_mean.specs.Shape.{drawn_shape, has_second_case}
use Rattle.packet_mean.specs.Received.{received}
use Rattle.file_mean.specs.Layers.{handler_of, layer_of}
use Rattle.file_mean.specs.Stack.{stack_of}
use Rattle.run_mean.specs.World.{happens}
use Rattle.run_mean.specs.Report.{report_lines, output_in}
use Rattle.std.specs.Prelude.{ℕ, ◌<◌, All, [], ◌∷◌, codes, replicate}
use Rattle.run_mean.specs.Journal.{silence}
use Rattle.group_mean.specs.Node.{receiving}
use Rattle.script_mean.specs.declared.event.ScriptEvent.TheVariants as script
use Rattle.file_mean.specs.CounterFile as counter
use Rattle.program_rows.proofs.node_goes_deaf.Goals as goal

abbrev below : ℕ → Type 0
below id = id < 3

three_below : All below (0 ∷ 1 ∷ 2 ∷ [])
three_below = All-cons below 0 (1 ∷ 2 ∷ []) (omega arith)
    (All-cons below 1 (2 ∷ []) (omega arith) (All-cons below 2 [] (omega arith) (All-nil below)))

pub returns-clause-ends : goal.returns-clause-ends
unfolding receiving file_of library stack_of layer_of handler_of output_in
    report_lines happens received drawn_shape has_second_case run step digits ones ones_in
    count_trailing_zeros hex_on_literals
returns-clause-ends c = record {
  node = record {
    stack = stack_of counter.file;
    means = record {
      small = omega arith;
      file = counter.file;
      is_file = record {
        spelled = record { good = refl; fits = fits_laid _ _ refl; within = tt; placed = λ none. cc };
        library = tt;
      };
      accepted = refl;
    };
    plan = record {
      group = 1;
      stamp = 7;
      peers =
          record { ip = 127 ∷ 0 ∷ 0 ∷ 1 ∷ []; port = 47310 } ∷ record { ip = 127 ∷ 0 ∷ 0 ∷ 1 ∷ []; port = 47311 }
          ∷ record { ip = 127 ∷ 0 ∷ 0 ∷ 1 ∷ []; port = 47312 } ∷ [];
      turns = (3, script.Cast 0 (codes "hi")) ∷ (5, script.Cast 2 []) ∷ [];
    };
    spelled = refl;
    members = three_below;
    room = omega arith;
  };
  before = replicate 48 silence;
  last = refl;
  borne = refl;
  turns = omega arith;
  within = omega arith;
  begun = omega arith;
  written = refl;
  handed_on = refl;
}

pub returns-clause-patient : goal.returns-clause-patient
unfolding receiving file_of library stack_of layer_of handler_of output_in
    report_lines happens received drawn_shape has_second_case run step digits ones ones_in
    count_trailing_zeros hex_on_literals
returns-clause-patient c = record {
  node = record {
    stack = stack_of counter.file;
    means = record {
      small = omega arith;
      file = counter.file;
      is_file = record {
        spelled = record { good = refl; fits = fits_laid _ _ refl; within = tt; placed = λ none. cc };
        library = tt;
      };
      accepted = refl;
    };
    plan = record {
      group = 1;
      stamp = 7;
      peers =
          record { ip = 127 ∷ 0 ∷ 0 ∷ 1 ∷ []; port = 47310 } ∷ record { ip = 127 ∷ 0 ∷ 0 ∷ 1 ∷ []; port = 47311 }
          ∷ record { ip = 127 ∷ 0 ∷ 0 ∷ 1 ∷ []; port = 47312 } ∷ [];
      turns = (3, script.Cast 0 (codes "hi")) ∷ (5, script.Cast 2 []) ∷ [];
    };
    spelled = refl;
    members = three_below;
    room = omega arith;
  };
  moments = refl;
  answers = refl;
  borne = omega arith;
  written = refl;
  handed_on = refl;
}
