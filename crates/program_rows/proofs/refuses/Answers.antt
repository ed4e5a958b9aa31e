use Rattle.std.proofs.Common.{refl, arith}
use Rattle.layer_ast.specs.Reader.{file_of}
use Rattle.layer_ast.proofs.Laid.{fits_laid}
use Rattle.file_library.specs.Library.{library}
use Rattle.file_mean.specs.Layers.{handler_of, layer_of}
use Rattle.file_mean.specs.Stack.{stack_of}
use Rattle.program_rows.specs.Refused.{unknown_text, echo_text, fan_text}
use Rattle.program_rows.proofs.refuses.Goals as goal

pub returns-clause-unknown : goal.returns-clause-unknown
unfolding file_of library stack_of layer_of handler_of
returns-clause-unknown c = record {
  small = omega arith;
  file = file_of unknown_text;
  is_file = record {
    spelled = record { good = refl; fits = fits_laid _ _ refl; within = tt; placed = λ none. cc };
    library = tt;
  };
  refused = refl;
}

pub returns-clause-cycle : goal.returns-clause-cycle
unfolding file_of library stack_of layer_of handler_of
returns-clause-cycle c = record {
  small = omega arith;
  file = file_of echo_text;
  is_file = record {
    spelled = record { good = refl; fits = fits_laid _ _ refl; within = tt; placed = λ none. cc };
    library = tt;
  };
  refused = refl;
}

pub returns-clause-weight : goal.returns-clause-weight
unfolding file_of library stack_of layer_of handler_of
returns-clause-weight c = record {
  small = omega arith;
  file = file_of fan_text;
  is_file = record {
    spelled = record { good = refl; fits = fits_laid _ _ refl; within = tt; placed = λ none. cc };
    library = tt;
  };
  refused = refl;
}
