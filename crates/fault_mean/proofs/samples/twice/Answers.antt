use Rattle.std.proofs.Common.{refl}
use Rattle.layer_ast.specs.Reader.{file_of}
use Rattle.layer_ast.proofs.Laid.{fits_laid}
use Rattle.fault_mean.proofs.samples.twice.Goals as goal

pub returns-clause-layer_twice : goal.returns-clause-layer_twice
unfolding file_of
returns-clause-layer_twice c =
    record {
      spelled = record { good = refl; fits = fits_laid _ _ refl; within = tt; placed = λ none. cc };
      judged =
          refl;
    }

pub returns-clause-cell_and_param : goal.returns-clause-cell_and_param
unfolding file_of
returns-clause-cell_and_param c =
    record {
      spelled = record { good = refl; fits = fits_laid _ _ refl; within = tt; placed = λ none. cc };
      judged =
          refl;
    }

pub returns-clause-local_and_cell : goal.returns-clause-local_and_cell
unfolding file_of
returns-clause-local_and_cell c =
    record {
      spelled = record { good = refl; fits = fits_laid _ _ refl; within = tt; placed = λ none. cc };
      judged =
          refl;
    }

pub returns-clause-argument_and_field : goal.returns-clause-argument_and_field
unfolding file_of
returns-clause-argument_and_field c =
    record {
      spelled = record { good = refl; fits = fits_laid _ _ refl; within = tt; placed = λ none. cc };
      judged =
          refl;
    }

pub returns-clause-other_blocks : goal.returns-clause-other_blocks
unfolding file_of
returns-clause-other_blocks c =
    record {
      spelled = record { good = refl; fits = fits_laid _ _ refl; within = tt; placed = λ none. cc };
      judged =
          refl;
    }

pub returns-clause-label_twice : goal.returns-clause-label_twice
unfolding file_of
returns-clause-label_twice c =
    record {
      spelled = record { good = refl; fits = fits_laid _ _ refl; within = tt; placed = λ none. cc };
      judged =
          refl;
    }

pub returns-clause-param_twice : goal.returns-clause-param_twice
unfolding file_of
returns-clause-param_twice c =
    record {
      spelled = record { good = refl; fits = fits_laid _ _ refl; within = tt; placed = λ none. cc };
      judged =
          refl;
    }

pub returns-clause-handler_twice : goal.returns-clause-handler_twice
unfolding file_of
returns-clause-handler_twice c =
    record {
      spelled = record { good = refl; fits = fits_laid _ _ refl; within = tt; placed = λ none. cc };
      judged =
          refl;
    }
