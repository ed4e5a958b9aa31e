use Rattle.std.proofs.Common.{refl}
use Rattle.layer_ast.specs.Reader.{file_of}
use Rattle.layer_ast.proofs.Laid.{fits_laid}
use Rattle.fault_mean.proofs.samples.handlers.Goals as goal

pub returns-clause-handler_arity : goal.returns-clause-handler_arity
unfolding file_of
returns-clause-handler_arity c =
    record {
      spelled = record { good = refl; fits = fits_laid _ _ refl; within = tt; placed = λ none. cc };
      judged =
          refl;
    }

pub returns-clause-fields_arity : goal.returns-clause-fields_arity
unfolding file_of
returns-clause-fields_arity c =
    record {
      spelled = record { good = refl; fits = fits_laid _ _ refl; within = tt; placed = λ none. cc };
      judged =
          refl;
    }

pub returns-clause-takes_off_down : goal.returns-clause-takes_off_down
unfolding file_of
returns-clause-takes_off_down c =
    record {
      spelled = record { good = refl; fits = fits_laid _ _ refl; within = tt; placed = λ none. cc };
      judged =
          refl;
    }

pub returns-clause-takes_off_timer : goal.returns-clause-takes_off_timer
unfolding file_of
returns-clause-takes_off_timer c =
    record {
      spelled = record { good = refl; fits = fits_laid _ _ refl; within = tt; placed = λ none. cc };
      judged =
          refl;
    }

pub returns-clause-cell_taken_off : goal.returns-clause-cell_taken_off
unfolding file_of
returns-clause-cell_taken_off c =
    record {
      spelled = record { good = refl; fits = fits_laid _ _ refl; within = tt; placed = λ none. cc };
      judged =
          refl;
    }

pub returns-clause-cell_put_on : goal.returns-clause-cell_put_on
unfolding file_of
returns-clause-cell_put_on c =
    record {
      spelled = record { good = refl; fits = fits_laid _ _ refl; within = tt; placed = λ none. cc };
      judged =
          refl;
    }

pub returns-clause-row_arity : goal.returns-clause-row_arity
unfolding file_of
returns-clause-row_arity c =
    record {
      spelled = record { good = refl; fits = fits_laid _ _ refl; within = tt; placed = λ none. cc };
      judged =
          refl;
    }

pub returns-clause-condition_of_field : goal.returns-clause-condition_of_field
unfolding file_of
returns-clause-condition_of_field c =
    record {
      spelled = record { good = refl; fits = fits_laid _ _ refl; within = tt; placed = λ none. cc };
      judged =
          refl;
    }
