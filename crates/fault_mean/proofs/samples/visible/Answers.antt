use Rattle.std.proofs.Common.{refl}
use Rattle.layer_ast.specs.Reader.{file_of}
use Rattle.layer_ast.proofs.Laid.{fits_laid}
use Rattle.fault_mean.proofs.samples.visible.Goals as goal

pub returns-clause-unknown_cell : goal.returns-clause-unknown_cell
unfolding file_of
returns-clause-unknown_cell c =
    record {
      spelled = record { good = refl; fits = fits_laid _ _ refl; within = tt; placed = λ none. cc };
      judged =
          refl;
    }

pub returns-clause-before_let : goal.returns-clause-before_let
unfolding file_of
returns-clause-before_let c =
    record {
      spelled = record { good = refl; fits = fits_laid _ _ refl; within = tt; placed = λ none. cc };
      judged =
          refl;
    }

pub returns-clause-in_its_let : goal.returns-clause-in_its_let
unfolding file_of
returns-clause-in_its_let c =
    record {
      spelled = record { good = refl; fits = fits_laid _ _ refl; within = tt; placed = λ none. cc };
      judged =
          refl;
    }

pub returns-clause-in_its_bound : goal.returns-clause-in_its_bound
unfolding file_of
returns-clause-in_its_bound c =
    record {
      spelled = record { good = refl; fits = fits_laid _ _ refl; within = tt; placed = λ none. cc };
      judged =
          refl;
    }

pub returns-clause-after_its_block : goal.returns-clause-after_its_block
unfolding file_of
returns-clause-after_its_block c =
    record {
      spelled = record { good = refl; fits = fits_laid _ _ refl; within = tt; placed = λ none. cc };
      judged =
          refl;
    }

pub returns-clause-taken_elsewhere : goal.returns-clause-taken_elsewhere
unfolding file_of
returns-clause-taken_elsewhere c =
    record {
      spelled = record { good = refl; fits = fits_laid _ _ refl; within = tt; placed = λ none. cc };
      judged =
          refl;
    }

pub returns-clause-local_as_header : goal.returns-clause-local_as_header
unfolding file_of
returns-clause-local_as_header c =
    record {
      spelled = record { good = refl; fits = fits_laid _ _ refl; within = tt; placed = λ none. cc };
      judged =
          refl;
    }

pub returns-clause-declared_after : goal.returns-clause-declared_after
unfolding file_of
returns-clause-declared_after c =
    record {
      spelled = record { good = refl; fits = fits_laid _ _ refl; within = tt; placed = λ none. cc };
      judged =
          refl;
    }

pub returns-clause-unknown_label : goal.returns-clause-unknown_label
unfolding file_of
returns-clause-unknown_label c =
    record {
      spelled = record { good = refl; fits = fits_laid _ _ refl; within = tt; placed = λ none. cc };
      judged =
          refl;
    }

pub returns-clause-label_of_none : goal.returns-clause-label_of_none
unfolding file_of
returns-clause-label_of_none c =
    record {
      spelled = record { good = refl; fits = fits_laid _ _ refl; within = tt; placed = λ none. cc };
      judged =
          refl;
    }

pub returns-clause-unknown_layer : goal.returns-clause-unknown_layer
unfolding file_of
returns-clause-unknown_layer c =
    record {
      spelled = record { good = refl; fits = fits_laid _ _ refl; within = tt; placed = λ none. cc };
      judged =
          refl;
    }

pub returns-clause-cell_given : goal.returns-clause-cell_given
unfolding file_of
returns-clause-cell_given c =
    record {
      spelled = record { good = refl; fits = fits_laid _ _ refl; within = tt; placed = λ none. cc };
      judged =
          refl;
    }
