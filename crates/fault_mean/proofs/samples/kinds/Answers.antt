use Rattle.std.proofs.Common.{refl}
use Rattle.layer_ast.specs.Reader.{file_of}
use Rattle.layer_ast.proofs.Laid.{fits_laid}
use Rattle.fault_mean.proofs.samples.kinds.Goals as goal

pub returns-clause-number_as_message : goal.returns-clause-number_as_message
unfolding file_of
returns-clause-number_as_message c =
    record {
      spelled = record { good = refl; fits = fits_laid _ _ refl; within = tt; placed = λ none. cc };
      judged =
          refl;
    }

pub returns-clause-array_as_number : goal.returns-clause-array_as_number
unfolding file_of
returns-clause-array_as_number c =
    record {
      spelled = record { good = refl; fits = fits_laid _ _ refl; within = tt; placed = λ none. cc };
      judged =
          refl;
    }

pub returns-clause-tail_of_part : goal.returns-clause-tail_of_part
unfolding file_of
returns-clause-tail_of_part c =
    record {
      spelled = record { good = refl; fits = fits_laid _ _ refl; within = tt; placed = λ none. cc };
      judged =
          refl;
    }

pub returns-clause-join_of_messages : goal.returns-clause-join_of_messages
unfolding file_of
returns-clause-join_of_messages c =
    record {
      spelled = record { good = refl; fits = fits_laid _ _ refl; within = tt; placed = λ none. cc };
      judged =
          refl;
    }

pub returns-clause-queue_set : goal.returns-clause-queue_set
unfolding file_of
returns-clause-queue_set c =
    record {
      spelled = record { good = refl; fits = fits_laid _ _ refl; within = tt; placed = λ none. cc };
      judged =
          refl;
    }

pub returns-clause-held_of_numbers : goal.returns-clause-held_of_numbers
unfolding file_of
returns-clause-held_of_numbers c =
    record {
      spelled = record { good = refl; fits = fits_laid _ _ refl; within = tt; placed = λ none. cc };
      judged =
          refl;
    }

pub returns-clause-part_pushed : goal.returns-clause-part_pushed
unfolding file_of
returns-clause-part_pushed c =
    record {
      spelled = record { good = refl; fits = fits_laid _ _ refl; within = tt; placed = λ none. cc };
      judged =
          refl;
    }

pub returns-clause-cell_as_size : goal.returns-clause-cell_as_size
unfolding file_of
returns-clause-cell_as_size c =
    record {
      spelled = record { good = refl; fits = fits_laid _ _ refl; within = tt; placed = λ none. cc };
      judged =
          refl;
    }
