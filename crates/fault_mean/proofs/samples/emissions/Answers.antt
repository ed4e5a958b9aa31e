use Rattle.std.proofs.Common.{refl}
use Rattle.layer_ast.specs.Reader.{file_of}
use Rattle.layer_ast.proofs.Laid.{fits_laid}
use Rattle.fault_mean.proofs.samples.emissions.Goals as goal

pub returns-clause-argument_missing : goal.returns-clause-argument_missing
unfolding file_of
returns-clause-argument_missing c =
    record {
      spelled = record { good = refl; fits = fits_laid _ _ refl; within = tt; placed = λ none. cc };
      judged =
          refl;
    }

pub returns-clause-field_missing : goal.returns-clause-field_missing
unfolding file_of
returns-clause-field_missing c =
    record {
      spelled = record { good = refl; fits = fits_laid _ _ refl; within = tt; placed = λ none. cc };
      judged =
          refl;
    }

pub returns-clause-header_up : goal.returns-clause-header_up
unfolding file_of
returns-clause-header_up c =
    record {
      spelled = record { good = refl; fits = fits_laid _ _ refl; within = tt; placed = λ none. cc };
      judged =
          refl;
    }

pub returns-clause-field_missing_up : goal.returns-clause-field_missing_up
unfolding file_of
returns-clause-field_missing_up c =
    record {
      spelled = record { good = refl; fits = fits_laid _ _ refl; within = tt; placed = λ none. cc };
      judged =
          refl;
    }

pub returns-clause-message_ends : goal.returns-clause-message_ends
unfolding file_of
returns-clause-message_ends c =
    record {
      spelled = record { good = refl; fits = fits_laid _ _ refl; within = tt; placed = λ none. cc };
      judged =
          refl;
    }

pub returns-clause-part_passes : goal.returns-clause-part_passes
unfolding file_of
returns-clause-part_passes c =
    record {
      spelled = record { good = refl; fits = fits_laid _ _ refl; within = tt; placed = λ none. cc };
      judged =
          refl;
    }

pub returns-clause-part_up : goal.returns-clause-part_up
unfolding file_of
returns-clause-part_up c =
    record {
      spelled = record { good = refl; fits = fits_laid _ _ refl; within = tt; placed = λ none. cc };
      judged =
          refl;
    }

pub returns-clause-initial_of_cell : goal.returns-clause-initial_of_cell
unfolding file_of
returns-clause-initial_of_cell c =
    record {
      spelled = record { good = refl; fits = fits_laid _ _ refl; within = tt; placed = λ none. cc };
      judged =
          refl;
    }

pub returns-clause-initial_of_array : goal.returns-clause-initial_of_array
unfolding file_of
returns-clause-initial_of_array c =
    record {
      spelled = record { good = refl; fits = fits_laid _ _ refl; within = tt; placed = λ none. cc };
      judged =
          refl;
    }

pub returns-clause-names_first : goal.returns-clause-names_first
unfolding file_of
returns-clause-names_first c =
    record {
      spelled = record { good = refl; fits = fits_laid _ _ refl; within = tt; placed = λ none. cc };
      judged =
          refl;
    }

pub returns-clause-counter : goal.returns-clause-counter
unfolding file_of
returns-clause-counter c =
    record {
      spelled = record { good = refl; fits = fits_laid _ _ refl; within = tt; placed = λ none. cc };
      judged =
          refl;
    }
