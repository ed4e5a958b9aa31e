use Rattle.std.proofs.Common.{refl}
use Rattle.layer_ast.specs.Reader.{file_of}
use Rattle.layer_ast.proofs.Laid.{fits_laid}
use Rattle.fault_mean.proofs.samples.library.Goals as goal

pub returns-clause-from_library : goal.returns-clause-from_library
unfolding file_of
returns-clause-from_library c =
    record {
      spelled = record { good = refl; fits = fits_laid _ _ refl; within = tt; placed = λ none. cc };
      judged =
          refl;
    }

pub returns-clause-given_to_library : goal.returns-clause-given_to_library
unfolding file_of
returns-clause-given_to_library c =
    record {
      spelled = record { good = refl; fits = fits_laid _ _ refl; within = tt; placed = λ none. cc };
      judged =
          refl;
    }

pub returns-clause-fault_of_library : goal.returns-clause-fault_of_library
unfolding file_of
returns-clause-fault_of_library c =
    record {
      spelled = record { good = refl; fits = fits_laid _ _ refl; within = tt; placed = λ none. cc };
      judged =
          refl;
    }

pub returns-clause-hides_library : goal.returns-clause-hides_library
unfolding file_of
returns-clause-hides_library c =
    record {
      spelled = record { good = refl; fits = fits_laid _ _ refl; within = tt; placed = λ none. cc };
      judged =
          refl;
    }
