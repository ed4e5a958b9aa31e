use Rattle.std.proofs.Common.{◌≡◌, ◌≢◌, false, List, [], ◌∷◌, length, nat_eq, refl}
use Rattle.layer_ast.specs.Reader.{file_of}
use Rattle.layer_ast.proofs.Laid.{fits_laid}
use Rattle.fault_mean.proofs.samples.limits.Goals as goal

-- a list of some length isn't empty
some : {A : Type 0} (xs : List A) → nat_eq (length xs) 0 ≡ false → xs ≢ []
some [] h none = absurd (cc h)
some (x ∷ xs) h none = absurd (cc none)

pub returns-clause-five_fields : goal.returns-clause-five_fields
unfolding file_of
returns-clause-five_fields c =
    record {
      spelled = record { good = refl; fits = fits_laid _ _ refl; within = tt; placed = λ none. cc };
      judged =
          refl;
    }

pub returns-clause-fifth_twice : goal.returns-clause-fifth_twice
unfolding file_of
returns-clause-fifth_twice c =
    record {
      spelled = record { good = refl; fits = fits_laid _ _ refl; within = tt; placed = λ none. cc };
      judged =
          refl;
    }

pub returns-clause-message_inside : goal.returns-clause-message_inside
unfolding file_of
returns-clause-message_inside c =
    record {
      spelled = record { good = refl; fits = fits_laid _ _ refl; within = tt; placed = λ none. cc };
      judged =
          refl;
    }

pub returns-clause-capacity_outside : goal.returns-clause-capacity_outside
unfolding file_of
returns-clause-capacity_outside c =
    record {
      spelled = record { good = refl; fits = fits_laid _ _ refl; within = tt; placed = λ none. cc };
      judged =
          refl;
    }

pub returns-clause-given_outside : goal.returns-clause-given_outside
unfolding file_of
returns-clause-given_outside c =
    record {
      spelled = record { good = refl; fits = fits_laid _ _ refl; within = tt; placed = λ none. cc };
      judged =
          refl;
    }

pub returns-clause-maximum_outside : goal.returns-clause-maximum_outside
unfolding file_of
returns-clause-maximum_outside c =
    record {
      spelled = record { good = refl; fits = fits_laid _ _ refl; within = tt; placed = λ none. cc };
      judged =
          refl;
    }

pub returns-clause-not_placed : goal.returns-clause-not_placed
unfolding file_of
returns-clause-not_placed c =
    record {
      spelled = record { good = refl; fits = fits_laid _ _ refl; within = tt; placed = λ none. cc };
      judged =
          refl;
    }

pub returns-clause-places_beyond : goal.returns-clause-places_beyond
unfolding file_of
returns-clause-places_beyond c =
    record {
      spelled = record { good = refl; fits = fits_laid _ _ refl; within = tt; placed = some _ refl };
      judged =
          refl;
    }
