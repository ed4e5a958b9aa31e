-- The small stack, rule by rule.
use Rattle.std.proofs.Common.{[], Some, refl, arith}
use Rattle.std.specs.Prelude.{codes}
use Rattle.layer_words.specs.Spelling.{kinds}
use Rattle.layer_mean.specs.Queue.{run}
use Rattle.layer_mean.specs.Tree as mean
use Rattle.layer_mean.specs.Visit.{step}
use Rattle.stack_mean.specs.Shape.{drawn_shape, has_second_case}
use Rattle.member_laws.specs.PlanSamples.{first_of_two}
use Rattle.chain_laws.specs.Runs.{TypedStack}
use Rattle.member_laws.specs.Members.{IsView}
use Rattle.member_laws.proofs.Members.{opened_is_chained}
use Rattle.member_laws.specs.Steps.{IsStep}
use Rattle.member_laws.specs.Samples.{keeping, fresh_states, two_letters, KeepingStep}

keeping_typed : TypedStack keeping
keeping_typed = (
  record {
    cells = (omega arith, tt);
    handlers = (
      (
        (
          record {
            rows = record { capacity = 4; items = record { numbers = []; message = Some (codes "p", mean.part) } };
            listed = refl;
            room = refl;
            count = refl;
            numbers_are = tt;
            message = refl;
          },
          tt,
        ),
        (
          (
            (tt, tt),
            record {
              fields = (omega arith, tt);
              declares = (
                refl,
                (
                  record {
                    rows = record {
                      capacity = 4;
                      items = record { numbers = []; message = Some (codes "p", mean.part) };
                    };
                    listed = refl;
                    sort = refl;
                    blanks = tt;
                  },
                  refl,
                ),
              );
            },
          ),
          tt,
        ),
      ),
      tt,
    );
  },
  tt,
)

view_is : IsView first_of_two.view
view_is = record { ltime = omega arith; mask = omega arith }

keeping_is : IsStep keeping first_of_two fresh_states two_letters
keeping_is = record {
  typed = keeping_typed;
  at = record { group = omega arith; stamp = omega arith; view = view_is; rank = omega arith };
  states_are = (opened_is_chained keeping first_of_two.view 0 keeping_typed view_is).states_are;
  input = record { within = omega arith; bytes = (omega arith, (omega arith, tt)) };
}

pub keeping_step : KeepingStep
unfolding step run drawn_shape has_second_case kinds
keeping_step = (keeping_is, refl, refl, refl, refl, refl, refl)
