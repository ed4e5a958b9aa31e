-- The laws of steps where parts are read.
use Rattle.std.specs.Prelude.{◌≡◌, ◌+◌, true, false, List, [], ◌∷◌, map, length, Some, codes, Ok}
use Rattle.layer_words.specs.declared.events.Dir.TheVariants.{Down}
use Rattle.layer_words.specs.declared.events.Kind.TheVariants as kind
use Rattle.layer_mean.specs.declared.run.Case.TheVariants.{First}
use Rattle.layer_mean.specs.Tree as mean
use Rattle.layer_mean.specs.Tree.{LayerTree}
use Rattle.layer_mean.specs.State.{State}
use Rattle.layer_mean.specs.Visit.{fresh}
use Rattle.stack_mean.specs.Acceptance.{acceptance}
use Rattle.stack_mean.specs.Plans.{plans_of}
use Rattle.run_mean.specs.Mode.{bypass}
use Rattle.run_mean.specs.Common.{as_sent}
use Rattle.run_mean.specs.Member.{Entered, app_cast, first_task, Step, step_from}
use Rattle.shape_laws.specs.Parts.{layer_reads_no_part}
use Rattle.member_laws.specs.PlanSamples.{first_of_two}
use Rattle.weight_laws.specs.Visits.{task_weight}
use Rattle.member_laws.specs.Steps.{IsStep}

-- A layer that keeps the front of each cast as a part, and sends the part that it has kept longest in its place.
abbrev pub keeper : LayerTree
keeper = record {
  name = codes "keeper";
  cells =
      record {
        name = codes "parts";
        form = mean.queue 4 record { numbers = []; message = Some (codes "p", mean.part) };
      } ∷ [];
  headers = record { name = codes "piece"; fields = 1; ends = true } ∷ [];
  handlers =
      record {
        direction = Down;
        kind = kind.Cast;
        tag = 0;
        expected = mean.always;
        numbers = 0;
        messages = 0;
        block =
            mean.more (mean.push 0 (mean.number 0) 4 record {
              numbers = [];
              message = Some (mean.cut (mean.message 0) (mean.number 0) (mean.number 8));
            } mean.none) (
            mean.more (mean.emit record {
              direction = Down;
              kind = kind.Cast;
              numbers = mean.local 0 ∷ [];
              content = Some record {
                message = mean.held 0 (mean.number 0) (mean.number 0) mean.part;
                tag = 1;
                fields =
                    mean.number 7 ∷ [];
              };
            })
            mean.none);
      }
      ∷ [];
}

abbrev pub keeping : List LayerTree
keeping = keeper ∷ []

-- The first of two members casts two letters, over a fresh layer.
abbrev pub fresh_states : List State
fresh_states = map (λ layer. fresh layer 0 2 0) keeping

abbrev pub two_letters : Entered
two_letters = app_cast (codes "hi")

abbrev pub keeping_step : Step
keeping_step = step_from keeping first_of_two 0 fresh_states two_letters

-- Its predicted way reads a part, and its packet is sent short under the first plan, that of casts; its run takes the
-- two turns that its entry weighs.
abbrev pub KeepingStep : Type 0
KeepingStep =
    IsStep keeping first_of_two fresh_states two_letters ×
    (layer_reads_no_part First keeper ≡ false) ×
    (map (λ x. x.1) (as_sent bypass keeping (plans_of keeping) keeping_step) ≡ Some 0 ∷ []) ×
    (map (λ plan. plan.fields) (plans_of keeping) ≡ (Some 7 ∷ []) ∷ [] ∷ []) ×
    (acceptance keeping ≡ Ok keeping) ×
    (task_weight keeping (first_task keeping 0 two_letters) ≡ 2) ×
    (keeping_step.work.visits + length keeping_step.outputs ≡ 2)
