-- A step over four layers whose packet is sent short.
use Rattle.std.specs.Prelude.{◌≡◌, true, List, [], ◌∷◌, map, Some, None, codes}
use Rattle.layer_mean.specs.State.{State}
use Rattle.layer_mean.specs.Visit.{fresh}
use Rattle.packet_mean.specs.declared.here.Here.{Here}
use Rattle.stack_mean.specs.Plans.{plans_of}
use Rattle.stack_mean.specs.Samples.{keeping_stack}
use Rattle.run_mean.specs.Mode.{layered, bypass}
use Rattle.run_mean.specs.Common.{is_common, as_sent}
use Rattle.run_mean.specs.Member.{app_cast, Step, step_from}

-- The first of two members casts the letter x, over fresh layers.
abbrev pub first_of_two : Here
first_of_two = record { group = 1; stamp = 1; view = record { ltime = 0; mask = 3 }; rank = 0 }

abbrev pub fresh_states : List State
fresh_states = map (λ layer. fresh layer 0 2 0) keeping_stack

abbrev pub kept_step : Step
kept_step = step_from keeping_stack first_of_two 0 fresh_states (app_cast (codes "x"))

-- The step is common: its delivery has no plan, and its packet has the first one in bypass mode and none where all is
-- layered.
abbrev pub KeptStepIsShort : Type 0
KeptStepIsShort =
    (is_common keeping_stack (plans_of keeping_stack) kept_step ≡ true) ×
    (map (λ x. x.1) (as_sent bypass keeping_stack (plans_of keeping_stack) kept_step) ≡ None ∷ Some 0 ∷ []) ×
    (map (λ x. x.1) (as_sent layered keeping_stack (plans_of keeping_stack) kept_step) ≡ None ∷ None ∷ [])
