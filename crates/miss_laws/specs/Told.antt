-- That what the checks of a stack's traces tell is what its steps lacked.
use Rattle.std.specs.Prelude.{◌≡◌, ℕ, List, Option, None, option_map}
use Rattle.layer_mean.specs.State.{State}
use Rattle.layer_mean.specs.Tree.{LayerTree}
use Rattle.packet_mean.specs.declared.here.Here.{Here}
use Rattle.stack_mean.specs.Plan.{Plan}
use Rattle.stack_mean.specs.Plans.{plans_of}
use Rattle.run_mean.specs.Common.{case_of}
use Rattle.run_mean.specs.Member.{Entered, step_from}
use Rattle.member_laws.specs.Steps.{IsStep}
use Rattle.trace_laws.specs.Members.{AreOf}
use Rattle.bypass_laws.specs.Making.{IsSound, bypasses_of, simplest}
use Rattle.handler_laws.specs.Handled.{step_input}
use Rattle.lack_mean.specs.Lacks.{Miss, entry_named, miss_of}
use Rattle.miss_laws.specs.Asked.{AllAsked, all_asked, miss_asked}

-- The checks of a stack: those of the bypasses that are made of it.
abbrev pub AreChecksOf : List LayerTree → AllAsked → Type 0
AreChecksOf stack all = all ≡ all_asked (bypasses_of simplest stack)

-- What they tell of what entered: nothing of a leave and of a tick.
abbrev pub told_of : List LayerTree → List Plan → AllAsked → Here → List State → Entered → Option Miss
told_of stack plans all here states what =
    option_map (λ e. miss_asked all e (step_input plans here what) states) (entry_named plans what)

-- A step that isn't common, of a member of a stack, lacked what the stack's checks tell when asked on the states before
-- it.
abbrev pub MissesAreTold : Type 0
MissesAreTold = (stack : List LayerTree) (plans : List Plan) (all : AllAsked) (here : Here) (id : ℕ)
    (states : List State) (what : Entered) →
    IsSound stack → plans ≡ plans_of stack → AreChecksOf stack all → IsStep stack here states what →
    AreOf (step_input plans here what) stack states →
    case_of stack plans (step_from stack here id states what) ≡ None →
    miss_of stack plans (step_from stack here id states what) ≡ told_of stack plans all here states what
