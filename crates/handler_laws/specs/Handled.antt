-- That the code of a step's entry does what the step does.
use Rattle.std.specs.Prelude.{◌≡◌, ℕ, ◌≤◌, true, false, List, Option, Some, None, Ok}
use Rattle.layer_mean.specs.declared.run.Case.{Case}
use Rattle.layer_mean.specs.State.{State}
use Rattle.layer_mean.specs.Tree.{LayerTree}
use Rattle.packet_mean.specs.declared.here.Here.{Here}
use Rattle.stack_mean.specs.Acceptance.{largest_weight, joins_limit, acceptance}
use Rattle.stack_mean.specs.Plan.{Plan}
use Rattle.stack_mean.specs.Plans.{plans_of}
use Rattle.run_mean.specs.Common.{is_common_in}
use Rattle.run_mean.specs.Member.{Entered, Step, step_from}
use Rattle.chain_laws.specs.Runs.{TypedStack}
use Rattle.member_laws.specs.Steps.{IsStep}
use Rattle.trace_mean.specs.Worth.{Input}
use Rattle.trace_laws.specs.Members.{AreOf}
use Rattle.handler_laws.specs.Steps.{entry_fields, input_of}
use Rattle.guard_mean.specs.Code.{Code}
use Rattle.guard_mean.specs.Machine.{tested, run_code}
use Rattle.guard_mean.specs.Perform.{End}
use Rattle.guard_laws.specs.Counts.{code_joins, code_outputs}
use Rattle.guard_laws.specs.Safe.{SafeCode}
use Rattle.bypass_mean.specs.Bypasses as mean
use Rattle.bypass_laws.specs.Stack.{AreOfStack}
use Rattle.stack_shapes.specs.Entries.{entry_for}
use Rattle.code_table.specs.Codes.{codes_of, code_at}

-- The input of a step's entry.
abbrev pub step_input : List Plan → Here → Entered → Input
step_input plans here what = input_of here (entry_fields plans what) what

-- A step is common in a case, and code has ended with its states and outputs.
pub record EndsAs (case : Case) (stack : List LayerTree) (plans : List Plan) (s : Step) (e : End) : Type 0 where
  pub common : is_common_in stack plans s case ≡ true
  pub states : e.states ≡ s.work.states
  pub outs : e.outs ≡ s.work.outs

-- The code of a case, for a step: it passes exactly where the step is common in that case, and then ends with the
-- step's states and outputs; where its tests are passed it is safe and has no more outputs than there is room for, and
-- it never joins more than a step may.
pub record HandlesStep (case : Case) (stack : List LayerTree) (plans : List Plan) (here : Here) (id : ℕ)
    (states : List State) (what : Entered)
    (c : Code) : Type 0 where
  pub passes : (e : End) → run_code (step_input plans here what) c states ≡ Some e →
      EndsAs case stack plans (step_from stack here id states what) e
  pub misses : run_code (step_input plans here what) c states ≡ None →
      is_common_in stack plans (step_from stack here id states what) case ≡ false
  pub safe : (tested (step_input plans here what) c.tests states).passes ≡ true →
      SafeCode stack (step_input plans here what) c states
  pub joins : code_joins c ≤ joins_limit
  pub outputs : (tested (step_input plans here what) c.tests states).passes ≡ true →
      code_outputs c ≤ largest_weight stack

-- Where there is no code the step isn't common in the case.
abbrev pub IsHandled : Case → List LayerTree → List Plan → Here → ℕ → List State → Entered → Option Code → Type 0
IsHandled case stack plans here id states what None = is_common_in
    stack plans (step_from stack here id states what) case ≡ false
IsHandled case stack plans here id states what (Some c) = HandlesStep case stack plans here id states what c

-- All steps of a member of an accepted stack of typed layers are handled so, by the code of whatever bypasses are the
-- stack's.
abbrev pub StepsAreHandled : Type 0
StepsAreHandled = (case : Case) (stack : List LayerTree) (plans : List Plan) (b : mean.Bypasses) (here : Here) (id : ℕ)
    (states : List State)
    (what : Entered) → TypedStack stack → acceptance stack ≡ Ok stack → plans ≡ plans_of stack → AreOfStack stack b →
    IsStep stack here states what → AreOf (step_input plans here what) stack states →
    IsHandled case stack plans here id states what (code_at (codes_of b) (entry_for plans what) case)
