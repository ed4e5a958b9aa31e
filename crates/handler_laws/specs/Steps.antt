-- What following a trace gives for the steps of a member.
use Rattle.std.specs.Prelude.{◌≡◌, ℕ, List, [], slice_get, Option, Some, Ok}
use Rattle.std.specs.Option.{option_map_or, option_and_then}
use Rattle.msg_core.specs.View.{member_count}
use Rattle.layer_mean.specs.declared.run.Case.{Case}
use Rattle.layer_mean.specs.Tree.{LayerTree}
use Rattle.layer_mean.specs.State.{State}
use Rattle.packet_mean.specs.Plan.{fields_of, variable, least_fit}
use Rattle.packet_mean.specs.declared.here.Here.{Here}
use Rattle.stack_mean.specs.Plan.{Plan}
use Rattle.stack_mean.specs.Shape.{Known}
use Rattle.run_mean.specs.Common.{entry_of}
use Rattle.run_mean.specs.Member.{Entered, app_cast, app_send, from_peer, first_task, step_from}
use Rattle.member_laws.specs.Members.{IsEntered}
use Rattle.member_laws.specs.Steps.{IsStep}
use Rattle.trace_mean.specs.Trace.{Operation}
use Rattle.trace_mean.specs.Follow.{follow, on, before}
use Rattle.trace_mean.specs.Fuse.{trace_of, entry_task}
use Rattle.trace_laws.specs.Members.{AreOf}
use Rattle.trace_laws.specs.Right.{answer_for}
use Rattle.trace_laws.specs.Safe.{SafeTrace}
use Rattle.trace_mean.specs.Worth.{Input}

-- The fields of the plan of a packet's entry; others have none.
abbrev pub entry_fields : List Plan → Entered → List (Option ℕ)
entry_fields plans (from_peer p) =
    option_map_or (λ plan. plan.fields) (option_and_then (λ k. slice_get plans k) (least_fit plans p)) []
entry_fields plans _ = []

-- The input of an entry that a member is given: its peer, the numbers that its plan leaves variable, and its body.
abbrev pub entry_input : Here → (peer : ℕ) → (fields body : List ℕ) → Input
entry_input here peer fields body = record {
  me = here.rank;
  count = member_count here.view;
  ltime = here.view.ltime;
  peer = peer;
  fields = fields;
  body = body;
}

abbrev pub input_of : Here → List (Option ℕ) → Entered → Input
input_of here fields (app_cast body) = entry_input here here.rank [] body
input_of here fields (app_send to body) = entry_input here to [] body
input_of here fields (from_peer p) = entry_input here p.sender (variable fields (fields_of p.message)) p.message.body
input_of here fields _ = entry_input here 0 [] []

-- What entered begins with the task of its entry under its input.
abbrev pub EntriesBegin : Type 0
EntriesBegin = (stack : List LayerTree) (plans : List Plan) (here : Here) (what : Entered) (k : Known) →
    entry_of plans what ≡ Some k → IsEntered stack what →
    let fields = entry_fields plans what in
    entry_task stack k fields (input_of here fields what) ≡ first_task stack here.rank what

-- So a step of a member gives what following the trace of its entry gives, in each case that is made; and as far
-- as it is followed, it is safe.
pub record StepIsFollowed (case : Case) (stack : List LayerTree) (plans : List Plan) (here : Here) (id : ℕ)
    (states : List State)
    (what : Entered) (operations : List Operation) : Type 0 where
  pub answer : follow (input_of here (entry_fields plans what) what) operations states ≡
      answer_for case (step_from stack here id states what).work
  pub safe : SafeTrace stack (input_of here (entry_fields plans what) what) operations (on (before states))

abbrev pub StepsFollowTraces : Type 0
StepsFollowTraces = (case : Case) (stack : List LayerTree) (plans : List Plan) (here : Here) (id : ℕ)
    (states : List State) (what : Entered)
    (k : Known) (operations : List Operation) →
    IsStep stack here states what →
    AreOf (input_of here (entry_fields plans what) what) stack states →
    entry_of plans what ≡ Some k →
    trace_of case stack k (entry_fields plans what) ≡ Ok operations →
    StepIsFollowed case stack plans here id states what operations
