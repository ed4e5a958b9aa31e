-- That the states of a member are those of its rank in its view, as far as its layers' states say so, and stay so.
use Rattle.std.specs.Prelude.{◌≡◌, ℕ, List, Option, map}
use Rattle.std.specs.List.{AllByRecursion}
use Rattle.msg_core.specs.View.{member_count}
use Rattle.msg_core.specs.declared.packet.View.{View}
use Rattle.layer_mean.specs.State.{State}
use Rattle.layer_mean.specs.Tree.{LayerTree}
use Rattle.layer_mean.specs.Visit.{fresh}
use Rattle.packet_mean.specs.declared.here.Here.{Here}
use Rattle.run_mean.specs.Member.{Entered, step_from}
use Rattle.chain_laws.specs.Runs.{AreChainedStates}
use Rattle.trace_laws.specs.Members.{AreOf}
use Rattle.handler_laws.specs.Steps.{input_of}

-- A state is of the member of a rank in a view.
pub record IsOfMember (rank : ℕ) (view : View) (s : State) : Type 0 where
  pub me : s.me ≡ rank
  pub count : s.count ≡ member_count view
  pub ltime : s.ltime ≡ view.ltime

abbrev pub AreOfMember : ℕ → View → List State → Type 0
AreOfMember rank view states = AllByRecursion (IsOfMember rank view) states

-- So are fresh states.
abbrev pub FreshAreOfMember : Type 0
FreshAreOfMember = (stack : List LayerTree) (rank : ℕ) (view : View) →
    AreOfMember rank view (map (λ layer. fresh layer rank (member_count view) view.ltime) stack)

-- They stay so through a step.
abbrev pub StepsKeepMembers : Type 0
StepsKeepMembers = (stack : List LayerTree) (here : Here) (id : ℕ) (states : List State) (what : Entered) →
    AreChainedStates stack states →
    AreOfMember here.rank here.view states →
    AreOfMember here.rank here.view (step_from stack here id states what).work.states

-- And they are those that an input is for, whatever enters.
abbrev pub StatesAreOf : Type 0
StatesAreOf = (stack : List LayerTree) (here : Here) (fields : List (Option ℕ)) (what : Entered) (states : List State) →
    AreChainedStates stack states → AreOfMember here.rank here.view states →
    AreOf (input_of here fields what) stack states
