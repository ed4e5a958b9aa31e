-- What is so of each step of a member of a typed stack: what it sends fits its plans and is spelled by its bytes, and
-- its run ends.
use Rattle.std.specs.Prelude.{◌≡◌, ℕ, ◌+◌, ◌≤◌, List, [], ◌∷◌, length, Option, None, Ok}
use Rattle.std.specs.List.{All}
use Rattle.layer_mean.specs.declared.run.Case.{Case}
use Rattle.layer_mean.specs.declared.run.Event.{Event}
use Rattle.layer_mean.specs.Tree.{LayerTree}
use Rattle.layer_mean.specs.State.{State}
use Rattle.layer_mean.specs.Queue.{Task, Line, Work, run, unstarted_work, starting}
use Rattle.packet_mean.specs.Spelling.{SpellsPacket}
use Rattle.packet_mean.specs.declared.here.Here.{Here}
use Rattle.stack_mean.specs.Acceptance.{joins_limit, acceptance}
use Rattle.stack_mean.specs.Graph.{first_on_cycle}
use Rattle.stack_mean.specs.Plan.{Plan}
use Rattle.stack_mean.specs.Plans.{plans_of}
use Rattle.run_mean.specs.Mode.{Mode}
use Rattle.run_mean.specs.Common.{as_sent, wire}
use Rattle.run_mean.specs.Member.{Entered, Output, packet, first_task, most_turns, Step, step_from}
use Rattle.shape_laws.specs.Bare.{BareRun}
use Rattle.shape_laws.specs.Law.{run_start}
use Rattle.member_laws.specs.Fit.{FitsItsPlan}
use Rattle.chain_laws.specs.Runs.{TypedStack, AreChainedStates, IsChainedTask, IsChainedLine}
use Rattle.weight_laws.specs.Runs.{run_joins, IsTurn, IsLine}
use Rattle.weight_laws.specs.Visits.{task_weight, task_joins}
use Rattle.member_laws.specs.Members.{IsHere, IsEntered}

-- A step of a member of a typed stack, in chained states, by what entered in range.
pub record IsStep (stack : List LayerTree) (here : Here) (states : List State) (what : Entered) : Type 0 where
  pub typed : TypedStack stack
  pub at : IsHere here
  pub states_are : AreChainedStates stack states
  pub input : IsEntered stack what

-- In a run from chained states and a chained task each part that is read has no headers, in either case.
abbrev pub TypedRunsAreBare : Type 0
TypedRunsAreBare = (case : Case) (stack : List LayerTree) (states : List State) (task : Task Event) → TypedStack stack →
    AreChainedStates stack states → IsChainedTask stack task → BareRun case stack (run_start states task)

-- So each packet of a step that is sent short fits its plan, in either mode.
abbrev pub PacketsFit : Type 0
PacketsFit = (mode : Mode) (stack : List LayerTree) (here : Here) (id : ℕ) (states : List State) (what : Entered) →
    IsStep stack here states what →
    All (FitsItsPlan (plans_of stack)) (as_sent mode stack (plans_of stack) (step_from stack here id states what))

-- And the bytes of every packet that a step sends, short or in full, spell it.
abbrev pub WireIsSpelled : List LayerTree → List Plan → Output × Option ℕ → Type 0
WireIsSpelled stack plans (packet p, plan) = SpellsPacket stack plans (wire plans p plan) p
WireIsSpelled stack plans _ = Unit {0}

abbrev pub WiresAreSpelled : Type 0
WiresAreSpelled = (mode : Mode) (stack : List LayerTree) (here : Here) (id : ℕ) (states : List State) (what : Entered) →
    IsStep stack here states what →
    All (WireIsSpelled stack (plans_of stack))
    (as_sent mode stack (plans_of stack) (step_from stack here id states what))

-- In a stack without cycles, all is known of a turn of a chained line, and of the line itself.
abbrev pub ChainedTurns : Type 0
ChainedTurns = (stack : List LayerTree) (w : Work) (t : Task Event) (rest : List (Task Event)) → TypedStack stack →
    first_on_cycle stack ≡ None → IsChainedLine stack (record { world = w; tasks = t ∷ rest }) → IsTurn stack w t rest

abbrev pub ChainedLines : Type 0
ChainedLines = (stack : List LayerTree) (r : Line Work Event) → TypedStack stack → first_on_cycle stack ≡ None →
    IsChainedLine stack r →
    IsLine stack r

-- The run of a step of an accepted stack is within the limits: no task is left, and more turns change nothing; its
-- visits and outputs are at most the weight of its entry, and its joins at most its entry's.
pub record StepEnds (stack : List LayerTree) (states : List State) (first : Task Event) (s : Step) : Type 0 where
  pub weight : task_weight stack first ≤ most_turns
  pub joins : task_joins stack first ≤ joins_limit
  pub done : (run most_turns stack states first).tasks ≡ []
  pub enough : (n : ℕ) → task_weight stack first ≤ n → (run n stack states first).world ≡ s.work
  pub turns : s.work.visits + length s.outputs ≤ task_weight stack first
  pub made : (n : ℕ) → run_joins stack n (starting (unstarted_work states) first) ≤ task_joins stack first

abbrev pub StepsEnd : Type 0
StepsEnd = (stack : List LayerTree) (here : Here) (id : ℕ) (states : List State) (what : Entered) →
    IsStep stack here states what →
    acceptance stack ≡ Ok stack →
    StepEnds stack states (first_task stack here.rank what) (step_from stack here id states what)
