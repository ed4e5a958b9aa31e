-- The constants of a typed stack's plans are numbers, so what is read by them needs no premise on plans.
use Rattle.std.specs.Prelude.{◌≡◌, List, Ok}
use Rattle.std.specs.List.{AllByRecursion}
use Rattle.layer_mean.specs.Tree.{LayerTree}
use Rattle.packet_mean.specs.declared.here.Here.{Here}
use Rattle.packet_laws.specs.Strays.{AreNumbered}
use Rattle.stack_mean.specs.Plans.{plans_of}
use Rattle.script_mean.specs.declared.event.ScriptEvent.{ScriptEvent}
use Rattle.run_mean.specs.Member.{Input, Entered, entered_input}
use Rattle.run_mean.specs.World.{World}
use Rattle.run_mean.specs.Report.{moments}
use Rattle.chain_laws.specs.Runs.{TypedStack}
use Rattle.member_laws.specs.Members.{IsInput, IsEntered, IsGivenEvent, IsChainedWorld, IsChainedMoment}

-- The constants of the plans of a typed stack are below 2^32.
abbrev pub PlansAreNumbered : Type 0
PlansAreNumbered = (stack : List LayerTree) → TypedStack stack → AreNumbered (plans_of stack)

-- So what a member of a typed stack is given enters in range where it isn't refused.
abbrev pub InputsAreInRange : Type 0
InputsAreInRange = (stack : List LayerTree) (here : Here) (input : Input) (what : Entered) → TypedStack stack →
    IsInput input →
    entered_input stack (plans_of stack) here input ≡ Ok what → IsEntered stack what

-- And along a run of the world each world is chained.
abbrev pub WorldsAreChained : Type 0
WorldsAreChained = (stack : List LayerTree) (w : World) (events : List ScriptEvent) → TypedStack stack →
    AllByRecursion IsGivenEvent events →
    IsChainedWorld stack w → AllByRecursion (IsChainedMoment stack) (moments stack (plans_of stack) w events)
