-- Members and worlds keep chains.
use Rattle.std.specs.Prelude.{◌≡◌, ℕ, ◌<◌, ◌≤◌, List, Ok}
use Rattle.std.specs.List.{AllByRecursion, filter_map}
use Rattle.msg_core.specs.View.{most_members}
use Rattle.msg_core.specs.declared.packet.View.{View}
use Rattle.layer_mean.specs.Tree.{LayerTree}
use Rattle.layer_mean.specs.State.{State}
use Rattle.packet_mean.specs.ChainedState.{IsNumber, IsBody}
use Rattle.packet_mean.specs.Spelling.{AreBytes, IsSpellable}
use Rattle.packet_mean.specs.declared.here.Here.{Here}
use Rattle.packet_laws.specs.Strays.{AreNumbered}
use Rattle.chain_laws.specs.Runs.{TypedStack, AreChainedStates, IsChainedTask, IsChainedOut}
use Rattle.script_mean.specs.declared.event.ScriptEvent.{ScriptEvent}
use Rattle.script_mean.specs.declared.event.ScriptEvent.TheVariants as script
use Rattle.stack_mean.specs.Plan.{Plan}
use Rattle.run_mean.specs.Member.{Member, inside, out, opened_member, Input, cast, send, leave, tick, datagram, Entered}
use Rattle.run_mean.specs.Member.{app_cast, app_send, app_leave, clock_tick, from_peer, entered_input, first_task, Step}
use Rattle.run_mean.specs.Member.{step_from, member_following, packet_in}
use Rattle.run_mean.specs.World.{World, first_world, happens}
use Rattle.run_mean.specs.Report.{Moment, moments}

-- A view's numbers are in range.
pub record IsView (view : View) : Type 0 where
  pub ltime : IsNumber view.ltime
  pub mask : IsNumber view.mask

-- Where a member stands: its group, its stamp and its view are in range, and its rank is one that a view may have.
pub record IsHere (here : Here) : Type 0 where
  pub group : IsNumber here.group
  pub stamp : IsNumber here.stamp
  pub view : IsView here.view
  pub rank : here.rank < most_members

-- A member that is in a view has chained states.
pub record IsInside (stack : List LayerTree) (view : View) (states : List State) : Type 0 where
  pub view_is : IsView view
  pub states_are : AreChainedStates stack states

abbrev pub IsChainedMember : List LayerTree → Member → Type 0
IsChainedMember stack (inside view states) = IsInside stack view states
IsChainedMember stack out = Unit {0}

-- What a member is given is made of bytes and numbers.
abbrev pub IsInput : Input → Type 0
IsInput (cast body) = AreBytes body
IsInput (send to body) = IsNumber to × AreBytes body
IsInput leave = Unit {0}
IsInput (tick moment) = IsNumber moment
IsInput (datagram bytes) = AreBytes bytes

-- What it then entered as: a body that isn't too long, a number, a packet that can be spelled.
abbrev pub IsEntered : List LayerTree → Entered → Type 0
IsEntered stack (app_cast body) = IsBody body
IsEntered stack (app_send to body) = IsNumber to × IsBody body
IsEntered stack app_leave = Unit {0}
IsEntered stack (clock_tick moment) = IsNumber moment
IsEntered stack (from_peer packet) = IsSpellable stack packet

-- An input that isn't refused enters so, and the first task of what entered is chained.
abbrev pub EntersInRange : Type 0
EntersInRange = (stack : List LayerTree) (plans : List Plan) (here : Here) (input : Input) (what : Entered) →
    AreNumbered plans →
    IsInput input → entered_input stack plans here input ≡ Ok what → IsEntered stack what

abbrev pub FirstTasksAreChained : Type 0
FirstTasksAreChained = (stack : List LayerTree) (me : ℕ) (what : Entered) → IsNumber me → IsEntered stack what →
    IsChainedTask stack (first_task stack me what)

-- A member that has just come into a view has chained states.
abbrev pub OpenedIsChained : Type 0
OpenedIsChained = (stack : List LayerTree) (view : View) (id : ℕ) → TypedStack stack → IsView view →
    IsChainedMember stack (opened_member stack view id)

-- A step leaves chained states and outputs, packets that can be spelled, and a chained member.
pub record IsChainedStep (stack : List LayerTree) (here : Here) (s : Step) : Type 0 where
  pub states : AreChainedStates stack s.work.states
  pub outs : AllByRecursion (IsChainedOut stack) s.work.outs
  pub packets : AllByRecursion (IsSpellable stack) (filter_map packet_in s.outputs)
  pub member : IsChainedMember stack (member_following here.view s)

abbrev pub StepsKeepChains : Type 0
StepsKeepChains = (stack : List LayerTree) (here : Here) (id : ℕ) (states : List State) (what : Entered) →
    TypedStack stack → IsHere here →
    AreChainedStates stack states → IsEntered stack what →
    IsChainedStep stack here (step_from stack here id states what)

-- The members of a world are chained, and its packets can be spelled.
pub record IsChainedWorld (stack : List LayerTree) (w : World) : Type 0 where
  pub group : IsNumber w.group
  pub stamp : IsNumber w.stamp
  pub members : AllByRecursion (IsChainedMember stack) w.members
  pub packets : AllByRecursion (IsSpellable stack) w.packets

abbrev pub FirstWorldIsChained : Type 0
FirstWorldIsChained = (stack : List LayerTree) (group stamp n : ℕ) → TypedStack stack → IsNumber group →
    IsNumber stamp → n ≤ most_members →
    IsChainedWorld stack (first_world stack group stamp n)

-- What an event of a script says is made of bytes and numbers.
abbrev pub IsGivenEvent : ScriptEvent → Type 0
IsGivenEvent (script.Cast id body) = AreBytes body
IsGivenEvent (script.Send id to body) = IsNumber to × AreBytes body
IsGivenEvent (script.Tick id moment) = IsNumber moment
IsGivenEvent (script.Raw id bytes) = AreBytes bytes
IsGivenEvent _ = Unit {0}

-- An event keeps a world chained; so along a run each world is, before its event and after it.
abbrev pub EventsKeepChains : Type 0
EventsKeepChains = (stack : List LayerTree) (plans : List Plan) (w : World) (event : ScriptEvent) → TypedStack stack →
    AreNumbered plans →
    IsGivenEvent event → IsChainedWorld stack w → IsChainedWorld stack (happens stack plans w event).world

abbrev pub IsChainedMoment : List LayerTree → Moment → Type 0
IsChainedMoment stack m = IsChainedWorld stack m.before × IsChainedWorld stack m.happening.world

abbrev pub MomentsAreChained : Type 0
MomentsAreChained = (stack : List LayerTree) (plans : List Plan) (w : World) (events : List ScriptEvent) →
    TypedStack stack → AreNumbered plans →
    AllByRecursion IsGivenEvent events → IsChainedWorld stack w →
    AllByRecursion (IsChainedMoment stack) (moments stack plans w events)
