-- The states of a member's layers have the rank, the number of members and the count of views of the member's view.
use Rattle.std.specs.Prelude.{◌≡◌, ℕ, List, IsSomeAnd}
use Rattle.std.specs.List.{AllByRecursion}
use Rattle.msg_core.specs.View.{member_count, rank}
use Rattle.msg_core.specs.declared.packet.View.{View}
use Rattle.layer_mean.specs.declared.run.Event.{Event}
use Rattle.layer_mean.specs.Tree.{LayerTree}
use Rattle.layer_mean.specs.State.{State}
use Rattle.layer_mean.specs.Queue.{Task, run}
use Rattle.packet_mean.specs.declared.here.Here.{Here}
use Rattle.stack_mean.specs.Plan.{Plan}
use Rattle.script_mean.specs.declared.event.ScriptEvent.{ScriptEvent}
use Rattle.run_mean.specs.Member.{Member, inside, out, opened_member, Entered, step_from, member_following}
use Rattle.run_mean.specs.World.{World, first_world, member_at, happens}
use Rattle.run_mean.specs.Report.{Moment, moments}

-- A state is that of the member of rank `me` among `count`, in a view of this `ltime`.
pub record StandsAs (me count ltime : ℕ) (s : State) : Type 0 where
  pub me_is : s.me ≡ me
  pub count_is : s.count ≡ count
  pub ltime_is : s.ltime ≡ ltime

-- So are the states of the member of an id, which has a rank in the view.
abbrev pub StandIn : View → ℕ → List State → Type 0
StandIn view id states =
    IsSomeAnd (rank view id) (λ me. AllByRecursion (StandsAs me (member_count view) view.ltime) states)

abbrev pub IsStanding : ℕ → Member → Type 0
IsStanding id (inside view states) = StandIn view id states
IsStanding id out = Unit {0}

-- A run of any stack, in any number of turns, keeps them so; a member that comes into a view has such states; and so
-- has one that took a step, in its view or in the one that it installed.
abbrev pub RunsKeepStanding : Type 0
RunsKeepStanding = (turns : ℕ) (stack : List LayerTree) (states : List State) (first : Task Event)
    (me count ltime : ℕ) →
    AllByRecursion (StandsAs me count ltime) states →
    AllByRecursion (StandsAs me count ltime) (run turns stack states first).world.states

abbrev pub OpenedIsStanding : Type 0
OpenedIsStanding = (stack : List LayerTree) (view : View) (id : ℕ) → IsStanding id (opened_member stack view id)

abbrev pub StepsKeepStanding : Type 0
StepsKeepStanding = (stack : List LayerTree) (here : Here) (id : ℕ) (states : List State) (what : Entered) →
    StandIn here.view id states →
    IsStanding id (member_following here.view (step_from stack here id states what))

-- Each member of a world stands in its view; so it is at first, and before and after each event.
abbrev pub IsStandingWorld : World → Type 0
IsStandingWorld w = (id : ℕ) → IsStanding id (member_at w id)

abbrev pub FirstWorldIsStanding : Type 0
FirstWorldIsStanding = (stack : List LayerTree) (group stamp n : ℕ) → IsStandingWorld (first_world stack group stamp n)

abbrev pub EventsKeepStanding : Type 0
EventsKeepStanding = (stack : List LayerTree) (plans : List Plan) (w : World) (event : ScriptEvent) →
    IsStandingWorld w →
    IsStandingWorld (happens stack plans w event).world

abbrev pub IsStandingMoment : Moment → Type 0
IsStandingMoment m = IsStandingWorld m.before × IsStandingWorld m.happening.world

abbrev pub MomentsAreStanding : Type 0
MomentsAreStanding = (stack : List LayerTree) (plans : List Plan) (w : World) (events : List ScriptEvent) →
    IsStandingWorld w →
    AllByRecursion IsStandingMoment (moments stack plans w events)
