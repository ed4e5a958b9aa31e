-- What is left of a turn, at each stage of it, as the clock and the network go on to tell; and that a node which stops
-- could have gone on.
use Rattle.std.specs.Prelude.{◌≡◌, ℕ, ◌+◌, ◌*◌, ◌-◌, ◌<◌, ◌≤◌, ◌==◌, ◌&&◌, Bool, true, List, [], ◌∷◌, ◌++◌, map, length}
use Rattle.std.specs.Prelude.{take, drop, zip, replicate, if◌then◌else◌, Ok}
use Rattle.std.specs.List.{AllByRecursion, filter, list_any}
use Rattle.script_mean.specs.Event.{member_of}
use Rattle.script_mean.specs.NodePlan.{node_plan}
use Rattle.script_mean.specs.PlanLine.{is_request}
use Rattle.script_mean.specs.declared.event.ScriptEvent.{ScriptEvent}
use Rattle.script_mean.specs.declared.event.ScriptEvent.TheVariants.{Tick, Raw}
use Rattle.script_mean.specs.declared.plan.NodePlan.{NodePlan}
use Rattle.run_mean.specs.Journal.{Heard, datagram, silence, failure, planned_events}
use Rattle.group_mean.specs.Node.{failures, receiving}
use Rattle.node_laws.specs.Doings.{Doing, does, asks, bears, asking, while_patient, doings_from}

-- A node's plan, its own members and how many turns it makes.
pub record Course : Type 0 where
  pub plan : NodePlan
  pub me : List ℕ
  pub turns : ℕ

-- From turn t on.
abbrev pub from_turn : Course → (t patience : ℕ) → List ℕ → List Heard → List Doing
from_turn c t patience clock heard = doings_from c.plan c.me t (c.turns - t) patience clock heard

-- In turn t, where these planned events are yet to come.
abbrev pub from_planned : Course → (t patience : ℕ) → List ScriptEvent → List ℕ → List Heard → List Doing
from_planned c t patience events clock heard = map does events ++ from_turn c (t + 1) patience clock heard

-- In turn t, where these members have yet to ask, one receive after another.
abbrev pub from_asking : Course → (t patience : ℕ) → List ℕ → List ℕ → List Heard → List Doing
from_asking c t patience ids clock heard =
    let a = asking patience (zip ids (take (length ids) heard)) in
    a.doings ++ while_patient a.patience
    (λ left. from_planned c t left (planned_events c.plan c.me t) clock (drop (length ids) heard))

-- In turn t of this moment, where these members have yet to take a tick.
abbrev pub from_ticks : Course → (t patience moment : ℕ) → List ℕ → List ℕ → List Heard → List Doing
from_ticks c t patience moment ids clock heard =
    map (λ id. does (Tick id moment)) ids ++ from_asking c t patience (receiving c.me) clock heard

-- A turn begins with its moment's ticks.
abbrev pub TurnsBeginWithTicks : Type 0
TurnsBeginWithTicks = (c : Course) (t patience moment : ℕ) (clock : List ℕ) (heard : List Heard) → t < c.turns →
    from_turn c t patience (moment ∷ clock) heard ≡ from_ticks c t patience moment c.me clock heard

-- What a member hears is done in its place.
abbrev pub heard_doings : ℕ → Heard → List Doing
heard_doings id (datagram bytes) = asks id (datagram bytes) ∷ does (Raw id bytes) ∷ []
heard_doings id silence = asks id silence ∷ []
heard_doings id failure = asks id failure ∷ bears id ∷ []

-- How many failures are left to be borne after what was heard.
abbrev pub left_after : ℕ → Heard → ℕ
left_after patience failure = patience - 1
left_after patience _ = patience

abbrev pub IsBorne : ℕ → Heard → Type 0
IsBorne patience failure = 1 ≤ patience
IsBorne patience _ = Unit {0}

abbrev pub AskingGoesOn : Type 0
AskingGoesOn = (c : Course) (t patience id : ℕ) (ids clock : List ℕ) (x : Heard) (heard : List Heard) →
    IsBorne patience x →
    from_asking c t patience (id ∷ ids) clock (x ∷ heard) ≡ heard_doings id x ++
    from_asking c t (left_after patience x) ids clock heard

-- A failure that isn't borne is the last.
abbrev pub AskingEnds : Type 0
AskingEnds = (c : Course) (t id : ℕ) (ids clock : List ℕ) (heard : List Heard) →
    from_asking c t 0 (id ∷ ids) clock (failure ∷ heard) ≡ asks id failure ∷ []

-- The clock and the network of a node that stopped, had they gone on: moments for the turns that are left, and silence.
abbrev pub clock_on : Course → List ℕ → List ℕ
clock_on c clock = replicate (c.turns - length clock) 0

abbrev pub heard_on : Course → List Heard → List Heard
heard_on c heard = replicate (c.turns * length (receiving c.me) - length heard) silence

-- With these all turns have moments and answers, and no more fails.
pub record GoesOn (c : Course) (patience : ℕ) (clock : List ℕ) (heard : List Heard) : Type 0 where
  pub moments : length (clock ++ clock_on c clock) ≡ c.turns
  pub answers : length (heard ++ heard_on c heard) ≡ c.turns * length (receiving c.me)
  pub borne : failures (heard ++ heard_on c heard) ≤ patience

abbrev pub StoppedGoesOn : Type 0
StoppedGoesOn = (c : Course) (patience : ℕ) (clock : List ℕ) (heard : List Heard) → length clock ≤ c.turns →
    length heard ≤ c.turns * length (receiving c.me) → failures heard ≤ patience → GoesOn c patience clock heard

-- The plan's lines come in the order of their turns.
abbrev pub AreOrdered : ℕ → List (ℕ × ScriptEvent) → Type 0
AreOrdered earliest [] = Unit {0}
AreOrdered earliest (entry ∷ entries) = (earliest ≤ entry.0) × AreOrdered entry.0 entries

abbrev pub PlansAreOrdered : Type 0
PlansAreOrdered = (text : List ℕ) (plan : NodePlan) → node_plan text ≡ Ok plan → AreOrdered 0 plan.turns

-- Each of them is what an application asks for.
abbrev pub PlansAsk : Type 0
PlansAsk = (text : List ℕ) (plan : NodePlan) → node_plan text ≡ Ok plan →
    AllByRecursion (λ entry. is_request entry.1 ≡ true) plan.turns

-- The events of own members in a turn, among some of the plan's lines.
abbrev pub is_planned : List ℕ → ℕ → ℕ × ScriptEvent → Bool
is_planned me t entry = (entry.0 == t) && list_any (λ id. member_of entry.1 == id) me

abbrev pub planned_in : List ℕ → ℕ → List (ℕ × ScriptEvent) → List ScriptEvent
planned_in me t entries = map (λ entry. entry.1) (filter (is_planned me t) entries)

-- A turn's events in the whole plan are those in what follows any lines of earlier turns; from a line of a later turn
-- on there are none.
abbrev pub PlannedIsLeft : Type 0
PlannedIsLeft = (plan : NodePlan) (me : List ℕ) (t k : ℕ) → AllByRecursion (λ entry. entry.0 < t) (take k plan.turns) →
    planned_events plan me t ≡ planned_in me t (drop k plan.turns)

abbrev pub PlannedIsOver : Type 0
PlannedIsOver = (me : List ℕ) (t : ℕ) (entry : ℕ × ScriptEvent) (entries : List (ℕ × ScriptEvent)) → t < entry.0 →
    AreOrdered entry.0 entries →
    planned_in me t (entry ∷ entries) ≡ []

-- An event of the plan, if it is of an own member.
abbrev pub own_doing : List ℕ → ScriptEvent → List Doing
own_doing me event = if list_any (λ id. member_of event == id) me then does event ∷ [] else []
