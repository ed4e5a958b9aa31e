-- What a member does whose stack is `bottom; local; total` of the library, in any state: the work of each run, layer by
-- layer as the texts say.
use Rattle.std.specs.Prelude.{◌≡◌, ℕ, ◌+◌, ◌==◌, ◌%◌, ◌^◌, Bool, true, false, List, [], ◌∷◌, Some}
use Rattle.msg_core.specs.Chain.{Content, plain}
use Rattle.msg_core.specs.declared.message.Header.{Header}
use Rattle.layer_words.specs.declared.events.Dir.{Dir}
use Rattle.layer_words.specs.declared.events.Dir.TheVariants.{Up, Down}
use Rattle.layer_words.specs.declared.events.Kind.TheVariants.{Send, Leave, Timer}
use Rattle.layer_mean.specs.declared.run.Event.{Event}
use Rattle.layer_mean.specs.Queue.{Task, run}
use Rattle.layer_mean.specs.State.{State}
use Rattle.layer_mean.specs.State as state
use Rattle.layer_rows.specs.Words.{cast, signal}
use Rattle.library_rows.specs.OrderStack.{stack}

-- The states of the three layers: `bottom` and `local` have no cells; `total` has `out`, the number of the next cast
-- that rank 0 orders, and `next`, the number of the cast that is due.
abbrev pub plain_state : (me n ltime : ℕ) → State
plain_state me n ltime = record { me = me; count = n; ltime = ltime; cells = [] }

-- The state of `total`.
abbrev pub counting : (me n ltime out next : ℕ) → State
counting me n ltime out next = record {
  me = me;
  count = n;
  ltime = ltime;
  cells = state.numbers (out ∷ []) ∷ state.numbers (next ∷ []) ∷ [];
}

-- The states of the three layers, the lowest first.
abbrev pub holding : (me n ltime out next : ℕ) → List State
holding me n ltime out next =
    plain_state me n ltime ∷ plain_state me n ltime ∷ counting me n ltime out next ∷ []

-- The headers of the three layers, the lowest first.
abbrev pub header : (layer tag : ℕ) → List ℕ → Header
header layer tag fields = record { layer = layer; tag = tag; fields = fields }

-- A body after these headers.
abbrev pub after : List Header → List ℕ → Content
after headers body = record { headers = headers; body = body }

-- The header of `bottom`, whose field is 1.
abbrev pub net : Header
net = header 0 1 (1 ∷ [])

-- The header `none` of `local`.
abbrev pub none_of_local : Header
none_of_local = header 1 0 []

-- A cast in its place: who cast it, and its number in the order.
abbrev pub num : (origin seq : ℕ) → Header
num origin seq = header 2 1 (origin ∷ seq ∷ [])

-- A body that rank 0 is asked to order, and one that is sent alone.
abbrev pub ask : Header
ask = header 2 2 []

-- The header `none` of `total`, of what is sent alone.
abbrev pub none_of_total : Header
none_of_total = header 2 0 []

-- What a packet carries: all three headers, and the body.
abbrev pub ordered : (origin seq : ℕ) → List ℕ → Content
ordered origin seq body = after (net ∷ none_of_local ∷ num origin seq ∷ []) body

-- What rank 0 is asked to order.
abbrev pub asked : List ℕ → Content
asked body = after (net ∷ none_of_local ∷ ask ∷ []) body

-- What is sent to one member alone.
abbrev pub sent_alone : List ℕ → Content
sent_alone body = after (net ∷ none_of_local ∷ none_of_total ∷ []) body

-- A send to a rank, or from it.
abbrev pub send : ℕ → Content → Event
send peer m = record { kind = Send; peer = peer; a = 0; b = 0; message = Some m }

-- A task at the highest and at the lowest place.
abbrev pub from_above : Event → Task Event
from_above event = record { at = 3; dir = Down; event = event }

-- A task at the lowest place, on its way up.
abbrev pub from_below : Event → Task Event
from_below event = record { at = 1; dir = Up; event = event }

-- A run from these states and this task ends in these states, and puts these events out.
pub record Runs (before : List State) (task : Task Event) (states : List State) (outs : List (Dir × Event)) : Type 0
  where
    pub states_are : (run 65536 stack before task).world.states ≡ states
    pub outs_are : (run 65536 stack before task).world.outs ≡ outs

-- At rank 0 a cast of the application gets the next number of the order, and is delivered at home as the one that is
-- due.
abbrev pub FirstCasts : Type 0
FirstCasts = (me n ltime out next : ℕ) (body : List ℕ) → (me == 0) ≡ true → out ≡ next →
    Runs (holding me n ltime out next) (from_above (cast me (plain body)))
    (holding me n ltime ((out + 1) % 2 ^ 32) ((next + 1) % 2 ^ 32))
    ((Down, cast me (ordered me out body)) ∷ (Up, cast me (plain body)) ∷ [])

-- At any other rank it goes to rank 0, which is asked to order it.
abbrev pub OthersCast : Type 0
OthersCast = (me n ltime out next : ℕ) (body : List ℕ) → (me == 0) ≡ false →
    Runs (holding me n ltime out next) (from_above (cast me (plain body))) (holding me n ltime out next)
    ((Down, send 0 (asked body)) ∷ [])

-- Rank 0 orders what it is asked to, and delivers it at home.
abbrev pub FirstIsAsked : Type 0
FirstIsAsked = (me n ltime out next peer : ℕ) (body : List ℕ) → (me == 0) ≡ true → out ≡ next →
    Runs (holding me n ltime out next) (from_below (send peer (asked body)))
    (holding me n ltime ((out + 1) % 2 ^ 32) ((next + 1) % 2 ^ 32))
    ((Down, cast me (ordered peer out body)) ∷ (Up, cast peer (plain body)) ∷ [])

-- Any other rank that is asked does nothing.
abbrev pub OthersAreAsked : Type 0
OthersAreAsked = (me n ltime out next peer : ℕ) (body : List ℕ) → (me == 0) ≡ false →
    Runs (holding me n ltime out next) (from_below (send peer (asked body))) (holding me n ltime out next) []

-- A cast in its place is delivered as its origin's where it is due, and then the next one is due; else it is dropped.
abbrev pub due_states : (me n ltime out next : ℕ) → Bool → List State
due_states me n ltime out next true = holding me n ltime out ((next + 1) % 2 ^ 32)
due_states me n ltime out next false = holding me n ltime out next

-- What a cast in its place puts out: a delivery where it is due.
abbrev pub due_outs : (origin : ℕ) → List ℕ → Bool → List (Dir × Event)
due_outs origin body true = (Up, cast origin (plain body)) ∷ []
due_outs origin body false = []

-- The run of every cast that arrives in its place.
abbrev pub OrderedComes : Type 0
OrderedComes = (me n ltime out next peer origin seq : ℕ) (body : List ℕ) →
    Runs (holding me n ltime out next) (from_below (cast peer (ordered origin seq body)))
    (due_states me n ltime out next (seq == next)) (due_outs origin body (seq == next))

-- What is sent alone passes, going down and coming up; so do a wish to leave and a moment of the clock.
abbrev pub SendsPass : Type 0
SendsPass = (me n ltime out next to : ℕ) (body : List ℕ) →
    Runs (holding me n ltime out next) (from_above (send to (plain body))) (holding me n ltime out next)
    ((Down, send to (sent_alone body)) ∷ [])

-- What was sent alone is delivered as its sender's.
abbrev pub SentComes : Type 0
SentComes = (me n ltime out next peer : ℕ) (body : List ℕ) →
    Runs (holding me n ltime out next) (from_below (send peer (sent_alone body))) (holding me n ltime out next)
    ((Up, send peer (plain body)) ∷ [])

-- A wish to leave goes down to the edge.
abbrev pub LeavePasses : Type 0
LeavePasses = (me n ltime out next : ℕ) →
    Runs (holding me n ltime out next) (from_above (signal Leave 0 0)) (holding me n ltime out next)
    ((Down, signal Leave 0 0) ∷ [])

-- A moment of the clock goes up to the edge.
abbrev pub TickPasses : Type 0
TickPasses = (me n ltime out next moment : ℕ) →
    Runs (holding me n ltime out next) (from_below (signal Timer moment 0)) (holding me n ltime out next)
    ((Up, signal Timer moment 0) ∷ [])

-- Every run of a member.
pub record RunsAre : Type 0 where
  pub first_casts : FirstCasts
  pub others_cast : OthersCast
  pub first_is_asked : FirstIsAsked
  pub others_are_asked : OthersAreAsked
  pub ordered_comes : OrderedComes
  pub sends_pass : SendsPass
  pub sent_comes : SentComes
  pub leave_passes : LeavePasses
  pub tick_passes : TickPasses
