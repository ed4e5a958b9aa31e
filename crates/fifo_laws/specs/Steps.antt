-- What the layer does in any state, as equations: a visit by a cast going down, one by a cast that comes up, and each
-- step of a member whose stack is this layer.
use Rattle.std.specs.Prelude.{◌≡◌, ℕ, ◌+◌, ◌==◌, ◌%◌, ◌^◌, ◌&&◌, not, nat_lt, Bool, true, false, List, [], ◌∷◌, Some}
use Rattle.std.specs.Prelude.{None}
use Rattle.std.specs.Prelude.{slice_set, slice_index}
use Rattle.msg_core.specs.Chain.{Content, plain, pushed, popped, first_of}
use Rattle.msg_core.specs.View.{member_count}
use Rattle.msg_core.specs.declared.packet.Dest.TheVariants.{All, Rank}
use Rattle.msg_core.specs.declared.packet.Packet.{Packet}
use Rattle.layer_words.specs.declared.events.Dir.{Dir}
use Rattle.layer_words.specs.declared.events.Dir.TheVariants.{Up, Down}
use Rattle.layer_words.specs.declared.events.Kind.TheVariants.{Send, Leave, Timer}
use Rattle.layer_mean.specs.declared.run.Event.{Event}
use Rattle.layer_mean.specs.Effect.{Decision, usual, unusual}
use Rattle.layer_mean.specs.Headers.{said_tag}
use Rattle.layer_mean.specs.State.{State}
use Rattle.layer_mean.specs.State as state
use Rattle.layer_mean.specs.Visit.{Visited, step, none_header}
use Rattle.packet_mean.specs.declared.here.Here.{Here}
use Rattle.run_mean.specs.Member.{Entered, app_cast, app_send, app_leave, clock_tick, from_peer, Output, deliver_cast}
use Rattle.run_mean.specs.Member.{deliver_send, packet, packet_to, nowhere, quiet, Step, step_from}
use Rattle.layer_rows.specs.Words.{cast, signal}
use Rattle.fifo_laws.specs.Layer.{fifo, stack}

-- The state of the layer in which its cells are k and e, at the member of rank `me` of n.
abbrev pub holding : (me n ltime k : ℕ) (e : List ℕ) → State
holding me n ltime k e =
    record { me = me; count = n; ltime = ltime; cells = state.numbers (k ∷ []) ∷ state.numbers e ∷ [] }

-- A message after the layer's header with this number.
abbrev pub numbered : ℕ → List ℕ → Content
numbered q body = record { headers = record { layer = 0; tag = 1; fields = q ∷ [] } ∷ []; body = body }

-- A cast that goes down gets the number k, and k is counted.
abbrev pub CastGoesDown : Type 0
CastGoesDown = (me n ltime k : ℕ) (e : List ℕ) (p : ℕ) (body : List ℕ) →
    step 0 fifo (holding me n ltime k e) Down (cast p (plain body)) ≡ record {
      state = holding me n ltime ((k + 1) % 2 ^ 32) e;
      sent = (Down, cast p (numbered k body)) ∷ [];
      decided = [];
    }

-- A cast with the number q that comes up from rank p is delivered where it is due, and the next one is due; else it is
-- dropped.
abbrev pub come_up : (me n ltime k : ℕ) (e : List ℕ) (p q : ℕ) (body : List ℕ) → Bool → Visited
come_up me n ltime k e p q body true = record {
  state = holding me n ltime k (slice_set e p ((q + 1) % 2 ^ 32));
  sent = (Up, cast p (plain body)) ∷ [];
  decided = usual ∷ [];
}
come_up me n ltime k e p q body false =
    record { state = holding me n ltime k e; sent = []; decided = unusual ∷ [] }

-- The visit of every cast that comes up is that one.
abbrev pub CastComesUp : Type 0
CastComesUp = (me n ltime k : ℕ) (e : List ℕ) (p q : ℕ) (body : List ℕ) →
    step 0 fifo (holding me n ltime k e) Up (cast p (numbered q body)) ≡
    come_up me n ltime k e p q body (q == slice_index e p)

-- A step of one visit that installs nothing.
abbrev pub went : Entered → State → List Output → List (Dir × Event) → List Decision → Step
went what s outputs outs decided = record {
  entered = what;
  work = record { states = s ∷ []; outs = outs; decided = decided; visits = 1 };
  outputs = outputs;
  installs = None;
}

-- The step of a cast of the application.
abbrev pub CastSteps : Type 0
CastSteps = (here : Here) (id me n ltime k : ℕ) (e : List ℕ) (body : List ℕ) →
    step_from stack here id (holding me n ltime k e ∷ []) (app_cast body) ≡
    went (app_cast body) (holding me n ltime ((k + 1) % 2 ^ 32) e)
    (packet (packet_to here All (cast here.rank (numbered k body))) ∷ [])
    ((Down, cast here.rank (numbered k body)) ∷ []) []

-- The packet of another member's cast, and the step that it makes, where it is due or not.
abbrev pub numbered_packet : Here → (sender q : ℕ) (body : List ℕ) → Packet
numbered_packet there sender q body = record {
  group = there.group;
  stamp = there.stamp;
  view = there.view;
  sender = sender;
  dest = All;
  message = numbered q body;
}

-- The step of another member's cast: it is delivered where it is due, and else dropped.
abbrev pub after_given : (p : Packet) (me n ltime k : ℕ) (e : List ℕ) (q : ℕ) (body : List ℕ) → Bool → Step
after_given p me n ltime k e q body true =
    went (from_peer p) (holding me n ltime k (slice_set e p.sender ((q + 1) % 2 ^ 32)))
    (deliver_cast p.sender body ∷ [])
    ((Up, cast p.sender (plain body)) ∷ []) (usual ∷ [])
after_given p me n ltime k e q body false =
    went (from_peer p) (holding me n ltime k e) [] [] (unusual ∷ [])

-- The step of every packet of another member's cast is that one.
abbrev pub GivenSteps : Type 0
GivenSteps = (here there : Here) (id me n ltime k : ℕ) (e : List ℕ) (sender q : ℕ) (body : List ℕ) →
    step_from stack here id (holding me n ltime k e ∷ []) (from_peer (numbered_packet there sender q body)) ≡
    after_given (numbered_packet there sender q body) me n ltime k e q body (q == slice_index e sender)

-- Sends pass the layer with the header `none`, and leave its state. One that arrives with another header is dropped.
abbrev pub send_event : ℕ → Content → Event
send_event peer m = record { kind = Send; peer = peer; a = 0; b = 0; message = Some m }

-- Whether a message has no header, or a first one with the tag 0, that of `none`.
abbrev pub is_bare : Content → Bool
is_bare m = said_tag (first_of m.headers) == 0

-- The step of a send that arrives: it is delivered where it is bare, and else dropped.
abbrev pub after_send_given : Packet → State → Bool → Step
after_send_given p s true = went (from_peer p) s (deliver_send p.sender p.message.body ∷ [])
    ((Up, send_event p.sender (popped p.message)) ∷ []) []
after_send_given p s false = went (from_peer p) s [] [] (unusual ∷ [])

-- The step of every packet to a rank is that one.
abbrev pub SendGivenSteps : Type 0
SendGivenSteps = (here : Here) (id : ℕ) (p : Packet) (r : ℕ) (s : State) →
    step_from stack here id (s ∷ []) (from_peer (record p { dest = Rank r }))
    ≡ after_send_given (record p { dest = Rank r }) s (is_bare p.message)

-- A send of the application, as it leaves the layer.
abbrev pub sent_down : ℕ → List ℕ → Event
sent_down to body = send_event to (pushed (none_header 0) (plain body))

-- Whether a send to this rank becomes a packet: there is such a member, and it is another one.
abbrev pub goes_out : Here → ℕ → Bool
goes_out here to = nat_lt to (member_count here.view) && not (to == here.rank)

-- The step of the application's send: a packet, or nowhere to go.
abbrev pub after_send : Here → ℕ → List ℕ → State → Bool → Step
after_send here to body s true = went (app_send to body) s (packet (packet_to here (Rank to) (sent_down to body)) ∷ [])
    ((Down, sent_down to body) ∷ []) []
after_send here to body s false = went (app_send to body) s (nowhere ∷ []) ((Down, sent_down to body) ∷ []) []

-- The step of every send of the application is that one.
abbrev pub SendSteps : Type 0
SendSteps = (here : Here) (id to : ℕ) (body : List ℕ) (s : State) →
    step_from stack here id (s ∷ []) (app_send to body) ≡ after_send here to body s (goes_out here to)

-- A wish to leave and a moment of the clock pass, and leave the state.
abbrev pub LeaveSteps : Type 0
LeaveSteps = (here : Here) (id : ℕ) (s : State) → step_from stack here id (s ∷ []) app_leave
    ≡ went app_leave s (quiet Down (signal Leave 0 0) ∷ []) ((Down, signal Leave 0 0) ∷ []) []

-- A moment of the clock goes up to the edge.
abbrev pub TickSteps : Type 0
TickSteps = (here : Here) (id moment : ℕ) (s : State) → step_from stack here id (s ∷ []) (clock_tick moment)
    ≡ went (clock_tick moment) s (quiet Up (signal Timer moment 0) ∷ []) ((Up, signal Timer moment 0) ∷ []) []

-- Every step of a member.
pub record StepsAre : Type 0 where
  pub cast : CastSteps
  pub given : GivenSteps
  pub send : SendSteps
  pub send_given : SendGivenSteps
  pub leave : LeaveSteps
  pub tick : TickSteps
