-- A member of a group, and one step of it: one input, and the run of its layers that this begins.
use Rattle.std.specs.Prelude.{ℕ, ◌==◌, ◌&&◌, not, nat_lt, if◌then◌else◌, List, [], ◌∷◌, map, length, slice_get, Option}
use Rattle.std.specs.Prelude.{Some, None, option_map, Result, Ok, Err}
use Rattle.std.specs.List.{filter_map}
use Rattle.std.specs.Option.{option_map_or}
use Rattle.msg_core.specs.Chain.{Content, plain}
use Rattle.msg_core.specs.Parts.{longest_body}
use Rattle.msg_core.specs.declared.packet.Dest.{Dest}
use Rattle.msg_core.specs.declared.packet.Dest.TheVariants.{All, Rank}
use Rattle.msg_core.specs.declared.packet.Packet.{Packet}
use Rattle.msg_core.specs.declared.packet.Stray.{Stray}
use Rattle.msg_core.specs.declared.packet.View.{View}
use Rattle.layer_words.specs.declared.events.Dir.{Dir}
use Rattle.layer_words.specs.declared.events.Dir.TheVariants.{Up, Down}
use Rattle.layer_words.specs.declared.events.Kind.{Kind}
use Rattle.layer_words.specs.declared.events.Kind.TheVariants as kind
use Rattle.layer_mean.specs.declared.run.Event.{Event}
use Rattle.layer_mean.specs.Event.{event_of}
use Rattle.layer_mean.specs.Tree.{LayerTree}
use Rattle.layer_mean.specs.State.{State}
use Rattle.layer_mean.specs.Visit.{fresh}
use Rattle.layer_mean.specs.Queue.{Task, Work, run}
use Rattle.packet_mean.specs.Plan.{kind_of}
use Rattle.stack_mean.specs.Plan.{Plan}
use Rattle.packet_mean.specs.Received.{received}
use Rattle.packet_mean.specs.declared.here.Here.{Here}
use Rattle.msg_core.specs.View.{member_count, rank, next_view}

-- A member is in a view, with the states of its layers, lowest first, or it is out.
pub data Member : Type 0 where
  inside : (view : View) (states : List State) → Member
  out : Member

-- A member of this id that has just come into a view: its layers are fresh. If the view doesn't have its id, it is out.
abbrev pub opened_member : List LayerTree → View → ℕ → Member
opened_member stack view id = option_map_or
    (λ me. inside view (map (λ layer. fresh layer me (member_count view) view.ltime) stack)) (rank view id) out

-- What a member may be given: a cast or a send of its application, its wish to leave, a moment of its clock, or a
-- datagram.
pub data Input : Type 0 where
  cast : (body : List ℕ) → Input
  send : (to : ℕ) (body : List ℕ) → Input
  leave : Input
  tick : (moment : ℕ) → Input
  datagram : (bytes : List ℕ) → Input

-- Why an input is refused, in the order in which the reasons are judged.
pub data Refusal : Type 0 where
  is_out : Refusal
  too_big : Refusal
  is_stray : Stray → Refusal

-- What an input that isn't refused enters as: a datagram enters as the packet that it spells.
pub data Entered : Type 0 where
  app_cast : (body : List ℕ) → Entered
  app_send : (to : ℕ) (body : List ℕ) → Entered
  app_leave : Entered
  clock_tick : (moment : ℕ) → Entered
  from_peer : Packet → Entered

-- A body that isn't too long.
abbrev pub fitting : List ℕ → Entered → Result Entered Refusal
fitting body entered = if nat_lt longest_body (length body) then Err too_big else Ok entered

-- A datagram's packet, or the cause for which it is stray.
abbrev pub from_datagram : Result Packet Stray → Result Entered Refusal
from_datagram (Ok packet) = Ok (from_peer packet)
from_datagram (Err cause) = Err (is_stray cause)

-- What an input of a member in a view enters as, or why it is refused.
abbrev pub entered_input : List LayerTree → List Plan → Here → Input → Result Entered Refusal
entered_input stack plans here (cast body) = fitting body (app_cast body)
entered_input stack plans here (send to body) = fitting body (app_send to body)
entered_input stack plans here leave = Ok app_leave
entered_input stack plans here (tick moment) = Ok (clock_tick moment)
entered_input stack plans here (datagram bytes) = from_datagram (received stack plans here bytes)

-- An event of a kind at the highest place of the stack, going down, with these numbers and this message, if any.
abbrev pub from_above : List LayerTree → Kind → List ℕ → Option Content → Task Event
from_above stack what numbers message = record { at = length stack; dir = Down; event = event_of what numbers message }

-- An event of a kind at the lowest place, going up, with these numbers and this message, if any.
abbrev pub from_below : Kind → List ℕ → Option Content → Task Event
from_below what numbers message = record { at = 1; dir = Up; event = event_of what numbers message }

-- The task that a step begins with: an application's cast names the member's own rank, and its send the rank to which
-- it goes; a packet goes up as a cast or a send from its sender.
abbrev pub first_task : List LayerTree → (me : ℕ) → Entered → Task Event
first_task stack me (app_cast body) = from_above stack kind.Cast (me ∷ []) (Some (plain body))
first_task stack me (app_send to body) = from_above stack kind.Send (to ∷ []) (Some (plain body))
first_task stack me app_leave = from_above stack kind.Leave (0 ∷ []) None
first_task stack me (clock_tick moment) = from_below kind.Timer (moment ∷ []) None
first_task stack me (from_peer packet) = from_below (kind_of packet.dest) (packet.sender ∷ []) (Some packet.message)

-- What leaves a stack at its edges. At the upper one: a delivery with its peer, a block, an announced view. At the
-- lower one: a packet, a send that has no other member to go to, a request for a timer. Every other event is quiet.
pub data Output : Type 0 where
  deliver_cast : (peer : ℕ) (body : List ℕ) → Output
  deliver_send : (peer : ℕ) (body : List ℕ) → Output
  block : ℕ → Output
  announce : ℕ → Output
  packet : Packet → Output
  nowhere : Output
  timer : ℕ → Output
  quiet : Dir → Event → Output

-- The message of an event, and its bytes.
abbrev pub content : Event → Content
content e = option_map_or (λ m. m) e.message (plain [])

-- The packet that a member sends: it carries the view at the beginning of the step and the member's own rank.
abbrev pub packet_to : Here → Dest → Event → Packet
packet_to here dest e = record {
  group = here.group;
  stamp = here.stamp;
  view = here.view;
  sender = here.rank;
  dest = dest;
  message = content e;
}

-- Whether a rank is that of another member of the view.
abbrev pub is_other : Here → ℕ → Output → Output
is_other here peer sent = if nat_lt peer (member_count here.view) && not (peer == here.rank) then sent else nowhere

-- What an event of a kind is at the upper edge: a delivery, a block or an announced view, and any other is quiet.
abbrev pub above : Kind → Event → Output
above kind.Cast e = deliver_cast e.peer (content e).body
above kind.Send e = deliver_send e.peer (content e).body
above kind.Block e = block e.a
above kind.View e = announce e.a
above _ e = quiet Up e

-- What an event of a kind is at the lower edge: a packet to all or to another rank, a send that has nowhere to go, or a
-- request for a timer, and any other is quiet.
abbrev pub below : Here → Kind → Event → Output
below here kind.Cast e = packet (packet_to here All e)
below here kind.Send e = is_other here e.peer (packet (packet_to here (Rank e.peer) e))
below here kind.Timer e = timer e.a
below here _ e = quiet Down e

-- The output that an event is, by the edge at which it leaves: going up it leaves at the upper one.
abbrev pub output_of : Here → Dir × Event → Output
output_of here (Up, e) = above e.kind e
output_of here (Down, e) = below here e.kind e

-- The ranks that an output announces for a view, as the bits of a number, if it announces one.
abbrev pub announced_ranks : Output → Option ℕ
announced_ranks (announce ranks) = Some ranks
announced_ranks _ = None

-- The packet that an output sends, if it sends one.
abbrev pub packet_in : Output → Option Packet
packet_in (packet p) = Some p
packet_in _ = None

-- A step that was taken: what entered, the work of its run, its outputs in order, and the view that it installed, if
-- any.
pub record Step : Type 0 where
  pub entered : Entered
  pub work : Work
  pub outputs : List Output
  pub installs : Option Member

-- The member after a step: the first view that the run announced is installed once the run has ended, and later ones
-- aren't. A member that isn't in the new view, or whose count of views was at its end, is out.
abbrev pub installed_member : List LayerTree → View → ℕ → ℕ → Member
installed_member stack view id ranks = option_map_or (λ next. opened_member stack next id) (next_view view ranks) out

-- The most turns of a run: what an accepted stack's entries weigh at most.
abbrev pub most_turns : ℕ
most_turns = 65536

-- The step of a member in a view, from what it entered as.
abbrev pub step_from : List LayerTree → Here → ℕ → List State → Entered → Step
step_from stack here id states what =
    let work = (run most_turns stack states (first_task stack here.rank what)).world in
    let outputs = map (output_of here) work.outs in record {
      entered = what;
      work = work;
      outputs = outputs;
      installs = option_map (installed_member stack here.view id) (slice_get (filter_map announced_ranks outputs) 0);
    }

-- The member after a step that was taken.
abbrev pub member_following : View → Step → Member
member_following view s = option_map_or (λ m. m) s.installs (inside view s.work.states)
