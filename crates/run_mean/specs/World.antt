-- A group and every packet ever sent in it, and what one event of a script gives. A lost packet is one that is never
-- given.
use Rattle.std.specs.Prelude.{ℕ, zero, suc, List, [], ◌++◌, map, slice_get, slice_index_or, slice_set, Option, Some}
use Rattle.std.specs.Prelude.{None, Result, Ok, Err}
use Rattle.std.specs.List.{filter_map, range_with_len}
use Rattle.std.specs.Option.{option_map_or}
use Rattle.msg_core.specs.declared.packet.Packet.{Packet}
use Rattle.msg_core.specs.declared.packet.View.{View}
use Rattle.layer_mean.specs.Tree.{LayerTree}
use Rattle.layer_mean.specs.State.{State}
use Rattle.script_mean.specs.declared.event.ScriptEvent.{ScriptEvent}
use Rattle.script_mean.specs.declared.event.ScriptEvent.TheVariants as script
use Rattle.stack_mean.specs.Plan.{Plan}
use Rattle.packet_mean.specs.Spelling.{full_bytes}
use Rattle.packet_mean.specs.declared.here.Here.{Here}
use Rattle.msg_core.specs.View.{rank, first_view}
use Rattle.run_mean.specs.Member.{Member, inside, out, opened_member, Input, cast, send, leave, tick, datagram, Refusal}
use Rattle.run_mean.specs.Member.{is_out, Entered, entered_input, Step, step_from, member_following, packet_in}

-- A group at a moment: its name and its stamp, its members by id, and every packet ever sent, in the order of output.
-- The first packet has the number 1.
pub record World : Type 0 where
  pub group : ℕ
  pub stamp : ℕ
  pub members : List Member
  pub packets : List Packet

-- The world in which a run begins: the members 0 to n - 1 in the first view.
abbrev pub first_world : List LayerTree → (group stamp n : ℕ) → World
first_world stack group stamp n = record {
  group = group;
  stamp = stamp;
  members = map (opened_member stack (first_view n)) (range_with_len 0 n);
  packets = [];
}

-- The member of this id; an id that no member has is out.
abbrev pub member_at : World → ℕ → Member
member_at w id = slice_index_or w.members id out

-- Packet number k, if there is one.
abbrev pub packet_number : World → ℕ → Option Packet
packet_number w zero = None
packet_number w (suc k) = slice_get w.packets k

-- What an event gave: a step that was taken, a refusal, that a packet doesn't exist, or a member that is shown.
pub data Did : Type 0 where
  taken : Step → Did
  refused : Refusal → Did
  absent : Did
  shown : Did

-- What comes of an event: the world after it, and what it gave.
pub record Happening : Type 0 where
  pub world : World
  pub did : Did

-- An event that gave this, and after which the world is as it was.
abbrev pub only : World → Did → Happening
only w did = record { world = w; did = did }

-- Where a member of a view stands when a datagram comes.
abbrev pub here_of : World → View → ℕ → Here
here_of w view id =
    record { group = w.group; stamp = w.stamp; view = view; rank = option_map_or (λ r. r) (rank view id) 0 }

-- The world after a step that a member took: the packets of the step come after all earlier ones.
abbrev pub world_after : World → View → ℕ → Step → World
world_after w view id s = record w {
  members = slice_set w.members id (member_following view s);
  packets = w.packets ++ filter_map packet_in s.outputs;
}

-- A step of a member that is in a view.
abbrev pub stepped_inside : List LayerTree → World → ℕ → View → List State → Result Entered Refusal → Happening
stepped_inside stack w id view states (Err refusal) = only w (refused refusal)
stepped_inside stack w id view states (Ok what) =
    let s = step_from stack (here_of w view id) id states what in
    record { world = world_after w view id s; did = taken s }

-- A step of a member; a member that is out refuses every input.
abbrev pub stepped_of : List LayerTree → List Plan → World → ℕ → Input → Member → Happening
stepped_of stack plans w id input out = only w (refused is_out)
stepped_of stack plans w id input (inside view states) =
    stepped_inside stack w id view states (entered_input stack plans (here_of w view id) input)

-- What an input gives at the member of this id.
abbrev pub step_happening : List LayerTree → List Plan → World → ℕ → Input → Happening
step_happening stack plans w id input = stepped_of stack plans w id input (member_at w id)

-- A packet that is given to a member comes as its full spelling.
abbrev pub given_packet : List LayerTree → List Plan → World → ℕ → Option Packet → Happening
given_packet stack plans w id None = only w absent
given_packet stack plans w id (Some p) = step_happening stack plans w id (datagram (full_bytes p))

-- What an event of a script gives in a world.
unfoldable pub happens : List LayerTree → List Plan → World → ScriptEvent → Happening
happens stack plans w (script.Cast id body) = step_happening stack plans w id (cast body)
happens stack plans w (script.Send id to body) = step_happening stack plans w id (send to body)
happens stack plans w (script.Leave id) = step_happening stack plans w id leave
happens stack plans w (script.Tick id moment) = step_happening stack plans w id (tick moment)
happens stack plans w (script.Give k id) = given_packet stack plans w id (packet_number w k)
happens stack plans w (script.Raw id bytes) = step_happening stack plans w id (datagram bytes)
happens stack plans w (script.Show id) = only w shown
