-- What holds of each way in which an event may end.
use Rattle.std.proofs.Common.{◌≡◌, ℕ, List, Option, Some, None, refl}
use Rattle.std.specs.Prelude.{Result, Ok, Err}
use Rattle.msg_core.specs.declared.packet.Packet.{Packet}
use Rattle.msg_core.specs.declared.packet.View.{View}
use Rattle.layer_mean.specs.Tree.{LayerTree}
use Rattle.layer_mean.specs.State.{State}
use Rattle.packet_mean.specs.Spelling.{full_bytes}
use Rattle.script_mean.specs.Event.{member_of}
use Rattle.script_mean.specs.declared.event.ScriptEvent.{ScriptEvent}
use Rattle.script_mean.specs.declared.event.ScriptEvent.TheVariants as script
use Rattle.stack_mean.specs.Plan.{Plan}
use Rattle.run_mean.specs.Member.{Member, inside, out, Input, cast, send, leave, tick, datagram, Refusal, is_out}
use Rattle.run_mean.specs.Member.{Entered, entered_input, step_from}
use Rattle.run_mean.specs.World.{World, member_at, packet_number, taken, refused, absent, shown, Happening, only}
use Rattle.run_mean.specs.World.{here_of, world_after, stepped_inside, stepped_of, step_happening, given_packet}
use Rattle.run_mean.specs.World.{happens}

-- it holds where the world stays as it is, and after each step of a member that is in a view
pub record Each (stack : List LayerTree) (w : World) (id : ℕ) (Holds : Happening → Type 0) : Type 0 where
  pub refusing : (refusal : Refusal) → Holds (only w (refused refusal))
  pub missing : Holds (only w absent)
  pub showing : Holds (only w shown)
  pub stepping : (view : View) (states : List State) (what : Entered) → member_at w id ≡ inside view states →
      let s = step_from stack (here_of w view id) id states what in
      Holds (record { world = world_after w view id s; did = taken s })

module _ (stack : List LayerTree) (plans : List Plan) (w : World) (id : ℕ) (Holds : Happening → Type 0)
    (each : Each stack w id Holds) where
  of_entered : (view : View) (states : List State) (r : Result Entered Refusal) → member_at w id ≡ inside view states →
      Holds (stepped_inside stack w id view states r)
  of_entered view states (Err refusal) is = each.refusing refusal
  of_entered view states (Ok what) is = each.stepping view states what is

  of_member : (input : Input) (m : Member) → member_at w id ≡ m → Holds (stepped_of stack plans w id input m)
  of_member input out is = each.refusing is_out
  of_member input (inside view states) is = of_entered view states (entered_input stack plans (here_of w view id) input)
      is

  of_stepped : (input : Input) → Holds (step_happening stack plans w id input)
  of_stepped input = of_member input (member_at w id) refl

  of_given : (p : Option Packet) → Holds (given_packet stack plans w id p)
  of_given None = each.missing
  of_given (Some p) = of_stepped (datagram (full_bytes p))

pub each_happens : (stack : List LayerTree) (plans : List Plan) (w : World) (event : ScriptEvent)
    (Holds : Happening → Type 0) →
    Each stack w (member_of event) Holds → Holds (happens stack plans w event)
unfolding happens
each_happens stack plans w (script.Cast id body) Holds each = of_stepped stack plans w id Holds each (cast body)
each_happens stack plans w (script.Send id to body) Holds each = of_stepped stack plans w id Holds each (send to body)
each_happens stack plans w (script.Leave id) Holds each = of_stepped stack plans w id Holds each leave
each_happens stack plans w (script.Tick id moment) Holds each = of_stepped stack plans w id Holds each (tick moment)
each_happens stack plans w (script.Give k id) Holds each = of_given stack plans w id Holds each (packet_number w k)
each_happens stack plans w (script.Raw id bytes) Holds each = of_stepped stack plans w id Holds each (datagram bytes)
each_happens stack plans w (script.Show id) Holds each = each.showing
