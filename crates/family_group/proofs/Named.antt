-- Events leave the number and the stamp of a group.
use Rattle.std.proofs.Common.{◌≡◌, ℕ, List, [], ◌∷◌, refl, ◌∙◌}
use Rattle.std.specs.Prelude.{Option, Some, None, Result, Ok, Err}
use Rattle.msg_core.specs.declared.packet.Packet.{Packet}
use Rattle.msg_core.specs.declared.packet.View.{View}
use Rattle.layer_mean.specs.State.{State}
use Rattle.layer_mean.specs.Tree.{LayerTree}
use Rattle.packet_mean.specs.Spelling.{full_bytes}
use Rattle.script_mean.specs.declared.event.ScriptEvent.{ScriptEvent}
use Rattle.script_mean.specs.declared.event.ScriptEvent.TheVariants as script
use Rattle.stack_mean.specs.Plan.{Plan}
use Rattle.stack_mean.specs.Plans.{plans_of}
use Rattle.run_mean.specs.Member.{Member, inside, out, Input, cast, send, leave, tick, datagram, Refusal, Entered}
use Rattle.run_mean.specs.Member.{entered_input}
use Rattle.run_mean.specs.World.{World, happens, here_of, member_at, packet_number, stepped_inside, stepped_of}
use Rattle.run_mean.specs.World.{given_packet}
use Rattle.stack_play.proofs.Moments.{following}
use Rattle.family_mean.specs.Family.{world_after}

-- Two worlds have one number and one stamp.
pub record AreAlike (w w' : World) : Type 0 where
  pub group : w'.group ≡ w.group
  pub stamp : w'.stamp ≡ w.stamp

alike_on : (w w' w'' : World) → AreAlike w w' → AreAlike w' w'' → AreAlike w w''
alike_on w w' w'' one two = record { group = two.group ∙ one.group; stamp = two.stamp ∙ one.stamp }

module _ (stack : List LayerTree) (plans : List Plan) where
  module _ (w : World) where
    inside_alike : (id : ℕ) (view : View) (states : List State) (r : Result Entered Refusal) →
        AreAlike w (stepped_inside stack w id view states r).world
    inside_alike id view states (Err refusal) = record { group = refl; stamp = refl }
    inside_alike id view states (Ok what) = record { group = refl; stamp = refl }

    step_alike : (id : ℕ) (input : Input) (m : Member) → AreAlike w (stepped_of stack plans w id input m).world
    step_alike id input out = record { group = refl; stamp = refl }
    step_alike id input (inside view states) =
        inside_alike id view states (entered_input stack plans (here_of w view id) input)

    given_alike : (id : ℕ) (p : Option Packet) → AreAlike w (given_packet stack plans w id p).world
    given_alike id None = record { group = refl; stamp = refl }
    given_alike id (Some p) = step_alike id (datagram (full_bytes p)) (member_at w id)

    pub event_alike : (e : ScriptEvent) → AreAlike w (happens stack plans w e).world
    unfolding happens
    event_alike (script.Cast id body) = step_alike id (cast body) (member_at w id)
    event_alike (script.Send id to body) = step_alike id (send to body) (member_at w id)
    event_alike (script.Leave id) = step_alike id leave (member_at w id)
    event_alike (script.Tick id moment) = step_alike id (tick moment) (member_at w id)
    event_alike (script.Give k id) = given_alike id (packet_number w k)
    event_alike (script.Raw id bytes) = step_alike id (datagram bytes) (member_at w id)
    event_alike (script.Show id) = record { group = refl; stamp = refl }

  pub events_alike : (w : World) (events : List ScriptEvent) → AreAlike w (following stack plans w events)
  events_alike w [] = record { group = refl; stamp = refl }
  events_alike w (e ∷ events) =
      alike_on w (happens stack plans w e).world (following stack plans (happens stack plans w e).world events)
      (event_alike w e) (events_alike (happens stack plans w e).world events)

pub after_alike : (stack : List LayerTree) (w : World) (events : List ScriptEvent) →
    AreAlike w (world_after stack w events)
after_alike stack w [] = record { group = refl; stamp = refl }
after_alike stack w (e ∷ events) =
    alike_on w (happens stack (plans_of stack) w e).world
    (world_after stack (happens stack (plans_of stack) w e).world events)
    (event_alike stack (plans_of stack) w e) (after_alike stack (happens stack (plans_of stack) w e).world events)
