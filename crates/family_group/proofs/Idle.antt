-- An event of a member that the group doesn't have changes nothing.
use Rattle.std.proofs.Common.{◌≡◌, ℕ, ◌≤◌, List, length, refl, sym, subst, Option, Some, None}
use Rattle.std.proofs.lemmas.List.{get_or_past}
use Rattle.msg_core.specs.declared.packet.Packet.{Packet}
use Rattle.layer_mean.specs.Tree.{LayerTree}
use Rattle.packet_mean.specs.Spelling.{full_bytes}
use Rattle.script_mean.specs.Event.{member_of}
use Rattle.script_mean.specs.declared.event.ScriptEvent.{ScriptEvent}
use Rattle.script_mean.specs.declared.event.ScriptEvent.TheVariants as script
use Rattle.stack_mean.specs.Plan.{Plan}
use Rattle.run_mean.specs.Member.{Member, inside, out, Input, cast, send, leave, tick, datagram}
use Rattle.run_mean.specs.World.{World, Happening, happens, member_at, packet_number, stepped_of, given_packet}
use Rattle.family_mean.specs.Family.{IsTaken}

-- What happened leaves the world, and is no step that was taken.
pub record IsIdle (w : World) (h : Happening) : Type 0 where
  pub world : h.world ≡ w
  pub taken : IsTaken h.did → ⊥

module _ (stack : List LayerTree) (plans : List Plan) (w : World) where
  -- a member that is out, or that isn't there, refuses
  out_idle : (id : ℕ) (input : Input) (m : Member) → m ≡ out → IsIdle w (stepped_of stack plans w id input m)
  out_idle id input m is =
      subst (λ m. IsIdle w (stepped_of stack plans w id input m)) (sym is) (record { world = refl; taken = λ x. x })

  none_idle : (id : ℕ) (input : Input) → length w.members ≤ id →
      IsIdle w (stepped_of stack plans w id input (member_at w id))
  none_idle id input le = out_idle id input (member_at w id) (get_or_past w.members id out le)

  given_idle : (id : ℕ) (p : Option Packet) → length w.members ≤ id → IsIdle w (given_packet stack plans w id p)
  given_idle id None le = record { world = refl; taken = λ x. x }
  given_idle id (Some p) le = none_idle id (datagram (full_bytes p)) le

  pub event_idle : (e : ScriptEvent) → length w.members ≤ member_of e → IsIdle w (happens stack plans w e)
  unfolding happens
  event_idle (script.Cast id body) le = none_idle id (cast body) le
  event_idle (script.Send id to body) le = none_idle id (send to body) le
  event_idle (script.Leave id) le = none_idle id leave le
  event_idle (script.Tick id moment) le = none_idle id (tick moment) le
  event_idle (script.Give k id) le = given_idle id (packet_number w k) le
  event_idle (script.Raw id bytes) le = none_idle id (datagram bytes) le
  event_idle (script.Show id) le = record { world = refl; taken = λ x. x }
