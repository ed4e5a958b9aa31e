-- Each moment of a replay is a step of the definition.
use Rattle.std.proofs.Common.{◌≡◌, ℕ, List, [], ◌∷◌, Option, Some, None, refl, subst}
use Rattle.std.specs.Prelude.{Result, Ok, Err}
use Rattle.msg_core.specs.declared.packet.Packet.{Packet}
use Rattle.msg_core.specs.declared.packet.View.{View}
use Rattle.layer_mean.specs.Tree.{LayerTree}
use Rattle.layer_mean.specs.State.{State}
use Rattle.fault_mean.specs.FileFault.{file_fault}
use Rattle.packet_mean.specs.Spelling.{full_bytes, IsSpellable}
use Rattle.packet_mean.specs.declared.here.Here.{Here}
use Rattle.stack_mean.specs.Acceptance.{acceptance}
use Rattle.stack_mean.specs.Plans.{plans_of}
use Rattle.chain_laws.specs.Runs.{TypedStack}
use Rattle.chain_laws.proofs.Lists.{Where, each_or}
use Rattle.file_laws.proofs.Texts.{texts_are_typed}
use Rattle.script_mean.specs.Event.{member_of}
use Rattle.script_mean.specs.declared.event.ScriptEvent.{ScriptEvent}
use Rattle.script_mean.specs.declared.event.ScriptEvent.TheVariants as script
use Rattle.run_mean.specs.Member.{Member, inside, out, Input, cast, send, leave, tick, datagram, Refusal, Entered}
use Rattle.run_mean.specs.Member.{entered_input}
use Rattle.run_mean.specs.World.{World, Happening, first_world, member_at, packet_number, here_of, stepped_inside}
use Rattle.run_mean.specs.World.{stepped_of, step_happening, given_packet, happens}
use Rattle.run_mean.specs.Report.{Moment}
use Rattle.output_mean.specs.Judged.{Means}
use Rattle.output_mean.proofs.Judged.{own_stack}
use Rattle.member_laws.specs.Members.{IsChainedMember, IsInput, IsEntered, IsGivenEvent, IsChainedWorld}
use Rattle.member_laws.proofs.Members.{first_world_is_chained, events_keep_chains, given_enters, here_is, numbered}
use Rattle.member_laws.proofs.Numbered.{plans_are_numbered, inputs_are_in_range, worlds_are_chained}
use Rattle.replay_laws.specs.Standing.{IsStanding, IsStandingWorld}
use Rattle.replay_laws.specs.Steps.{IsMoment, MomentsAreSteps, ReplaysArePlayed}
use Rattle.replay_laws.proofs.Scripts.{scripts_are_given}
use Rattle.replay_laws.proofs.Standing.{first_world_is_standing, events_keep_standing, moments_are_standing}

-- a moment

module _ (stack : List LayerTree) (w : World) (typed : TypedStack stack) (world : IsChainedWorld stack w)
    (standing : IsStandingWorld w)
    (e : ScriptEvent) where
  abbrev moment : Happening → Moment
  moment h = record { before = w; event = e; happening = h }

  inside_is : (view : View) (states : List State) → member_at w (member_of e) ≡ inside view states →
      (r : Result Entered Refusal) →
      ((what : Entered) → r ≡ Ok what → IsEntered stack what) →
      IsMoment stack (moment (stepped_inside stack w (member_of e) view states r))
  inside_is view states at (Err refusal) enters = refl
  inside_is view states at (Ok what) enters =
      let chained = subst (IsChainedMember stack) at
      (each_or (IsChainedMember stack) w.members (member_of e) out world.members tt) in
      record {
        view = view;
        states = states;
        member = at;
        standing = subst (IsStanding (member_of e)) at (standing (member_of e));
        step = record {
          typed = typed;
          at = here_is stack w view (member_of e) world chained.view_is;
          states_are = chained.states_are;
          input = enters what refl;
        };
        is = refl;
        world = refl;
      }

  member_is : (input : Input) (m : Member) → member_at w (member_of e) ≡ m →
      ((here : Here) (what : Entered) → entered_input stack (plans_of stack) here input ≡ Ok what →
      IsEntered stack what) →
      IsMoment stack (moment (stepped_of stack (plans_of stack) w (member_of e) input m))
  member_is input out at enters = refl
  member_is input (inside view states) at enters = inside_is view states at
      (entered_input stack (plans_of stack) (here_of w view (member_of e)) input)
      (λ what. enters (here_of w view (member_of e)) what)

  stepped_is : (input : Input) →
      ((here : Here) (what : Entered) → entered_input stack (plans_of stack) here input ≡ Ok what →
      IsEntered stack what) →
      IsMoment stack (moment (step_happening stack (plans_of stack) w (member_of e) input))
  stepped_is input enters = member_is input (member_at w (member_of e)) refl enters

  input_is : (input : Input) → IsInput input →
      IsMoment stack (moment (step_happening stack (plans_of stack) w (member_of e) input))
  input_is input h = stepped_is input (λ here what. inputs_are_in_range stack here input what typed h)

  given_is : (p : Option Packet) → Where (IsSpellable stack) p →
      IsMoment stack (moment (given_packet stack (plans_of stack) w (member_of e) p))
  given_is None h = refl
  given_is (Some p) h = stepped_is (datagram (full_bytes p)) (given_enters stack (plans_of stack) p h)

event_is : (stack : List LayerTree) (w : World) (e : ScriptEvent) → TypedStack stack → IsGivenEvent e →
    IsChainedWorld stack w → IsStandingWorld w →
    IsMoment stack (record { before = w; event = e; happening = happens stack (plans_of stack) w e })
unfolding happens
event_is stack w (script.Cast id body) typed h world standing =
    input_is stack w typed world standing (script.Cast id body) (cast body) h
event_is stack w (script.Send id to body) typed h world standing =
    input_is stack w typed world standing (script.Send id to body) (send to body) h
event_is stack w (script.Leave id) typed h world standing = input_is stack w typed world standing (script.Leave id)
    leave tt
event_is stack w (script.Tick id now) typed h world standing =
    input_is stack w typed world standing (script.Tick id now) (tick now) h
event_is stack w (script.Give k id) typed h world standing =
    given_is stack w typed world standing (script.Give k id) (packet_number w k) (numbered stack w k world)
event_is stack w (script.Raw id bytes) typed h world standing =
    input_is stack w typed world standing (script.Raw id bytes) (datagram bytes) h
event_is stack w (script.Show id) typed h world standing = refl

pub moments_are_steps : MomentsAreSteps
moments_are_steps stack w [] typed h world standing = tt
moments_are_steps stack w (e ∷ events) typed h world standing = (
  event_is stack w e typed h.0 world standing,
  moments_are_steps stack (happens stack (plans_of stack) w e).world events typed h.1
      (events_keep_chains stack (plans_of stack) w e typed (plans_are_numbered stack typed) h.0 world)
      (events_keep_standing stack (plans_of stack) w e standing),
)

-- what a file means

accepts_and_typed : (text : List ℕ) (stack : List LayerTree) → Means text stack → (acceptance stack ≡ Ok stack) ×
    TypedStack stack
accepts_and_typed text stack m =
    let f = own_stack m.file stack (file_fault m.file) refl m.accepted in (
      subst (λ (s : List LayerTree). acceptance s ≡ Ok s) f.is f.accepts,
      subst TypedStack f.is (texts_are_typed text m.file m.is_file f.faultless),
    )

pub replays_are_played : ReplaysArePlayed
replays_are_played file script_text stack script h =
    let means = accepts_and_typed file stack h.means in
    let script_is = scripts_are_given script_text script h.spelled in
    let w = first_world stack script.group script.stamp script.members in
    let chained = first_world_is_chained stack script.group script.stamp script.members means.1 script_is.group
    script_is.stamp
    script_is.runs.most_members in
    let standing = first_world_is_standing stack script.group script.stamp script.members in
    record {
      accepts = means.0;
      typed = means.1;
      given = script_is;
      chained = worlds_are_chained stack w script.events means.1 script_is.events chained;
      standing = moments_are_standing stack (plans_of stack) w script.events standing;
      moments = moments_are_steps stack w script.events means.1 script_is.events chained standing;
    }
