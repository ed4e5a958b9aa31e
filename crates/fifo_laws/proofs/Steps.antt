-- Steps of a member whose stack is this layer, each from its one visit.
use Rattle.std.proofs.Common.{◌≡◌, ℕ, ◌==◌, Bool, true, false, List, [], ◌∷◌, map, refl, ap, ◌∙◌}
use Rattle.std.specs.Prelude.{slice_index, slice_get, option_map}
use Rattle.std.specs.List.{filter_map}
use Rattle.msg_core.specs.declared.packet.Dest.TheVariants.{Rank}
use Rattle.msg_core.specs.declared.packet.Packet.{Packet}
use Rattle.layer_mean.specs.declared.run.Event.{Event}
use Rattle.layer_mean.specs.Queue.{Work, Line, run, run_for, layers, taken_turn, visit_turn, unstarted_work}
use Rattle.layer_mean.specs.State.{State}
use Rattle.layer_mean.specs.Visit.{Visited, step}
use Rattle.packet_mean.specs.declared.here.Here.{Here}
use Rattle.run_mean.specs.Member.{Entered, app_cast, app_send, from_peer, Step, step_from, output_of, installed_member}
use Rattle.run_mean.specs.Member.{announced_ranks}
use Rattle.fifo_laws.specs.Layer.{stack}
use Rattle.fifo_laws.specs.Steps.{holding, come_up, CastSteps, numbered_packet, after_given, GivenSteps, is_bare}
use Rattle.fifo_laws.specs.Steps.{after_send_given, SendGivenSteps, goes_out, after_send, SendSteps, LeaveSteps}
use Rattle.fifo_laws.specs.Steps.{TickSteps, StepsAre}
use Rattle.fifo_laws.proofs.Visits.{cast_goes_down, cast_comes_up, send_up, send_comes_up}

-- the rest of a run after its first visit, which stays folded
rest_of : State → Visited → Line Work Event
rest_of s v = run_for 1 (layers stack) 65535 (taken_turn 1 [] (visit_turn 1 (unstarted_work (s ∷ [])) v))

-- a step, given what its first visit yields
step_by : Here → ℕ → State → Entered → Visited → Step
step_by here id s what v =
    let work = (rest_of s v).world in
    let outputs = map (output_of here) work.outs in record {
      entered = what;
      work = work;
      outputs = outputs;
      installs = option_map (installed_member stack here.view id) (slice_get (filter_map announced_ranks outputs) 0);
    }

cast_steps : CastSteps
unfolding run rest_of step_by
cast_steps here id me n ltime k e body =
    ap (step_by here id (holding me n ltime k e) (app_cast body)) (cast_goes_down me n ltime k e here.rank body)

given_by : (here there : Here) (id me n ltime k : ℕ) (e : List ℕ) (sender q : ℕ) (body : List ℕ) (b : Bool) →
    step_by here id (holding me n ltime k e) (from_peer (numbered_packet there sender q body))
    (come_up me n ltime k e sender q body b)
    ≡ after_given (numbered_packet there sender q body) me n ltime k e q body b
unfolding rest_of step_by
given_by here there id me n ltime k e sender q body true = refl
given_by here there id me n ltime k e sender q body false = refl

given_steps : GivenSteps
unfolding run rest_of step_by
given_steps here there id me n ltime k e sender q body =
    ap (step_by here id (holding me n ltime k e) (from_peer (numbered_packet there sender q body)))
    (cast_comes_up me n ltime k e sender q body)
    ∙ given_by here there id me n ltime k e sender q body (q == slice_index e sender)

send_given_by : (here : Here) (id : ℕ) (p : Packet) (r : ℕ) (s : State) (b : Bool) →
    step_by here id s (from_peer (record p { dest = Rank r })) (send_up s p.sender p.message b)
    ≡ after_send_given (record p { dest = Rank r }) s b
unfolding rest_of step_by
send_given_by here id p r s true = refl
send_given_by here id p r s false = refl

send_given_steps : SendGivenSteps
unfolding run rest_of step_by
send_given_steps here id p r s =
    ap (step_by here id s (from_peer (record p { dest = Rank r })))
    (send_comes_up s p.sender p.message.headers p.message.body (is_bare p.message) refl)
    ∙ send_given_by here id p r s (is_bare p.message)

send_by : (here : Here) (id to : ℕ) (body : List ℕ) (s : State) (b : Bool) → goes_out here to ≡ b →
    step_from stack here id (s ∷ []) (app_send to body) ≡ after_send here to body s b
unfolding run step
send_by here id to body s true is = rw is
send_by here id to body s false is = rw is

send_steps : SendSteps
send_steps here id to body s = send_by here id to body s (goes_out here to) refl

leave_steps : LeaveSteps
unfolding run step
leave_steps here id s = refl

tick_steps : TickSteps
unfolding run step
tick_steps here id moment s = refl

pub steps_are : StepsAre
steps_are = record {
  cast = cast_steps;
  given = given_steps;
  send = send_steps;
  send_given = send_given_steps;
  leave = leave_steps;
  tick = tick_steps;
}
