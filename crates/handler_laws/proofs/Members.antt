-- The states of a member are those that each of its inputs is for.
use Rattle.std.proofs.Common.{◌≡◌, ◌∙◌, ℕ, List, [], ◌∷◌, length, Option, refl, sym, arith}
use Rattle.msg_core.specs.View.{member_count}
use Rattle.msg_core.specs.declared.packet.View.{View}
use Rattle.layer_mean.specs.State.{State}
use Rattle.layer_mean.specs.Tree.{LayerTree}
use Rattle.packet_mean.specs.declared.here.Here.{Here}
use Rattle.run_mean.specs.Member.{Entered, app_cast, app_send, app_leave, clock_tick, from_peer, first_task, most_turns}
use Rattle.trace_mean.specs.Worth.{Input}
use Rattle.trace_laws.specs.Members.{AreOf}
use Rattle.trace_laws.proofs.Members.{runs_keep_members}
use Rattle.handler_laws.specs.Steps.{input_of}
use Rattle.handler_laws.specs.Members.{AreOfMember, FreshAreOfMember, StepsKeepMembers, StatesAreOf}

-- an input is for a member of a rank in a view
record IsFor (rank : ℕ) (view : View) (i : Input) : Type 0 where
  me : i.me ≡ rank
  count : i.count ≡ member_count view
  ltime : i.ltime ≡ view.ltime

for_member : (here : Here) (fields : List (Option ℕ)) (what : Entered) →
    IsFor here.rank here.view (input_of here fields what)
for_member here fields (app_cast body) = record { me = refl; count = refl; ltime = refl }
for_member here fields (app_send to body) = record { me = refl; count = refl; ltime = refl }
for_member here fields app_leave = record { me = refl; count = refl; ltime = refl }
for_member here fields (clock_tick moment) = record { me = refl; count = refl; ltime = refl }
for_member here fields (from_peer p) = record { me = refl; count = refl; ltime = refl }

module _ (rank : ℕ) (view : View) (i : Input) (is : IsFor rank view i) where
  to_input : (stack : List LayerTree) (states : List State) → length states ≡ length stack →
      AreOfMember rank view states → AreOf i stack states
  to_input [] [] long h = tt
  to_input [] (s ∷ states) long h = absurd (omega (arith, long))
  to_input (layer ∷ stack) [] long h = absurd (omega (arith, long))
  to_input (layer ∷ stack) (s ∷ states) long h = (
    record { me = h.0.me ∙ sym is.me; count = h.0.count ∙ sym is.count; ltime = h.0.ltime ∙ sym is.ltime },
    to_input stack states (omega (arith, long)) h.1,
  )

  from_input : (stack : List LayerTree) (states : List State) → AreOf i stack states → AreOfMember rank view states
  from_input [] [] h = tt
  from_input [] (s ∷ states) h = absurd h
  from_input (layer ∷ stack) [] h = absurd h
  from_input (layer ∷ stack) (s ∷ states) h = (
    record { me = h.0.me ∙ is.me; count = h.0.count ∙ is.count; ltime = h.0.ltime ∙ is.ltime },
    from_input stack states h.1,
  )

pub fresh_are_of_member : FreshAreOfMember
fresh_are_of_member [] rank view = tt
fresh_are_of_member (layer ∷ stack) rank view =
    (record { me = refl; count = refl; ltime = refl }, fresh_are_of_member stack rank view)

pub states_are_of : StatesAreOf
states_are_of stack here fields what states chained h =
    to_input here.rank here.view (input_of here fields what) (for_member here fields what) stack states chained.count h

pub steps_keep_members : StepsKeepMembers
steps_keep_members stack here id states what chained h =
    let i : Input = input_of here [] what in
    from_input here.rank here.view i (for_member here [] what) stack _
    (runs_keep_members i stack states most_turns (first_task stack here.rank what)
    (states_are_of stack here [] what states chained h))
