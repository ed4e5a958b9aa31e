-- What an event gives is its member's alone.
use Rattle.std.proofs.Common.{◌≡◌, ◌≢◌, ℕ, zero, suc, ◌<◌, ◌≤◌, List, [], ◌∷◌, ◌++◌, length, refl, sym, ap, subst, ◌∙◌}
use Rattle.std.proofs.Common.{arith}
use Rattle.std.proofs.Common.{Option, Some, None, Result, Ok, Err, get_or-set_other}
use Rattle.std.specs.Prelude.{slice_get, slice_set}
use Rattle.std.specs.List.{filter_map}
use Rattle.std.proofs.lemmas.List.{append-nil}
use Rattle.msg_core.specs.declared.packet.Packet.{Packet}
use Rattle.layer_mean.specs.Tree.{LayerTree}
use Rattle.layer_mean.specs.State.{State}
use Rattle.stack_mean.specs.Plan.{Plan}
use Rattle.packet_mean.specs.Spelling.{full_bytes}
use Rattle.msg_core.specs.declared.packet.View.{View}
use Rattle.run_mean.specs.Member.{Member, inside, out, Input, cast, send, leave, tick, datagram, Refusal, is_out}
use Rattle.run_mean.specs.Member.{Entered}
use Rattle.run_mean.specs.Member.{entered_input, step_from, member_following, packet_in}
use Rattle.run_mean.specs.World.{World, Happening, Did, taken, refused, absent, shown, happens, member_at}
use Rattle.run_mean.specs.World.{packet_number, here_of, stepped_of, stepped_inside, given_packet}
use Rattle.script_mean.specs.Event.{member_of}
use Rattle.script_mean.specs.declared.event.ScriptEvent.{ScriptEvent}
use Rattle.script_mean.specs.declared.event.ScriptEvent.TheVariants as script
use Rattle.swap_laws.specs.Swaps.{IsKnown, DifferInOrder, CanSwap}

-- What becomes of a member, and what it sends; and what is told.
record Change : Type 0 where
  member : Member
  packets : List Packet

record Outcome : Type 0 where
  did : Did
  change : Option Change

changed : World → ℕ → Option Change → World
changed w id None = w
changed w id (Some c) = record w { members = slice_set w.members id c.member; packets = w.packets ++ c.packets }

-- What an event asks: an input of a member, or nothing.
data Asked : Type 0 where
  asks : Input → Asked
  nothing : Did → Asked

given : Option Packet → Asked
given None = nothing absent
given (Some p) = asks (datagram (full_bytes p))

asked : World → ScriptEvent → Asked
asked w (script.Cast id body) = asks (cast body)
asked w (script.Send id to body) = asks (send to body)
asked w (script.Leave id) = asks leave
asked w (script.Tick id moment) = asks (tick moment)
asked w (script.Give k id) = given (packet_number w k)
asked w (script.Raw id bytes) = asks (datagram bytes)
asked w (script.Show id) = nothing shown

module _ (stack : List LayerTree) (plans : List Plan) where
  entered : World → View → ℕ → List State → Result Entered Refusal → Outcome
  entered w view id states (Err r) = record { did = refused r; change = None }
  entered w view id states (Ok what) =
      let s = step_from stack (here_of w view id) id states what in record {
        did = taken s;
        change = Some (record { member = member_following view s; packets = filter_map packet_in s.outputs });
      }

  -- What an input gives at a member.
  at_member : World → ℕ → Input → Member → Outcome
  at_member w id input out = record { did = refused is_out; change = None }
  at_member w id input (inside view states) =
      entered w view id states (entered_input stack plans (here_of w view id) input)

  outcome : World → ℕ → Member → Asked → Outcome
  outcome w id m (nothing did) = record { did = did; change = None }
  outcome w id m (asks input) = at_member w id input m

  happening : World → ℕ → Outcome → Happening
  happening w id o = record { world = changed w id o.change; did = o.did }

  inside_is : (w : World) (view : View) (id : ℕ) (states : List State) (r : Result Entered Refusal) →
      stepped_inside stack w id view states r ≡ happening w id (entered w view id states r)
  unfolding changed entered happening
  inside_is w view id states (Err r) = refl
  inside_is w view id states (Ok what) = refl

  step_is : (w : World) (id : ℕ) (input : Input) (m : Member) →
      stepped_of stack plans w id input m ≡ happening w id (at_member w id input m)
  unfolding changed at_member happening
  step_is w id input out = refl
  step_is w id input (inside view states) =
      inside_is w view id states (entered_input stack plans (here_of w view id) input)

  given_is : (w : World) (id : ℕ) (o : Option Packet) →
      given_packet stack plans w id o ≡ happening w id (outcome w id (member_at w id) (given o))
  unfolding changed given outcome happening
  given_is w id None = refl
  given_is w id (Some p) = step_is w id (datagram (full_bytes p)) (member_at w id)

  -- What an event gives, by what it asks.
  result_of : World → ScriptEvent → Outcome
  result_of w e = outcome w (member_of e) (member_at w (member_of e)) (asked w e)

  happens_is : (w : World) (e : ScriptEvent) → happens stack plans w e ≡ happening w (member_of e) (result_of w e)
  unfolding happens changed asked outcome happening result_of
  happens_is w (script.Cast id body) = step_is w id (cast body) (member_at w id)
  happens_is w (script.Send id to body) = step_is w id (send to body) (member_at w id)
  happens_is w (script.Leave id) = step_is w id leave (member_at w id)
  happens_is w (script.Tick id moment) = step_is w id (tick moment) (member_at w id)
  happens_is w (script.Give k id) = given_is w id (packet_number w k)
  happens_is w (script.Raw id bytes) = step_is w id (datagram bytes) (member_at w id)
  happens_is w (script.Show id) = refl

  -- It is the same in a world of the same group where another member changed.
  entered_same : (w : World) (id : ℕ) (c : Option Change) (view : View) (id' : ℕ) (states : List State)
      (r : Result Entered Refusal) → entered (changed w id c) view id' states r ≡ entered w view id' states r
  unfolding changed entered
  entered_same w id None view id' states r = refl
  entered_same w id (Some c) view id' states (Err r) = refl
  entered_same w id (Some c) view id' states (Ok what) = refl

  outcome_same : (w : World) (id : ℕ) (c : Option Change) (id' : ℕ) (m : Member) (a : Asked) →
      outcome (changed w id c) id' m a ≡ outcome w id' m a
  unfolding changed at_member outcome
  outcome_same w id None id' m a = refl
  outcome_same w id (Some c) id' m (nothing did) = refl
  outcome_same w id (Some c) id' out (asks input) = refl
  outcome_same w id (Some c) id' (inside view states) (asks input) =
      entered_same w id (Some c) view id' states (entered_input stack plans (here_of w view id') input)

other_member : (w : World) (id : ℕ) (c : Option Change) (id' : ℕ) → (id ≡ id' → ⊥) →
    member_at (changed w id c) id' ≡ member_at w id'
unfolding changed
other_member w id None id' other = refl
other_member w id (Some c) id' other =
    let ne : id' ≢ id = λ same. other (sym same) in rw get_or-set_other refl

get_front : (xs ys : List Packet) (k : ℕ) → k < length xs → slice_get (xs ++ ys) k ≡ slice_get xs k
get_front [] ys k lt = absurd (omega (arith, lt))
get_front (x ∷ xs) ys zero lt = refl
get_front (x ∷ xs) ys (suc k) lt = get_front xs ys k (omega (arith, lt))

number_same : (w : World) (id : ℕ) (c : Option Change) (k : ℕ) → k ≤ length w.packets →
    packet_number (changed w id c) k ≡ packet_number w k
unfolding changed
number_same w id None k known = refl
number_same w id (Some c) zero known = refl
number_same w id (Some c) (suc k) known = get_front w.packets c.packets k (omega (arith, known))

asked_same : (w : World) (id : ℕ) (c : Option Change) (e : ScriptEvent) → IsKnown w e →
    asked (changed w id c) e ≡ asked w e
unfolding asked
asked_same w id c (script.Cast m body) known = refl
asked_same w id c (script.Send m to body) known = refl
asked_same w id c (script.Leave m) known = refl
asked_same w id c (script.Tick m moment) known = refl
asked_same w id c (script.Give k m) known = ap given (number_same w id c k known)
asked_same w id c (script.Raw m bytes) known = refl
asked_same w id c (script.Show m) known = refl

-- Two members that change, in either order.
set_swap : (ms : List Member) (i j : ℕ) (a b : Member) → (i ≡ j → ⊥) →
    slice_set (slice_set ms i a) j b ≡ slice_set (slice_set ms j b) i a
set_swap [] i j a b other = refl
set_swap (m ∷ ms) zero zero a b other = absurd (other refl)
set_swap (m ∷ ms) zero (suc j) a b other = refl
set_swap (m ∷ ms) (suc i) zero a b other = refl
set_swap (m ∷ ms) (suc i) (suc j) a b other = ap (λ xs. m ∷ xs) (set_swap ms i j a b (λ same. other (ap suc same)))

worlds_swap : (w : World) (i j : ℕ) (c d : Option Change) → (i ≡ j → ⊥) →
    DifferInOrder w.packets (changed (changed w i c) j d) (changed (changed w j d) i c)
unfolding changed
worlds_swap w i j None None other = record {
  group = refl;
  stamp = refl;
  members = refl;
  first = [];
  second = [];
  one_is = sym (append-nil (w.packets ++ []) ∙ append-nil w.packets);
  other_is = sym (append-nil (w.packets ++ []) ∙ append-nil w.packets);
}
worlds_swap w i j (Some c) None other = record {
  group = refl;
  stamp = refl;
  members = refl;
  first = c.packets;
  second = [];
  one_is = sym (append-nil (w.packets ++ c.packets));
  other_is = ap (λ ps. ps ++ c.packets) (sym (append-nil w.packets));
}
worlds_swap w i j None (Some d) other = record {
  group = refl;
  stamp = refl;
  members = refl;
  first = [];
  second = d.packets;
  one_is = ap (λ ps. ps ++ d.packets) (sym (append-nil w.packets));
  other_is = sym (append-nil (w.packets ++ d.packets));
}
worlds_swap w i j (Some c) (Some d) other = record {
  group = refl;
  stamp = refl;
  members = set_swap w.members i j c.member d.member other;
  first = c.packets;
  second = d.packets;
  one_is = refl;
  other_is = refl;
}

module _ (stack : List LayerTree) (plans : List Plan) (w : World) where
  -- An event after another of another member.
  result_same : (id : ℕ) (c : Option Change) (e : ScriptEvent) → (id ≡ member_of e → ⊥) → IsKnown w e →
      result_of stack plans (changed w id c) e ≡ result_of stack plans w e
  unfolding result_of
  result_same id c e other known =
      ap (outcome stack plans (changed w id c) (member_of e) (member_at (changed w id c) (member_of e)))
      (asked_same w id c e known)
      ∙ ap (λ m. outcome stack plans (changed w id c) (member_of e) m (asked w e))
      (other_member w id c (member_of e) other)
      ∙ outcome_same stack plans w id c (member_of e) (member_at w (member_of e)) (asked w e)

  after : (id : ℕ) (c : Option Change) (e : ScriptEvent) → (id ≡ member_of e → ⊥) → IsKnown w e →
      happens stack plans (changed w id c) e ≡ happening stack plans (changed w id c) (member_of e)
      (result_of stack plans w e)
  after id c e other known =
      happens_is stack plans (changed w id c) e
      ∙ ap (happening stack plans (changed w id c) (member_of e)) (result_same id c e other known)

  world_is : (e : ScriptEvent) → (happens stack plans w e).world ≡
      changed w (member_of e) (result_of stack plans w e).change
  unfolding happening
  world_is e = ap (λ h. h.world) (happens_is stack plans w e)

  did_is : (e : ScriptEvent) → (happens stack plans w e).did ≡ (result_of stack plans w e).did
  unfolding happening
  did_is e = ap (λ h. h.did) (happens_is stack plans w e)

  second_is : (e e' : ScriptEvent) → (member_of e ≡ member_of e' → ⊥) → IsKnown w e' →
      happens stack plans (happens stack plans w e).world e'
      ≡ happening stack plans (changed w (member_of e) (result_of stack plans w e).change) (member_of e')
      (result_of stack plans w e')
  second_is e e' other known =
      ap (λ v. happens stack plans v e') (world_is e)
      ∙ after (member_of e) (result_of stack plans w e).change e' other known

  second_did : (e e' : ScriptEvent) → (member_of e ≡ member_of e' → ⊥) → IsKnown w e' →
      (happens stack plans (happens stack plans w e).world e').did ≡ (happens stack plans w e').did
  unfolding happening
  second_did e e' other known = ap (λ h. h.did) (second_is e e' other known) ∙ sym (did_is e')

  second_world : (e e' : ScriptEvent) → (member_of e ≡ member_of e' → ⊥) → IsKnown w e' →
      (happens stack plans (happens stack plans w e).world e').world
      ≡ changed (changed w (member_of e) (result_of stack plans w e).change) (member_of e')
      (result_of stack plans w e').change
  unfolding happening
  second_world e e' other known = ap (λ h. h.world) (second_is e e' other known)

  pub can_swap : (e e' : ScriptEvent) → (member_of e ≡ member_of e' → ⊥) → IsKnown w e → IsKnown w e' →
      CanSwap stack plans w e e'
  can_swap e e' other known known' =
      let back : member_of e' ≡ member_of e → ⊥ = λ same. other (sym same) in record {
        second_gives = second_did e e' other known';
        first_gives = second_did e' e back known;
        worlds =
            subst (λ v. DifferInOrder w.packets v (happens stack plans (happens stack plans w e').world e).world)
            (sym (second_world e e' other known'))
            (subst (DifferInOrder w.packets
            (changed (changed w (member_of e) (result_of stack plans w e).change) (member_of e')
            (result_of stack plans w e').change))
            (sym (second_world e' e back known))
            (worlds_swap w (member_of e) (member_of e') (result_of stack plans w e).change
            (result_of stack plans w e').change other));
      }
