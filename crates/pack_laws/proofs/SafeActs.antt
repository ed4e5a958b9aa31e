-- That a trace is followed safely is told by its symbolic list.
use Rattle.std.proofs.Common.{◌≡◌, Bool, true, false, if◌then◌else◌, List, [], ◌∷◌, map, is_some, option_map, sym, ap}
use Rattle.std.proofs.Common.{subst}
use Rattle.std.proofs.Math.Path.{transport}
use Rattle.layer_mean.specs.Event.{event_of}
use Rattle.layer_mean.specs.State.{State, Contents, row_at}
use Rattle.layer_mean.specs.Tree.{LayerTree}
use Rattle.layer_mean.specs.Value.{is_true}
use Rattle.packet_mean.specs.ChainedState.{IsFrom, IsEvent}
use Rattle.chain_laws.specs.Runs.{edge_place}
use Rattle.trace_mean.specs.Trace.{Operation, bind, note, check, set, set_square, push, take, output}
use Rattle.trace_mean.specs.Worth.{Input, state_of, number_of}
use Rattle.trace_mean.specs.Follow.{Trail, on, stopped_at, does, before}
use Rattle.trace_laws.specs.Safe.{PushIsSafe, SafeTrace}
use Rattle.trace_laws.proofs.Goes.{safe_stopped}
use Rattle.symbol_mean.specs.Value as value
use Rattle.symbol_mean.specs.Value.{Seen, Act}
use Rattle.symbol_mean.specs.Symbolic.{Values, no_values, number_value, message_value, with_bound, with_noted}
use Rattle.symbol_mean.specs.Symbolic.{with_taken, with_written, acts_of, symbolic}
use Rattle.pack_laws.specs.SafeActs.{SameActsAreSafe}
use Rattle.pack_laws.proofs.Course.{Course, worth, sent_of, acts}
use Rattle.pack_laws.proofs.Stands.{Stands, stands_bound, stands_noted, stands_taken, stands_written}
use Rattle.pack_laws.proofs.SameActs.{course, checked, worth_is, set_is, set_square_is, row_is, push_is, take_is}
use Rattle.pack_laws.proofs.SameActs.{event_is, output_is, first_cells, first_stands}

-- each of two propositions yields the other
record Both (P Q : Type 0) : Type 0 where
  there : P → Q
  back : Q → P

alike : {P Q : Type 0} → P ≡ Q → Both P Q
alike is = record { there = transport is; back = transport (sym is) }

both_then : {P Q R : Type 0} → Both P Q → Both Q R → Both P R
both_then a b = record { there = λ h. b.there (a.there h); back = λ h. a.back (b.back h) }

both_of : {A B P Q : Type 0} → Both A B → Both P Q → Both (A × P) (B × Q)
both_of a b = record { there = λ h. (a.there h.0, b.there h.1); back = λ h. (a.back h.0, b.back h.1) }

nothing_asked : {P Q : Type 0} → Both P Q → Both (Unit {0} × P) Q
nothing_asked a = record { there = λ h. a.there h.1; back = λ h. (tt, a.back h) }

module _ (stack : List LayerTree) (i : Input) where
  -- what is so at each act
  abbrev SafeIf : Bool → Type 0 → Type 0
  SafeIf true P = P
  SafeIf false P = Unit {0}

  abbrev SafeActs : List Act → Course → Type 0
  SafeActs [] y = Unit {0}
  SafeActs (value.check e ∷ xs) y = SafeIf (is_true (worth i y.past e)) (SafeActs xs (acts i y (value.check e)))
  SafeActs (value.push p c e numbers message ∷ xs) y = PushIsSafe stack p c (worth i y.past e) (state_of y.states p)
      (record { numbers = map (worth i y.past) numbers; message = option_map (sent_of i y.past) message })
      × SafeActs xs (acts i y (value.push p c e numbers message))
  SafeActs (value.take p c e ∷ xs) y =
      (is_some (row_at (state_of y.states p) c (worth i y.past e) 0) ≡ true) × SafeActs xs (acts i y (value.take p c e))
  SafeActs (value.output dir kind numbers message ∷ xs) y =
      IsEvent (IsFrom stack (edge_place stack dir))
      (event_of kind (map (worth i y.past) numbers) (option_map (sent_of i y.past) message))
      × SafeActs xs (acts i y (value.output dir kind numbers message))
  SafeActs (value.set p c e x ∷ xs) y = SafeActs xs (acts i y (value.set p c e x))
  SafeActs (value.set_square p c r k x ∷ xs) y = SafeActs xs (acts i y (value.set_square p c r k x))

  safe_is : (os : List Operation) (v : Values) (t : Trail) (f : Seen → Contents) → Stands i v t.kept t.states f →
      Both (SafeTrace stack i os (on t)) (SafeActs (acts_of os v) (course v t f))
  safe_is [] v t f s = record { there = λ h. h; back = λ h. h }
  safe_is (bind e ∷ os) v t f s =
      nothing_asked (safe_is os (with_bound v (number_value v e)) (does i t (bind e)) f
      (stands_bound i v t.kept t.states f s e))
  safe_is (note m ∷ os) v t f s =
      nothing_asked (safe_is os (with_noted v (message_value v m)) (does i t (note m)) f
      (stands_noted i v t.kept t.states f s m))
  safe_is (check e ∷ os) v t f s = nothing_asked (both_then
      (go (is_true (number_of i t.kept t.states e)) (safe_is os v (checked t) f s))
      (alike (λ z. SafeIf (is_true (worth_is i v t f s e z)) (SafeActs (acts_of os v) (course v (checked t) f))))) where
        go : (b : Bool) → Both (SafeTrace stack i os (on (checked t)))
            (SafeActs (acts_of os v) (course v (checked t) f)) →
            Both (SafeTrace stack i os (if b then on (checked t) else stopped_at t.checks))
            (SafeIf b (SafeActs (acts_of os v) (course v (checked t) f)))
        go true rest = rest
        go false rest = record { there = λ h. tt; back = λ h. safe_stopped stack i os t.checks }
  safe_is (set p c e x ∷ os) v t f s = nothing_asked (both_then
      (safe_is os (with_written v p c) (does i t (set p c e x)) _ (stands_written i v t.kept t.states f s p c _))
      (alike (ap (SafeActs (acts_of os (with_written v p c))) (set_is i v t f s p c e x))))
  safe_is (set_square p c r k x ∷ os) v t f s = nothing_asked (both_then
      (safe_is os (with_written v p c) (does i t (set_square p c r k x)) _
      (stands_written i v t.kept t.states f s p c _))
      (alike (ap (SafeActs (acts_of os (with_written v p c))) (set_square_is i v t f s p c r k x))))
  safe_is (push p c e numbers message ∷ os) v t f s = both_of
      (alike (λ z. PushIsSafe stack p c (worth_is i v t f s e z) (state_of t.states p)
      (row_is i v t f s numbers message z)))
      (both_then (safe_is os (with_written v p c) (does i t (push p c e numbers message)) _
      (stands_written i v t.kept t.states f s p c _))
      (alike (ap (SafeActs (acts_of os (with_written v p c))) (push_is i v t f s p c e numbers message))))
  safe_is (take p c e ∷ os) v t f s = both_of
      (alike (λ z. is_some (row_at (state_of t.states p) c (worth_is i v t f s e z) 0) ≡ true))
      (both_then (safe_is os (with_written (with_taken v) p c) (does i t (take p c e)) _
      (stands_written i (with_taken v) _ t.states f (stands_taken i v t.kept t.states f s _) p c _))
      (alike (ap (SafeActs (acts_of os (with_written (with_taken v) p c))) (take_is i v t f s p c e))))
  safe_is (output dir kind numbers message ∷ os) v t f s = both_of
      (alike (λ z. IsEvent (IsFrom stack (edge_place stack dir)) (event_is i v t f s kind numbers message z)))
      (both_then (safe_is os v (does i t (output dir kind numbers message)) f s)
      (alike (ap (SafeActs (acts_of os v)) (output_is i v t f s dir kind numbers message))))

  told_safe : (operations : List Operation) (states : List State) →
      Both (SafeTrace stack i operations (on (before states)))
      (SafeActs (symbolic operations) (course no_values (before states) (first_cells states)))
  told_safe operations states = safe_is operations no_values (before states) (first_cells states)
      (first_stands i states)

pub same_acts_are_safe : SameActsAreSafe
same_acts_are_safe stack a b same i states safe = (told_safe stack i b states).back
    (subst (λ xs. SafeActs stack i xs (course no_values (before states) (first_cells states))) same
    ((told_safe stack i a states).there safe))
