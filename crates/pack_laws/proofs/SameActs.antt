-- Following a trace is following its symbolic list.
use Rattle.std.proofs.Common.{◌≡◌, ℕ, ◌+◌, Bool, true, false, if◌then◌else◌, List, [], ◌∷◌, ◌++◌, map, Option}
use Rattle.std.proofs.Common.{option_map, refl, sym, ap, ◌∙◌}
use Rattle.std.specs.Prelude.{drop}
use Rattle.layer_words.specs.declared.events.Dir.{Dir}
use Rattle.layer_words.specs.declared.events.Kind.{Kind}
use Rattle.layer_mean.specs.declared.run.Row.{Row}
use Rattle.layer_mean.specs.Event.{event_of}
use Rattle.layer_mean.specs.State as state
use Rattle.layer_mean.specs.State.{State, Contents, flat_index, rows_at, row_at, with_queue}
use Rattle.layer_mean.specs.Value.{is_true}
use Rattle.trace_mean.specs.Trace.{Atom, TraceNumber, Chained, Operation, bind, note, check, set, set_square, push}
use Rattle.trace_mean.specs.Trace.{take, output}
use Rattle.trace_mean.specs.Worth.{Input, state_of, atom_at, number_of, content_at}
use Rattle.trace_mean.specs.Follow.{Trail, on, stopped_at, does, before, answer_of, follow, follows, stopped}
use Rattle.trace_laws.proofs.Later.{stays}
use Rattle.guard_laws.proofs.States.{cell_in}
use Rattle.symbol_mean.specs.Value.{Seen}
use Rattle.symbol_mean.specs.Value as value
use Rattle.symbol_mean.specs.Symbolic.{Values, no_values, number_value, message_value, atom_value, chained_value}
use Rattle.symbol_mean.specs.Symbolic.{with_bound, with_noted, with_taken, with_written, acts_of, symbolic}
use Rattle.pack_laws.specs.SameActs.{SameActsFollowAlike}
use Rattle.pack_laws.proofs.Course.{Course, worth, sent_of, writes, takes, acts, answer}
use Rattle.pack_laws.proofs.Stands.{past, later_same, Stands, number_is, numbers_are, atoms_are, sent_is}
use Rattle.pack_laws.proofs.Stands.{stands_bound, stands_noted, stands_taken, stands_written}

-- the course of a trail
abbrev pub course : Values → Trail → (Seen → Contents) → Course
course v t f = record { past = past t.kept f; written = v.written; states = t.states; outs = t.outs; checks = t.checks }

-- a trail with a check more
abbrev pub checked : Trail → Trail
checked t = record t { checks = t.checks + 1 }

module _ (i : Input) where
  -- an act of a trail does what the operation does
  module _ (v : Values) (t : Trail) (f : Seen → Contents) (s : Stands i v t.kept t.states f) where
    pub worth_is : (e : TraceNumber) → number_of i t.kept t.states e ≡ worth i (past t.kept f) (number_value v e)
    worth_is e = sym (number_is i v t.kept t.states f s (past t.kept f) (later_same v.written v.takes (past t.kept f))
        e)

    pub set_is : (p c : ℕ) (e x : TraceNumber) →
        writes (course v t f) p c
        (state.with_element (number_of i t.kept t.states e) (number_of i t.kept t.states x) (cell_in t.states p c)) ≡
        acts i (course v t f) (value.set p c (number_value v e) (number_value v x))
    set_is p c e x = λ z.
        writes (course v t f) p c (state.with_element (worth_is e z) (worth_is x z) (cell_in t.states p c))

    pub set_square_is : (p c : ℕ) (r k x : TraceNumber) →
        writes (course v t f) p c
        (state.with_element (flat_index i.count (number_of i t.kept t.states r) (number_of i t.kept t.states k))
        (number_of i t.kept t.states x) (cell_in t.states p c)) ≡
        acts i (course v t f) (value.set_square p c (number_value v r) (number_value v k) (number_value v x))
    set_square_is p c r k x =
        λ z. writes (course v t f) p c
        (state.with_element (flat_index i.count (worth_is r z) (worth_is k z)) (worth_is x z) (cell_in t.states p c))

    pub row_is : (numbers : List TraceNumber) (message : Option Chained) →
        ◌≡◌ {A = Row} (record {
          numbers = map (number_of i t.kept t.states) numbers;
          message =
              option_map (content_at i t.kept) message;
        })
        (record {
          numbers = map (worth i (past t.kept f)) (map (number_value v) numbers);
          message = option_map (sent_of i (past t.kept f)) (option_map (chained_value v) message);
        })
    row_is numbers message =
        let ns = numbers_are i v t.kept t.states f s (past t.kept f) (later_same v.written v.takes (past t.kept f))
        numbers in
        let m = sent_is i v t.kept t.states f s (past t.kept f) (later_same v.written v.takes (past t.kept f)) message
        in
        λ z. record { numbers = sym ns z; message = sym m z }

    pub push_is : (p c : ℕ) (e : TraceNumber) (numbers : List TraceNumber) (message : Option Chained) →
        writes (course v t f) p c
        (with_queue (number_of i t.kept t.states e) (rows_at (state_of t.states p) c (number_of i t.kept t.states e)
        ++ record {
          numbers = map (number_of i t.kept t.states) numbers;
          message =
              option_map (content_at i t.kept) message;
        } ∷ [])
        (cell_in t.states p c)) ≡
        acts i (course v t f)
        (value.push p c (number_value v e) (map (number_value v) numbers) (option_map (chained_value v) message))
    push_is p c e numbers message = λ z.
        writes (course v t f) p c (with_queue (worth_is e z) (rows_at (state_of t.states p) c (worth_is e z)
        ++ row_is numbers message z ∷ []) (cell_in t.states p c))

    pub take_is : (p c : ℕ) (e : TraceNumber) →
        writes (takes (course v t f) (row_at (state_of t.states p) c (number_of i t.kept t.states e) 0)) p c
        (with_queue (number_of i t.kept t.states e)
        (drop 1 (rows_at (state_of t.states p) c (number_of i t.kept t.states e))) (cell_in t.states p c)) ≡
        acts i (course v t f) (value.take p c (number_value v e))
    take_is p c e = λ z. writes (takes (course v t f) (row_at (state_of t.states p) c (worth_is e z) 0)) p c
        (with_queue (worth_is e z) (drop 1 (rows_at (state_of t.states p) c (worth_is e z))) (cell_in t.states p c))

    pub event_is : (kind : Kind) (numbers : List Atom) (message : Option Chained) →
        event_of kind (map (atom_at i t.kept) numbers) (option_map (content_at i t.kept) message) ≡
        event_of kind (map (worth i (past t.kept f)) (map (atom_value v) numbers))
        (option_map (sent_of i (past t.kept f)) (option_map (chained_value v) message))
    event_is kind numbers message =
        let ns = atoms_are i v t.kept t.states f s (past t.kept f) (later_same v.written v.takes (past t.kept f))
        numbers in
        let m = sent_is i v t.kept t.states f s (past t.kept f) (later_same v.written v.takes (past t.kept f)) message
        in
        λ z. event_of kind (sym ns z) (sym m z)

    pub output_is : (dir : Dir) (kind : Kind) (numbers : List Atom) (message : Option Chained) →
        course v (does i t (output dir kind numbers message)) f ≡
        acts i (course v t f)
        (value.output dir kind (map (atom_value v) numbers) (option_map (chained_value v) message))
    output_is dir kind numbers message = λ z.
        record (course v t f) { outs = t.outs ++ (dir, event_is kind numbers message z) ∷ [] }

  follow_is : (os : List Operation) (v : Values) (t : Trail) (f : Seen → Contents) → Stands i v t.kept t.states f →
      answer_of (follows i os (on t)) ≡ answer i (acts_of os v) (course v t f)
  follow_is [] v t f s = refl
  follow_is (bind e ∷ os) v t f s = follow_is os (with_bound v (number_value v e)) (does i t (bind e)) f
      (stands_bound i v t.kept t.states f s e)
  follow_is (note m ∷ os) v t f s = follow_is os (with_noted v (message_value v m)) (does i t (note m)) f
      (stands_noted i v t.kept t.states f s m)
  follow_is (check e ∷ os) v t f s = go (is_true (number_of i t.kept t.states e)) (follow_is os v (checked t) f s)
      ∙ (λ z. if is_true (worth_is v t f s e z) then answer i (acts_of os v) (course v (checked t) f) else stopped
      t.checks) where
        go : (b : Bool) → answer_of (follows i os (on (checked t))) ≡ answer i (acts_of os v) (course v (checked t) f) →
            answer_of (follows i os (if b then on (checked t) else stopped_at t.checks)) ≡
            (if b then answer i (acts_of os v) (course v (checked t) f) else stopped t.checks)
        go true rest = rest
        go false rest = ap answer_of (stays i os t.checks)
  follow_is (set p c e x ∷ os) v t f s =
      follow_is os (with_written v p c) (does i t (set p c e x)) _ (stands_written i v t.kept t.states f s p c _)
      ∙ ap (answer i (acts_of os (with_written v p c))) (set_is v t f s p c e x)
  follow_is (set_square p c r k x ∷ os) v t f s =
      follow_is os (with_written v p c) (does i t (set_square p c r k x)) _
      (stands_written i v t.kept t.states f s p c _)
      ∙ ap (answer i (acts_of os (with_written v p c))) (set_square_is v t f s p c r k x)
  follow_is (push p c e numbers message ∷ os) v t f s =
      follow_is os (with_written v p c) (does i t (push p c e numbers message)) _
      (stands_written i v t.kept t.states f s p c _)
      ∙ ap (answer i (acts_of os (with_written v p c))) (push_is v t f s p c e numbers message)
  follow_is (take p c e ∷ os) v t f s =
      follow_is os (with_written (with_taken v) p c) (does i t (take p c e)) _
      (stands_written i (with_taken v) _ t.states f (stands_taken i v t.kept t.states f s _) p c _)
      ∙ ap (answer i (acts_of os (with_written (with_taken v) p c))) (take_is v t f s p c e)
  follow_is (output dir kind numbers message ∷ os) v t f s = follow_is os v (does i t (output dir kind numbers message))
      f s
      ∙ ap (answer i (acts_of os v)) (output_is v t f s dir kind numbers message)

-- before the first operation nothing is kept, and each cell holds what it holds
abbrev pub first_cells : List State → Seen → Contents
first_cells states x = cell_in states x.place x.cell

pub first_stands : (i : Input) (states : List State) →
    Stands i no_values (before states).kept states (first_cells states)
first_stands i states = record {
  values = refl;
  taken = refl;
  now = λ p c. refl;
  numbers = λ u later. refl;
  messages = λ u later. refl;
}

-- following a trace is a function of its symbolic list
pub told : (i : Input) (states : List State) (operations : List Operation) →
    follow i operations states ≡ answer i (symbolic operations) (course no_values (before states) (first_cells states))
unfolding follow
told i states operations = follow_is i operations no_values (before states) (first_cells states) (first_stands i states)

pub same_acts_follow_alike : SameActsFollowAlike
same_acts_follow_alike a b same i states =
    told i states a ∙ ap (λ xs. answer i xs (course no_values (before states) (first_cells states))) same ∙
    sym (told i states b)
