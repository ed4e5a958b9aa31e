-- The premises of guards hold of the traces of entries.
use Rattle.std.proofs.Common.{◌≡◌, ℕ, suc, ◌+◌, ◌^◌, ◌<◌, ◌≤◌, ◌==◌, nat_lt, Bool, true, false, ◌&&◌, ◌⊎◌, inl, inr}
use Rattle.std.proofs.Common.{if◌then◌else◌, List, [], ◌∷◌, ◌++◌, map, length, drop, slice_get, slice_index_or, Option}
use Rattle.std.proofs.Common.{option_map, Some, None, is_some, refl, sym, ap, ◌∙◌, subst, arith, zero-le}
use Rattle.std.proofs.lemmas.Bool.{eq-eqb, and_from, and_parts, or_left, or_right, ltb-true, cases_lt}
use Rattle.std.proofs.lemmas.List.{length-append, length-drop, get_or_past}
use Rattle.std.specs.List.{AllByRecursion}
use Rattle.std.specs.Prelude.{option_and_then, Ok}
use Rattle.msg_core.specs.Chain.{Content}
use Rattle.msg_core.specs.Parts.{longest_body}
use Rattle.msg_core.specs.declared.message.Header.{Header}
use Rattle.layer_words.specs.declared.events.Kind.{Kind}
use Rattle.layer_words.specs.declared.sorts.Shape.{Shape}
use Rattle.layer_words.specs.declared.sorts.Shape.TheVariants.{One, Array, Square}
use Rattle.layer_mean.specs.declared.run.Case.{Case}
use Rattle.layer_mean.specs.declared.run.Event.{Event}
use Rattle.layer_mean.specs.declared.run.Row.{Row}
use Rattle.layer_mean.specs.Event.{carries, event_of}
use Rattle.layer_mean.specs.State as state
use Rattle.layer_mean.specs.State.{State, Contents, no_cell, numbers_in, queues_in, cell_at, rows_at, row_at}
use Rattle.layer_mean.specs.State.{flat_index, size_of}
use Rattle.layer_mean.specs.Tree.{part, ItemsTree, Form, numbers, queue, queues, CellTree, LayerTree, no_layer}
use Rattle.layer_mean.specs.Value.{is_true}
use Rattle.layer_mean.specs.Visit.{no_state}
use Rattle.stack_mean.specs.Shape.{Known}
use Rattle.packet_mean.specs.ChainedState.{IsNumber, IsFrom, IsQueue, HoldsForm, IsState, Brings, IsEvent}
use Rattle.chain_laws.specs.Typed.{Queue, queue_in, queue_at}
use Rattle.chain_laws.specs.Runs.{AreChainedStates}
use Rattle.chain_laws.proofs.Lists.{zip_at}
use Rattle.chain_laws.proofs.Sorts.{Kept, kept, rows_at_kept, row_at_kept, message_in_body}
use Rattle.chain_laws.specs.Named.{NamedStack, shape_in, form_at}
use Rattle.trace_mean.specs.Trace.{number, TraceNumber, atom, me, count, ltime, element, square, rows, item, size}
use Rattle.trace_mean.specs.Trace.{binary, apply, pick, body, TraceMessage, core, held, cut, tail, join, Operation}
use Rattle.trace_mean.specs.Trace.{bind, note, check, set, set_square, push, take, output}
use Rattle.trace_mean.specs.Worth.{Input, nothing_kept, state_of, number_of, content_at}
use Rattle.trace_mean.specs.Follow.{Trail, on, stopped_at, does, before, perform}
use Rattle.trace_mean.specs.Fuse.{field_atoms, entry_chain, entry_task, trace_of}
use Rattle.trace_laws.specs.Members.{AreOf}
use Rattle.trace_laws.specs.Safe.{IsSafe, SafeTrace}
use Rattle.trace_laws.specs.Right.{Enters}
use Rattle.trace_laws.proofs.Members.{are_long, are_at}
use Rattle.trace_laws.proofs.Law.{traces_are_right}
use Rattle.trace_form_laws.specs.Names.{NumberNames, MessageNames, OperationNames}
use Rattle.trace_form_laws.specs.Closed.{layer_of}
use Rattle.trace_form_laws.specs.There.{HasNumber, IsThere, AreThere}
use Rattle.trace_form_laws.proofs.There.{traces_name_well}
use Rattle.guard_mean.specs.Hoist.{is_zero}
use Rattle.guard_mean.specs.Perform.{holds, end_of, answer_end}
use Rattle.guard_mean.specs.Prune.{hoist}
use Rattle.guard_mean.specs.Simplify.{simplified}
use Rattle.guard_laws.specs.Sound.{extent, row_count, fits_extent, Sound}
use Rattle.guard_laws.proofs.Premises.{IsShortRow, IsShortTrail, Fits, FitsMessage, FitsAll, FitsOperation, RoomAt}
use Rattle.guard_laws.proofs.Premises.{Roomy, AllFit}
use Rattle.guard_laws.specs.Entry.{EntriesAreGuarded, CodesFollowTraces, CodesAreRight}
use Rattle.guard_laws.proofs.States.{extents_after, queues_after, extents_stay, rows_after}
use Rattle.guard_laws.proofs.Short.{either_way, sound_of}
use Rattle.guard_laws.proofs.Simpler.{simplified_is_same}
use Rattle.guard_laws.proofs.Same.{chosen_end, hoisted_is_same}
use Rattle.guard_laws.proofs.Straight.{code_is_same}

-- which cells are square
abbrev is_square : Option Shape → Bool
is_square (Some Square) = true
is_square _ = false

abbrev pub squares_of : List LayerTree → ℕ → ℕ → Bool
squares_of stack p c = is_square (form_at shape_in (layer_of stack p) c)

-- what names cells as they are reads square ones by two indices and others by one
module _ (stack : List LayerTree) where
  no_square : (p c : ℕ) (e : TraceNumber) → HasNumber (layer_of stack p) c e → squares_of stack p c ≡ false
  no_square p c e (inl one) = ap is_square one.0
  no_square p c e (inr array) = ap is_square array

  mutual
    fits_number : (e : TraceNumber) → NumberNames (IsThere stack) e → Fits (squares_of stack) e
    fits_number (atom a) h = tt
    fits_number me h = tt
    fits_number count h = tt
    fits_number ltime h = tt
    fits_number (element p c e) h = (no_square p c e h.0, fits_number e h.1)
    fits_number (square p c r k) h = (ap is_square h.0, fits_number r h.1, fits_number k h.2)
    fits_number (rows p c e) h = fits_number e h.1
    fits_number (item p c e r k) h = (fits_number e h.1, fits_number r h.2)
    fits_number (size m) h = fits_message m h
    fits_number (binary o a b) h = (fits_number a h.0, fits_number b h.1)
    fits_number (apply f a) h = fits_number a h
    fits_number (pick c a b) h = (fits_number c h.0, fits_number a h.1, fits_number b h.2)

    fits_message : (m : TraceMessage) → MessageNames (IsThere stack) m → FitsMessage (squares_of stack) m
    fits_message (core c) h = tt
    fits_message (held p c e r carried) h = (fits_number e h.1, fits_number r h.2)
    fits_message (cut m f n) h = (fits_message m h.0, fits_number f h.1, fits_number n h.2)
    fits_message (tail m f) h = (fits_message m h.0, fits_number f h.1)
    fits_message (join a b) h = (fits_message a h.0, fits_message b h.1)

  fits_numbers : (es : List TraceNumber) → AllByRecursion (NumberNames (IsThere stack)) es →
      FitsAll (squares_of stack) es
  fits_numbers [] h = tt
  fits_numbers (e ∷ es) h = (fits_number e h.0, fits_numbers es h.1)

  fits_operation : (o : Operation) → OperationNames (IsThere stack) o → FitsOperation (squares_of stack) o
  fits_operation (bind e) h = fits_number e h
  fits_operation (note m) h = fits_message m h
  fits_operation (check e) h = fits_number e h
  fits_operation (set p c e v) h = (no_square p c e h.0, fits_number e h.1, fits_number v h.2)
  fits_operation (set_square p c r k v) h = (ap is_square h.0, fits_number r h.1, fits_number k h.2, fits_number v h.3)
  fits_operation (push p c e ns m) h = (fits_number e h.1, fits_numbers ns h.2)
  fits_operation (take p c e) h = fits_number e h.1
  fits_operation (output dir kind ns m) h = tt

  all_fit : (os : List Operation) → AreThere stack os → AllFit (squares_of stack) os
  all_fit [] h = tt
  all_fit (o ∷ os) h = (fits_operation o h.0, all_fit os h.1)

-- the cells of a chained state
numbers_held : (P : List Header → Type 0) (n : ℕ) (form : Form) (cell : Contents) (shape : Shape) →
    HoldsForm P n form cell → shape_in form ≡ Some shape →
    length (numbers_in cell) ≡ size_of n shape
numbers_held P n (numbers made initial) (state.numbers ns) shape h is = h.0 ∙
    ap (size_of n) (let e : made ≡ shape = cc is in e)
numbers_held P n (numbers made initial) (state.queues qs) shape h is = absurd h
numbers_held P n (queue capacity items) cell shape h is = absurd (cc is)
numbers_held P n (queues capacity items) cell shape h is = absurd (cc is)

first_queue : (P : List Header → Type 0) (capacity n : ℕ) (items : ItemsTree) (qs : List (List Row)) → length qs ≡ n →
    1 ≤ n →
    AllByRecursion (IsQueue P capacity items) qs → IsNumber capacity
first_queue P capacity n items [] many some h = absurd (let none : 0 ≡ n = many in omega (arith, none, some))
first_queue P capacity n items (q ∷ qs) many some h = h.0.bounded

capacity_held : (P : List Header → Type 0) (n : ℕ) (form : Form) (cell : Contents) (q : Queue) → 1 ≤ n →
    HoldsForm P n form cell → queue_in form ≡ Some q →
    IsNumber q.capacity
capacity_held P n (numbers made initial) cell q some h is = absurd (cc is)
capacity_held P n (queue capacity items) (state.numbers ns) q some h is = absurd h
capacity_held P n (queue capacity items) (state.queues qs) q some h is =
    subst (λ (r : Queue). IsNumber r.capacity) (let e : record { capacity = capacity; items = items } ≡ q = cc is in e)
    (first_queue P capacity 1 items qs h.0 (omega arith) h.1)
capacity_held P n (queues capacity items) (state.numbers ns) q some h is = absurd h
capacity_held P n (queues capacity items) (state.queues qs) q some h is =
    subst (λ (r : Queue). IsNumber r.capacity) (let e : record { capacity = capacity; items = items } ≡ q = cc is in e)
    (first_queue P capacity n items qs h.0 some h.1)

-- the cell that a layer has in a form
formed : {A : Type 0} (f : Form → Option A) (layer : LayerTree) (c : ℕ) (x : A) → form_at f layer c ≡ Some x →
    {C : Type 0} →
    ((cell : CellTree) → slice_get layer.cells c ≡ Some cell → f cell.form ≡ Some x → C) → C
formed f layer c x is {C} k = go (slice_get layer.cells c) refl is where
  go : (o : Option CellTree) → slice_get layer.cells c ≡ o → option_and_then (λ (cell : CellTree). f cell.form) o ≡
      Some x → C
  go None at is = absurd (cc is)
  go (Some cell) at is = k cell at is

-- a place whose layer has a cell is one of the stack
in_range : {A : Type 0} (f : Form → Option A) (stack : List LayerTree) (p c : ℕ) (x : A) →
    form_at f (layer_of stack p) c ≡ Some x → p < length stack
in_range f stack p c x is = go (cases_lt p (length stack)) where
  go : (p < length stack) ⊎ (length stack ≤ p) → p < length stack
  go (inl less) = less
  go (inr past) = absurd
      (let none : None ≡ Some x = sym (ap (λ layer. form_at f layer c) (get_or_past stack p no_layer past)) ∙ is in
      cc none)

queue_range : (stack : List LayerTree) (p c : ℕ) (q : Queue) → queue_at (layer_of stack p) c ≡ Some q → p < length stack
queue_range stack p c q is = in_range queue_in stack p c q is

module _ (stack : List LayerTree) (i : Input) (states : List State) (of : AreOf i stack states)
    (chained : AreChainedStates stack states) where
  state_is : (p : ℕ) → p < length stack → IsState (IsFrom stack (suc p)) (layer_of stack p) (state_of states p)
  state_is p less = chained.states_are p less

  count_is : (p : ℕ) → p < length stack → (state_of states p).count ≡ i.count
  count_is p less = (are_at i stack states p of (let e = are_long i stack states of in omega (arith, e, less))).count

  some_member : (p : ℕ) → p < length stack → 1 ≤ i.count
  some_member p less = subst (λ n. 1 ≤ n) (count_is p less) (state_is p less).some_member

  extent_is : (p c : ℕ) (shape : Shape) → form_at shape_in (layer_of stack p) c ≡ Some shape →
      extent states p c ≡ size_of i.count shape
  extent_is p c shape is = let less = in_range shape_in stack p c shape is in
      formed shape_in (layer_of stack p) c shape is (λ cell at form.
      let s = state_of states p in
      numbers_held (IsFrom stack (suc p)) s.count cell.form (cell_at s c) shape
      (zip_at (λ (cell : CellTree) held. HoldsForm (IsFrom stack (suc p)) s.count cell.form held)
      (layer_of stack p).cells s.cells c cell no_cell
      (state_is p less).cells at) form)
      ∙ ap (λ n. size_of n shape) (count_is p less)

  capacity_is : (p c : ℕ) (q : Queue) → queue_at (layer_of stack p) c ≡ Some q → IsNumber q.capacity
  capacity_is p c q is = let less = queue_range stack p c q is in
      formed queue_in (layer_of stack p) c q is (λ cell at form.
      let s = state_of states p in
      capacity_held (IsFrom stack (suc p)) s.count cell.form (cell_at s c) q (state_is p less).some_member
      (zip_at (λ (cell : CellTree) held. HoldsForm (IsFrom stack (suc p)) s.count cell.form held)
      (layer_of stack p).cells s.cells c cell no_cell
      (state_is p less).cells at) form)

  kept_at : (p : ℕ) → p < length stack → Kept (state_of states p) (record { numbers = []; messages = [] })
  kept_at p less = kept (IsFrom stack (suc p)) (layer_of stack p) [] (state_of states p)
      (record { numbers = []; messages = [] }) (state_is p less)
      (record { numbers_are = tt; messages_are = tt })

  few_rows : (p c j : ℕ) → row_count states p c j < 2 ^ 32
  few_rows p c j = go (cases_lt p (length stack)) where
    go : (p < length stack) ⊎ (length stack ≤ p) → row_count states p c j < 2 ^ 32
    go (inl less) = (rows_at_kept (state_of states p) c j (kept_at p less).cells).count
    go (inr past) = let e = chained.count in
        subst (λ s. length (rows_at s c j) < 2 ^ 32) (sym (get_or_past states p no_state (omega (arith, e, past))))
        (let r : 0 < 2 ^ 32 = omega arith in r)

  short_row : (p c j k : ℕ) → IsShortRow (row_at (state_of states p) c j k)
  short_row p c j k = go (cases_lt p (length stack)) where
    go : (p < length stack) ⊎ (length stack ≤ p) → IsShortRow (row_at (state_of states p) c j k)
    go (inl less) = (message_in_body part (row_at (state_of states p) c j k)
        (row_at_kept (state_of states p) c j k (kept_at p less).cells)).within
    go (inr past) = let e = chained.count in
        subst (λ s. IsShortRow (row_at s c j k)) (sym (get_or_past states p no_state (omega (arith, e, past)))) zero-le

  -- cells stay as wide as they were, and no queue gets too long
  record Steady (t : Trail) : Type 0 where
    extents : (p c : ℕ) → extent t.states p c ≡ extent states p c
    few : (p c j : ℕ) → row_count t.states p c j < 2 ^ 32

  alone_fits : (n many : ℕ) (e : TraceNumber) → many ≡ 1 → e ≡ atom (number 0) → fits_extent n many e ≡ true
  alone_fits n many e one is = or_right (many == n) ((many == 1) && is_zero e)
      (and_from (many == 1) (is_zero e) (eq-eqb many 1 one) (ap is_zero is))

  each_fits : (n many : ℕ) (e : TraceNumber) → many ≡ n → fits_extent n many e ≡ true
  each_fits n many e same = or_left (many == n) ((many == 1) && is_zero e) (eq-eqb many n same)

  set_room : (t : Trail) (p c : ℕ) (e : TraceNumber) → Steady t → HasNumber (layer_of stack p) c e →
      (0 < i.count) × (fits_extent i.count (extent t.states p c) e ≡ true)
  set_room t p c e s (inl one) = (
    some_member p (in_range shape_in stack p c One one.0),
    alone_fits i.count (extent t.states p c) e (s.extents p c ∙ extent_is p c One one.0) one.1,
  )
  set_room t p c e s (inr array) = (
    some_member p (in_range shape_in stack p c Array array),
    each_fits i.count (extent t.states p c) e (s.extents p c ∙ extent_is p c Array array),
  )

  -- a queue that has a row is there
  queue_there : (s : State) (c j : ℕ) → is_some (row_at s c j 0) ≡ true → (j < length (queues_in (cell_at s c))) ×
      (0 < length (rows_at s c j))
  queue_there s c j is = go (cases_lt j (length (queues_in (cell_at s c)))) where
    some : (rs : List Row) → is_some (slice_get rs 0) ≡ true → 0 < length rs
    some [] is = absurd (cc is)
    some (r ∷ rs) is = omega arith

    go : (j < length (queues_in (cell_at s c))) ⊎ (length (queues_in (cell_at s c)) ≤ j) →
        (j < length (queues_in (cell_at s c))) × (0 < length (rows_at s c j))
    go (inl less) = (less, some (rows_at s c j) is)
    go (inr past) = absurd (let none : false ≡ true = sym (ap (λ (rs : List Row). is_some (slice_get rs 0))
        (get_or_past (queues_in (cell_at s c)) j [] past)) ∙ is in cc none)

  room_at : (t : Trail) (o : Operation) → Steady t → OperationNames (IsThere stack) o → IsSafe stack i o t →
      RoomAt i t o
  room_at t (bind e) s h safe = tt
  room_at t (note m) s h safe = tt
  room_at t (check e) s h safe = tt
  room_at t (set p c e v) s h safe = set_room t p c e s h.0
  room_at t (set_square p c r k v) s h safe = s.extents p c ∙ extent_is p c Square h.0
  room_at t (push p c e ns m) s h safe =
      let st = state_of t.states p in let j = number_of i t.kept t.states e in
      let parts = and_parts (nat_lt j (length (queues_in (cell_at st c))))
      (nat_lt (length (rows_at st c j)) safe.capacity) safe.room in
      let small = capacity_is p c safe.pushed.rows safe.pushed.listed in let same = safe.pushed.room in
      let below = ltb-true (length (rows_at st c j)) safe.capacity parts.1 in
      (ltb-true j (length (queues_in (cell_at st c))) parts.0, omega (arith, below, same, small), s.few p c)
  room_at t (take p c e) s h safe =
      let there = queue_there (state_of t.states p) c (number_of i t.kept t.states e) safe in
      (there.0, there.1, s.few p c)
  room_at t (output dir kind ns m) s h safe = tt

  same_states : (t u : Trail) → u.states ≡ t.states → Steady t → Steady u
  same_states t u is s = record {
    extents = λ p c. ap (λ ss. extent ss p c) is ∙ s.extents p c;
    few = λ p c j. subst (λ ss. row_count ss p c j < 2 ^ 32) (sym is) (s.few p c j);
  }

  stays_steady : (t : Trail) (o : Operation) → Steady t → RoomAt i t o → Steady (does i t o)
  stays_steady t (bind e) s room = same_states t (does i t (bind e)) refl s
  stays_steady t (note m) s room = same_states t (does i t (note m)) refl s
  stays_steady t (check e) s room = s
  stays_steady t (set p c e v) s room = let j = number_of i t.kept t.states e in let w =
      number_of i t.kept t.states v in record {
        extents = λ q d. extents_after t.states p c j w q d ∙ s.extents q d;
        few = λ q d k. subst (λ (rs : List Row). length rs < 2 ^ 32) (sym (queues_after t.states p c j w q d k))
            (s.few q d k);
      }
  stays_steady t (set_square p c r k v) s room =
      let j = flat_index i.count (number_of i t.kept t.states r) (number_of i t.kept t.states k) in let w =
      number_of i t.kept t.states v in record {
        extents = λ q d. extents_after t.states p c j w q d ∙ s.extents q d;
        few = λ q d n. subst (λ (rs : List Row). length rs < 2 ^ 32) (sym (queues_after t.states p c j w q d n))
            (s.few q d n);
      }
  stays_steady t (push p c e ns m) s room =
      let j = number_of i t.kept t.states e in let old = rows_at (state_of t.states p) c j in
      let new = old ++ record
      { numbers = map (number_of i t.kept t.states) ns; message = option_map (content_at i t.kept) m } ∷ [] in
      record {
        extents = λ q d. extents_stay t.states p c j new q d ∙ s.extents q d;
        few = λ q d k. subst (λ (rs : List Row). length rs < 2 ^ 32) (sym (rows_after t.states p c j new room.0 q d k))
            (either_way (λ (rs : List Row). length rs < 2 ^ 32) _ new (rows_at (state_of t.states q) d k)
            (let one = length-append old
            (record { numbers = map (number_of i t.kept t.states) ns; message = option_map (content_at i t.kept) m }
            ∷ []) in
            let less = room.1 in omega (arith, one, less)) (s.few q d k));
      }
  stays_steady t (take p c e) s room =
      let j = number_of i t.kept t.states e in let old = rows_at (state_of t.states p) c j in record {
        extents = λ q d. extents_stay t.states p c j (drop 1 old) q d ∙ s.extents q d;
        few = λ q d k. subst (λ (rs : List Row). length rs < 2 ^ 32)
            (sym (rows_after t.states p c j (drop 1 old) room.0 q d k))
            (either_way (λ (rs : List Row). length rs < 2 ^ 32) _ (drop 1 old) (rows_at (state_of t.states q) d k)
            (let one = length-drop 1 old in let less = s.few p c j in omega (arith, one, less)) (s.few q d k));
      }
  stays_steady t (output dir kind ns m) s room = same_states t (does i t (output dir kind ns m)) refl s

  stopped_roomy : (os : List Operation) (n : ℕ) → Roomy i os (stopped_at n)
  stopped_roomy [] n = tt
  stopped_roomy (o ∷ os) n = tt

  checked_roomy : (os : List Operation) (t : Trail) (b : Bool) → SafeTrace stack i os
      (if b then on (record t { checks = t.checks + 1 }) else stopped_at t.checks) →
      (SafeTrace stack i os (on (record t { checks = t.checks + 1 })) →
      Roomy i os (on (record t { checks = t.checks + 1 }))) →
      Roomy i os (if b then on (record t { checks = t.checks + 1 }) else stopped_at t.checks)
  checked_roomy os t true safe so = so safe
  checked_roomy os t false safe so = stopped_roomy os t.checks

  roomy : (os : List Operation) (t : Trail) → Steady t → AreThere stack os → SafeTrace stack i os (on t) →
      Roomy i os (on t)
  roomy [] t s h safe = tt
  roomy (check e ∷ os) t s h safe = (
    tt,
    checked_roomy os t (is_true (number_of i t.kept t.states e)) safe.1
        (roomy os (record t { checks = t.checks + 1 }) (same_states t (record t { checks = t.checks + 1 }) refl s) h.1),
  )
  roomy (bind e ∷ os) t s h safe = let r = room_at t (bind e) s h.0 safe.0 in
      (r, roomy os (does i t (bind e)) (stays_steady t (bind e) s r) h.1 safe.1)
  roomy (note m ∷ os) t s h safe = let r = room_at t (note m) s h.0 safe.0 in
      (r, roomy os (does i t (note m)) (stays_steady t (note m) s r) h.1 safe.1)
  roomy (set p c e v ∷ os) t s h safe = let r = room_at t (set p c e v) s h.0 safe.0 in
      (r, roomy os (does i t (set p c e v)) (stays_steady t (set p c e v) s r) h.1 safe.1)
  roomy (set_square p c e k v ∷ os) t s h safe = let r = room_at t (set_square p c e k v) s h.0 safe.0 in
      (r, roomy os (does i t (set_square p c e k v)) (stays_steady t (set_square p c e k v) s r) h.1 safe.1)
  roomy (push p c e ns m ∷ os) t s h safe = let r = room_at t (push p c e ns m) s h.0 safe.0 in
      (r, roomy os (does i t (push p c e ns m)) (stays_steady t (push p c e ns m) s r) h.1 safe.1)
  roomy (take p c e ∷ os) t s h safe = let r = room_at t (take p c e) s h.0 safe.0 in
      (r, roomy os (does i t (take p c e)) (stays_steady t (take p c e) s r) h.1 safe.1)
  roomy (output dir kind ns m ∷ os) t s h safe = let r = room_at t (output dir kind ns m) s h.0 safe.0 in
      (r, roomy os (does i t (output dir kind ns m)) (stays_steady t (output dir kind ns m) s r) h.1 safe.1)

-- the body of an entry is short
brought_short : (C : List Header → Type 0) (b : Bool) (m : Content) → Brings C b (Some m) → length m.body ≤ longest_body
brought_short C true m h = h.body.within
brought_short C false m h = absurd h

message_of_event : (kind : Kind) (ns : List ℕ) (m : Option Content) → (event_of kind ns m).message ≡ m
message_of_event kind ns m = go (carries kind) where
  go : (b : Bool) → (let e : Event =
      if b then record { kind = kind; peer = slice_index_or ns 0 0; a = 0; b = 0; message = m }
      else record { kind = kind; peer = 0; a = slice_index_or ns 0 0; b = slice_index_or ns 1 0; message = m } in
      e.message) ≡ m
  go true = refl
  go false = refl

short_entry : (C : List Header → Type 0) (e : Event) (m : Content) → IsEvent C e → e.message ≡ Some m →
    length m.body ≤ longest_body
short_entry C e m h is = brought_short C (carries e.kind) m (subst (Brings C (carries e.kind)) is h.message)

short_before : (stack : List LayerTree) (k : Known) (fields : List (Option ℕ)) (i : Input) (states : List State) →
    Enters stack k fields i states →
    IsShortTrail i (before states)
short_before stack k fields i states enters = record {
  body = short_entry _ (entry_task stack k fields i).event m enters.task.event
      (message_of_event k.kind (i.peer ∷ []) (Some m));
  notes = λ n. zero-le;
  rows = λ n. zero-le;
  held = short_row stack i states enters.of enters.states_are;
} where
  m : Content
  m = content_at i nothing_kept (record { chain = entry_chain 0 stack k.tags (field_atoms 0 fields); core = body })

-- each operation that is reached is as it should be, where what is named is there and following is safe
pub safe_is_sound : (stack : List LayerTree) (k : Known) (fields : List (Option ℕ)) (operations : List Operation)
    (i : Input) (states : List State) →
    AreThere stack operations → SafeTrace stack i operations (on (before states)) → Enters stack k fields i states →
    Sound (squares_of stack) i operations (on (before states))
safe_is_sound stack k fields operations i states there safe enters =
    sound_of (squares_of stack) i operations (before states)
    (short_before stack k fields i states enters) (all_fit stack operations there)
    (roomy stack i states enters.of enters.states_are operations (before states)
    (record { extents = λ p c. refl; few = few_rows stack i states enters.of enters.states_are }) there safe)

-- so it is of the traces of entries
pub entries_are_sound : (case : Case) (stack : List LayerTree) (k : Known) (fields : List (Option ℕ))
    (operations : List Operation) (i : Input)
    (states : List State) → NamedStack stack → trace_of case stack k fields ≡ Ok operations →
    Enters stack k fields i states →
    Sound (squares_of stack) i operations (on (before states))
entries_are_sound case stack k fields operations i states named made enters =
    safe_is_sound stack k fields operations i states (traces_name_well case stack k fields operations named made)
    (traces_are_right case stack k fields operations i states made enters).safe enters

pub entries_are_guarded : EntriesAreGuarded
entries_are_guarded case stack k fields operations i states named made enters =
    hoisted_is_same (squares_of stack) i states operations
    (entries_are_sound case stack k fields operations i states named made enters)

pub codes_follow_traces : CodesFollowTraces
codes_follow_traces case stack k fields operations i states named made enters =
    let g = hoist operations in let same = simplified_is_same g i states in
    code_is_same (simplified g) i states
    ∙ chosen_end (holds i (simplified g) states) (holds i g states) (perform i (simplified g).operations states)
    (perform i g.operations states)
    same.0 (ap end_of same.1)
    ∙ entries_are_guarded case stack k fields operations i states named made enters

pub codes_are_right : CodesAreRight
codes_are_right case stack k fields operations i states named made enters =
    codes_follow_traces case stack k fields operations i states named made enters
    ∙ ap answer_end (traces_are_right case stack k fields operations i states made enters).answer
