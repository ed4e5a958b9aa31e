-- What is simplified stays as well formed as it was.
use Rattle.std.proofs.Common.{◌≡◌, ℕ, ◌+◌, Bool, true, false, inl, inr, if◌then◌else◌, List, [], ◌∷◌, map, Option}
use Rattle.std.proofs.Common.{option_map, Some, None, fold, is_some, refl, sym, ap, subst}
use Rattle.std.proofs.lemmas.Bool.{and_from, and_parts}
use Rattle.std.specs.List.{AllByRecursion, list_all}
use Rattle.layer_words.specs.declared.operators.Function.{Function}
use Rattle.layer_words.specs.declared.operators.Operator.{Operator}
use Rattle.layer_mean.specs.State.{row_at}
use Rattle.layer_mean.specs.Tree.{ItemsTree, LayerTree}
use Rattle.layer_mean.specs.Value.{is_true}
use Rattle.trace_mean.specs.Trace.{Atom, number, peer, field, bound, taken_number, value, TraceNumber, atom, me, count}
use Rattle.trace_mean.specs.Trace.{ltime, element, square, rows, item, size, binary, apply, pick, TraceMessage, core}
use Rattle.trace_mean.specs.Trace.{held, cut, tail, join, Operation, bind, note, check, set, set_square, push, take}
use Rattle.trace_mean.specs.Trace.{output}
use Rattle.trace_mean.specs.Worth.{Input, state_of, number_of, content_at}
use Rattle.trace_mean.specs.Follow.{Trail, Followed, on, stopped_at, operates, before, is_done}
use Rattle.trace_laws.specs.Safe.{PushIsSafe, IsSafe, SafeTrace}
use Rattle.trace_form_laws.specs.Names.{Name, a_number, a_cell, a_queue, an_item, NumberNames, MessageNames}
use Rattle.trace_form_laws.specs.Names.{OperationNames}
use Rattle.trace_form_laws.specs.Closed.{Reach, IsMade, layer_of, reaching, Closed}
use Rattle.trace_form_laws.specs.There.{HasNumber, HasRows, IsThere, AreThere}
use Rattle.guard_mean.specs.Hoist.{one_number}
use Rattle.guard_mean.specs.Simplify.{written_number, is_settled, second, make_binary, applied_to, make_apply}
use Rattle.guard_mean.specs.Simplify.{reduced_pick}
use Rattle.guard_mean.specs.Simplify.{make_pick, make_atom, reduced, reduced_message, Left, leaves, keeps}
use Rattle.guard_mean.specs.Simplify.{reduced_operation, guarded_by, simplified}
use Rattle.guard_laws.specs.Forms.{SimplifiedStaysFormed}
use Rattle.guard_laws.proofs.Simpler.{here_worth, here_all, operation_same}

-- names of what is reduced, where numbers are such names, and an index may be reduced
module _ (So : Name → Type 0) (literal : (n : ℕ) → So (a_number (number n)))
    (cell : (p c : ℕ) (e : TraceNumber) → So (a_cell p c e) → So (a_cell p c (reduced [] [] e)))
    (queue : (p c : ℕ) (e : TraceNumber) → So (a_queue p c e) → So (a_queue p c (reduced [] [] e)))
    (one : (p c : ℕ) (e : TraceNumber) (k : ℕ) → So (an_item p c e k) → So (an_item p c (reduced [] [] e) k)) where
  atom_named : (a : Atom) → So (a_number a) → So (a_number (make_atom [] a))
  atom_named (number n) h = h
  atom_named peer h = h
  atom_named (field k) h = h
  atom_named (bound k) h = h
  atom_named (taken_number r k) h = h
  atom_named (value k) h = literal 0

  binary_named : (o : Operator) (a b : TraceNumber) → NumberNames So a → NumberNames So b →
      NumberNames So (make_binary [] o a b)
  binary_named o a b x y = go (written_number a) (written_number b) where
    either : (t : Bool) → NumberNames So (if t then one_number else binary o a b)
    either true = literal 1
    either false = (x, y)

    go : (n m : Option ℕ) → NumberNames So (second [] o a b n m)
    go (Some n) (Some m) = literal _
    go (Some n) None = either (is_settled [] o a b)
    go None m = either (is_settled [] o a b)

  apply_named : (f : Function) (a : TraceNumber) → NumberNames So a → NumberNames So (make_apply f a)
  apply_named f a x = go (written_number a) where
    go : (n : Option ℕ) → NumberNames So (applied_to f a n)
    go (Some n) = literal _
    go None = x

  pick_named : (c a b : TraceNumber) → NumberNames So c → NumberNames So a → NumberNames So b →
      NumberNames So (make_pick c a b)
  pick_named c a b x y z = go (written_number c) where
    either : (t : Bool) → NumberNames So (if t then a else b)
    either true = y
    either false = z

    go : (n : Option ℕ) → NumberNames So (reduced_pick n c a b)
    go (Some n) = either (is_true n)
    go None = (x, y, z)

  mutual
    number_named : (e : TraceNumber) → NumberNames So e → NumberNames So (reduced [] [] e)
    number_named (atom a) h = atom_named a h
    number_named me h = tt
    number_named count h = tt
    number_named ltime h = tt
    number_named (element p c e) h = (cell p c e h.0, number_named e h.1)
    number_named (square p c r k) h = (h.0, number_named r h.1, number_named k h.2)
    number_named (rows p c e) h = (queue p c e h.0, number_named e h.1)
    number_named (item p c e r k) h = (one p c e k h.0, number_named e h.1, number_named r h.2)
    number_named (size m) h = message_named m h
    number_named (binary o a b) h = binary_named o (reduced [] [] a) (reduced [] [] b) (number_named a h.0)
        (number_named b h.1)
    number_named (apply f a) h = apply_named f (reduced [] [] a) (number_named a h)
    number_named (pick c a b) h =
        pick_named (reduced [] [] c) (reduced [] [] a) (reduced [] [] b) (number_named c h.0) (number_named a h.1)
        (number_named b h.2)

    message_named : (m : TraceMessage) → MessageNames So m → MessageNames So (reduced_message [] [] m)
    message_named (core c) h = h
    message_named (held p c e r carried) h = (queue p c e h.0, number_named e h.1, number_named r h.2)
    message_named (cut m f n) h = (message_named m h.0, number_named f h.1, number_named n h.2)
    message_named (tail m f) h = (message_named m h.0, number_named f h.1)
    message_named (join a b) h = (message_named a h.0, message_named b h.1)

  numbers_named : (es : List TraceNumber) → AllByRecursion (NumberNames So) es →
      AllByRecursion (NumberNames So) (map (reduced [] []) es)
  numbers_named [] h = tt
  numbers_named (e ∷ es) h = (number_named e h.0, numbers_named es h.1)

  operation_named : (o : Operation) → OperationNames So o → OperationNames So (reduced_operation o)
  operation_named (bind e) h = number_named e h
  operation_named (note m) h = message_named m h
  operation_named (check e) h = number_named e h
  operation_named (set p c e v) h = (cell p c e h.0, number_named e h.1, number_named v h.2)
  operation_named (set_square p c r k v) h = (h.0, number_named r h.1, number_named k h.2, number_named v h.3)
  operation_named (push p c e ns m) h = (queue p c e h.0, number_named e h.1, numbers_named ns h.2, h.3)
  operation_named (take p c e) h = (queue p c e h.0, number_named e h.1)
  operation_named (output dir kind ns m) h = h

-- a reduced operation makes what the operation made
reaches_same : (stack : List LayerTree) (r : Reach) (o : Operation) → reaching stack r (reduced_operation o) ≡
    reaching stack r o
reaches_same stack r (bind e) = refl
reaches_same stack r (note m) = refl
reaches_same stack r (check e) = refl
reaches_same stack r (set p c e v) = refl
reaches_same stack r (set_square p c e k v) = refl
reaches_same stack r (push p c e ns m) = refl
reaches_same stack r (take p c e) = refl
reaches_same stack r (output dir kind ns m) = refl

closed_same : (stack : List LayerTree) (os : List Operation) (r : Reach) → Closed stack r os →
    Closed stack r (map reduced_operation os)
closed_same stack [] r h = tt
closed_same stack (o ∷ os) r h = (
  operation_named (IsMade stack r) (λ n. tt) (λ p c e x. x) (λ p c e x. x) (λ p c e k x. x) o h.0,
  subst (λ q. Closed stack q (map reduced_operation os)) (sym (reaches_same stack r o))
      (closed_same stack os (reaching stack r o) h.1),
)

-- what is at the places
there_number : (layer : LayerTree) (c : ℕ) (e : TraceNumber) → HasNumber layer c e → HasNumber layer c (reduced [] [] e)
there_number layer c e (inl alone) = inl (alone.0, ap (reduced [] []) alone.1)
there_number layer c e (inr array) = inr array

there_rows : (layer : LayerTree) (c : ℕ) (e : TraceNumber) (items : ItemsTree) → HasRows layer c e items →
    HasRows layer c (reduced [] [] e) items
there_rows layer c e items (inl alone) = inl (alone.0, ap (reduced [] []) alone.1)
there_rows layer c e items (inr array) = inr array

there_same : (stack : List LayerTree) (os : List Operation) → AreThere stack os →
    AreThere stack (map reduced_operation os)
there_same stack [] h = tt
there_same stack (o ∷ os) h = (
  operation_named (IsThere stack) (λ n. tt) (λ p c e x. there_number (layer_of stack p) c e x)
      (λ p c e x. record { items = x.items; listed = there_rows (layer_of stack p) c e x.items x.listed })
      (λ p c e k x. record {
        items = x.items;
        listed = there_rows (layer_of stack p) c e x.items x.listed;
        below =
            x.below;
      }) o h.0,
  there_same stack os h.1,
)

-- what is safe
module _ (stack : List LayerTree) (i : Input) where
  safe_one : (t : Trail) → t.kept.values ≡ [] → (o : Operation) → IsSafe stack i o t →
      IsSafe stack i (reduced_operation o) t
  safe_one t none (bind e) h = tt
  safe_one t none (note m) h = tt
  safe_one t none (check e) h = tt
  safe_one t none (set p c e v) h = tt
  safe_one t none (set_square p c r k v) h = tt
  safe_one t none (push p c e ns m) h =
      subst (λ j. PushIsSafe stack p c j (state_of t.states p)
      (record {
        numbers = map (number_of i t.kept t.states) (map (reduced [] []) ns);
        message =
            option_map (content_at i t.kept) m;
      }))
      (sym (here_worth i t.states t none e))
      (subst (λ xs. PushIsSafe stack p c (number_of i t.kept t.states e) (state_of t.states p)
      (record { numbers = xs; message = option_map (content_at i t.kept) m })) (sym (here_all i t.states t none ns)) h)
  safe_one t none (take p c e) h = subst (λ j. is_some (row_at (state_of t.states p) c j 0) ≡ true)
      (sym (here_worth i t.states t none e)) h
  safe_one t none (output dir kind ns m) h = h

  operates_same : (t : Trail) → t.kept.values ≡ [] → (o : Operation) → operates i t (reduced_operation o) ≡
      operates i t o
  operates_same t none (check e) =
      ap (λ n. if is_true n then on (record t { checks = t.checks + 1 }) else stopped_at t.checks)
      (here_worth i t.states t none e)
  operates_same t none (bind e) = ap on (operation_same i t.states t none (bind e))
  operates_same t none (note m) = ap on (operation_same i t.states t none (note m))
  operates_same t none (set p c e v) = ap on (operation_same i t.states t none (set p c e v))
  operates_same t none (set_square p c r k v) = ap on (operation_same i t.states t none (set_square p c r k v))
  operates_same t none (push p c e ns m) = ap on (operation_same i t.states t none (push p c e ns m))
  operates_same t none (take p c e) = ap on (operation_same i t.states t none (take p c e))
  operates_same t none (output dir kind ns m) = refl

  stopped_safe : (os : List Operation) (n : ℕ) → SafeTrace stack i os (stopped_at n)
  stopped_safe [] n = tt
  stopped_safe (o ∷ os) n = (tt, stopped_safe os n)

  -- as far as it was followed no entry value is kept
  abbrev NoValues : Followed → Type 0
  NoValues (on t) = t.kept.values ≡ []
  NoValues (stopped_at n) = Unit {0}

  checked_none : (t : Trail) (b : Bool) → t.kept.values ≡ [] →
      NoValues (if b then on (record t { checks = t.checks + 1 }) else stopped_at t.checks)
  checked_none t true none = none
  checked_none t false none = tt

  none_after : (t : Trail) → t.kept.values ≡ [] → (o : Operation) → NoValues (operates i t o)
  none_after t none (check e) = checked_none t (is_true (number_of i t.kept t.states e)) none
  none_after t none (bind e) = none
  none_after t none (note m) = none
  none_after t none (set p c e v) = none
  none_after t none (set_square p c r k v) = none
  none_after t none (push p c e ns m) = none
  none_after t none (take p c e) = none
  none_after t none (output dir kind ns m) = none

  safe_same : (os : List Operation) (f : Followed) → NoValues f → SafeTrace stack i os f →
      SafeTrace stack i (map reduced_operation os) f
  safe_same [] f none h = tt
  safe_same (o ∷ os) (stopped_at n) none h = (tt, stopped_safe (map reduced_operation os) n)
  safe_same (o ∷ os) (on t) none h = (
    safe_one t none o h.0,
    subst (λ f. SafeTrace stack i (map reduced_operation os) f) (sym (operates_same t none o))
        (safe_same os (operates i t o) (none_after t none o) h.1),
  )

done_same : (o : Operation) → is_done o ≡ true → is_done (reduced_operation o) ≡ true
done_same (check e) h = h
done_same (bind e) h = refl
done_same (note m) h = refl
done_same (set p c e v) h = refl
done_same (set_square p c r k v) h = refl
done_same (push p c e ns m) h = refl
done_same (take p c e) h = refl
done_same (output dir kind ns m) h = refl

all_done : (os : List Operation) → list_all is_done os ≡ true → list_all is_done (map reduced_operation os) ≡ true
all_done [] h = refl
all_done (o ∷ os) h = let both = and_parts (is_done o) (list_all is_done os) h in
    and_from _ _ (done_same o both.0) (all_done os both.1)

kept_operations : (values : List TraceNumber) (os : List Operation) (kept : Option (List TraceNumber)) →
    (guarded_by values os kept).operations ≡ os
kept_operations values os None = refl
kept_operations values os (Some ks) = refl

pub simplified_stays_formed : SimplifiedStaysFormed
simplified_stays_formed stack g = record {
  unchecked = λ h. subst (λ os. list_all is_done os ≡ true) (sym same) (all_done g.operations h);
  closed = λ r h. subst (Closed stack r) (sym same) (closed_same stack g.operations r h);
  there = λ h. subst (AreThere stack) (sym same) (there_same stack g.operations h);
  safe = λ i states h. subst (λ os. SafeTrace stack i os (on (before states))) (sym same)
      (safe_same stack i g.operations (on (before states)) refl h);
} where
  l : Left
  l = fold leaves (record { values = []; names = [] }) g.values

  same : (simplified g).operations ≡ map reduced_operation g.operations
  same = kept_operations l.values (map reduced_operation g.operations) (fold (keeps l.names) (Some []) g.conjuncts)
