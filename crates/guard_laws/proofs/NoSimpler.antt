-- A simplified guarded handler can't be made simpler.
use Rattle.std.proofs.Common.{◌≡◌, ℕ, suc, Bool, true, false, not, ◌&&◌, ◌||◌, if◌then◌else◌, List, [], ◌∷◌, ◌++◌, map}
use Rattle.std.proofs.Common.{Option, Some, None, fold, refl, sym, ap, ◌∙◌, append_assoc, append-nil}
use Rattle.std.proofs.lemmas.Bool.{or_parts, and_from, and_parts}
use Rattle.std.specs.List.{list_all}
use Rattle.layer_words.specs.declared.operators.Function.{Function}
use Rattle.layer_words.specs.declared.operators.Operator.{Operator}
use Rattle.layer_mean.specs.Value.{is_true}
use Rattle.trace_mean.specs.Trace.{Atom, number, peer, field, bound, taken_number, value, TraceNumber, atom, me, count}
use Rattle.trace_mean.specs.Trace.{ltime, element, square, rows, item, size, binary, apply, pick, TraceMessage, core}
use Rattle.trace_mean.specs.Trace.{held, cut, tail, join, Operation, bind, note, check, set, set_square, push, take}
use Rattle.trace_mean.specs.Trace.{output}
use Rattle.guard_mean.specs.Alike.{same_number, is_among}
use Rattle.guard_mean.specs.Hoist.{one_number}
use Rattle.guard_mean.specs.Simplify.{is_comparison, is_equal, is_number, written_number, is_settled, second}
use Rattle.guard_mean.specs.Simplify.{make_binary}
use Rattle.guard_mean.specs.Simplify.{applied_to, make_apply, reduced_pick, make_pick, reduced, reduced_message, Left}
use Rattle.guard_mean.specs.Simplify.{found_among, other_value, next_value, leaves, another, keeps, reduced_operation}
use Rattle.guard_mean.specs.Simplify.{guarded_by}
use Rattle.guard_mean.specs.Reduced.{plain, plain_message, clear, clear_message, is_new, all_new, all_clear, is_never}
use Rattle.guard_mean.specs.Reduced.{plain_operation, is_reduced}
use Rattle.guard_laws.specs.Simpler.{SimplifiedIsReduced}

no_number : (e : TraceNumber) → written_number e ≡ None → is_number e ≡ false
no_number (atom (number m)) is = absurd (cc is)
no_number (atom peer) is = refl
no_number (atom (field k)) is = refl
no_number (atom (bound k)) is = refl
no_number (atom (taken_number r k)) is = refl
no_number (atom (value k)) is = refl
no_number me is = refl
no_number count is = refl
no_number ltime is = refl
no_number (element p c e) is = refl
no_number (square p c r k) is = refl
no_number (rows p c e) is = refl
no_number (item p c e r k) is = refl
no_number (size m) is = refl
no_number (binary o a b) is = refl
no_number (apply f a) is = refl
no_number (pick c a b) is = refl

both_true : (a b : Bool) → a ≡ true → b ≡ true → (a && b) ≡ true
both_true a b x y = and_from a b x y

not_false : (a : Bool) → a ≡ false → not a ≡ true
not_false a is = ap not is

left_false : (a b : Bool) → a ≡ false → (a && b) ≡ false
left_false a b is = ap (λ t. t && b) is

right_false : (a b : Bool) → b ≡ false → (a && b) ≡ false
right_false true b is = is
right_false false b is = refl

module _ (ks : List TraceNumber) where
  -- what is made of plain parts is plain, and what is made of clear parts is clear
  binary_plain : (o : Operator) (a b : TraceNumber) → plain a ≡ true → plain b ≡ true → plain (make_binary ks o a b) ≡
      true
  binary_plain o a b pa pb = go (written_number a) (written_number b) refl refl where
    parts_plain : not (is_number a && is_number b) ≡ true → (t : Bool) → is_settled ks o a b ≡ t →
        plain (if t then one_number else binary o a b) ≡ true
    parts_plain out true is = refl
    parts_plain out false is = let no =
        or_parts (is_equal o && same_number a b) (is_comparison o && is_among ks (binary o a b)) is in
        both_true _ _ out (both_true _ _ (not_false _ no.0) (both_true _ _ pa pb))

    go : (x y : Option ℕ) → written_number a ≡ x → written_number b ≡ y → plain (second ks o a b x y) ≡ true
    go (Some n) (Some m) is too = refl
    go (Some n) None is too = parts_plain (not_false _ (right_false (is_number a) _ (no_number b too)))
        (is_settled ks o a b) refl
    go None y is too = parts_plain (not_false _ (left_false _ (is_number b) (no_number a is))) (is_settled ks o a b)
        refl

  binary_clear : (o : Operator) (a b : TraceNumber) → clear ks a ≡ true → clear ks b ≡ true →
      clear ks (make_binary ks o a b) ≡ true
  binary_clear o a b pa pb = go (written_number a) (written_number b) where
    parts_clear : (t : Bool) → is_settled ks o a b ≡ t → clear ks (if t then one_number else binary o a b) ≡ true
    parts_clear true is = refl
    parts_clear false is = let no =
        or_parts (is_equal o && same_number a b) (is_comparison o && is_among ks (binary o a b)) is in
        both_true _ _ (not_false _ no.1) (both_true _ _ pa pb)

    go : (x y : Option ℕ) → clear ks (second ks o a b x y) ≡ true
    go (Some n) (Some m) = refl
    go (Some n) None = parts_clear (is_settled ks o a b) refl
    go None y = parts_clear (is_settled ks o a b) refl

  apply_plain : (f : Function) (a : TraceNumber) → plain a ≡ true → plain (make_apply f a) ≡ true
  apply_plain f a pa = go (written_number a) refl where
    go : (x : Option ℕ) → written_number a ≡ x → plain (applied_to f a x) ≡ true
    go (Some n) is = refl
    go None is = both_true _ _ (not_false _ (no_number a is)) pa

  apply_clear : (f : Function) (a : TraceNumber) → clear ks a ≡ true → clear ks (make_apply f a) ≡ true
  apply_clear f a pa = go (written_number a) where
    go : (x : Option ℕ) → clear ks (applied_to f a x) ≡ true
    go (Some n) = refl
    go None = pa

  pick_plain : (c a b : TraceNumber) → plain c ≡ true → plain a ≡ true → plain b ≡ true → plain (make_pick c a b) ≡ true
  pick_plain c a b pc pa pb = go (written_number c) refl where
    choice : (t : Bool) → plain (if t then a else b) ≡ true
    choice true = pa
    choice false = pb

    go : (x : Option ℕ) → written_number c ≡ x → plain (reduced_pick x c a b) ≡ true
    go (Some n) is = choice (is_true n)
    go None is = both_true _ _ (not_false _ (left_false _ (is_number a && is_number b) (no_number c is)))
        (both_true _ _ pc (both_true _ _ pa pb))

  pick_clear : (c a b : TraceNumber) → clear ks c ≡ true → clear ks a ≡ true → clear ks b ≡ true →
      clear ks (make_pick c a b) ≡ true
  pick_clear c a b pc pa pb = go (written_number c) where
    choice : (t : Bool) → clear ks (if t then a else b) ≡ true
    choice true = pa
    choice false = pb

    go : (x : Option ℕ) → clear ks (reduced_pick x c a b) ≡ true
    go (Some n) = choice (is_true n)
    go None = both_true _ _ pc (both_true _ _ pa pb)

  module _ (ns : List Atom) where
    mutual
      pub is_plain : (e : TraceNumber) → plain (reduced ns ks e) ≡ true
      is_plain (atom a) = refl
      is_plain me = refl
      is_plain count = refl
      is_plain ltime = refl
      is_plain (element p c e) = is_plain e
      is_plain (square p c r k) = both_true _ _ (is_plain r) (is_plain k)
      is_plain (rows p c e) = is_plain e
      is_plain (item p c e r k) = both_true _ _ (is_plain e) (is_plain r)
      is_plain (size m) = is_plain_message m
      is_plain (binary o a b) = binary_plain o (reduced ns ks a) (reduced ns ks b) (is_plain a) (is_plain b)
      is_plain (apply f a) = apply_plain f (reduced ns ks a) (is_plain a)
      is_plain (pick c a b) = pick_plain (reduced ns ks c) (reduced ns ks a) (reduced ns ks b) (is_plain c) (is_plain a)
          (is_plain b)

      pub is_plain_message : (m : TraceMessage) → plain_message (reduced_message ns ks m) ≡ true
      is_plain_message (core c) = refl
      is_plain_message (held p c e r carried) = both_true _ _ (is_plain e) (is_plain r)
      is_plain_message (cut m f n) = both_true _ _ (is_plain_message m) (both_true _ _ (is_plain f) (is_plain n))
      is_plain_message (tail m f) = both_true _ _ (is_plain_message m) (is_plain f)
      is_plain_message (join a b) = both_true _ _ (is_plain_message a) (is_plain_message b)

    mutual
      pub is_clear : (e : TraceNumber) → clear ks (reduced ns ks e) ≡ true
      is_clear (atom a) = refl
      is_clear me = refl
      is_clear count = refl
      is_clear ltime = refl
      is_clear (element p c e) = is_clear e
      is_clear (square p c r k) = both_true _ _ (is_clear r) (is_clear k)
      is_clear (rows p c e) = is_clear e
      is_clear (item p c e r k) = both_true _ _ (is_clear e) (is_clear r)
      is_clear (size m) = is_clear_message m
      is_clear (binary o a b) = binary_clear o (reduced ns ks a) (reduced ns ks b) (is_clear a) (is_clear b)
      is_clear (apply f a) = apply_clear f (reduced ns ks a) (is_clear a)
      is_clear (pick c a b) = pick_clear (reduced ns ks c) (reduced ns ks a) (reduced ns ks b) (is_clear c) (is_clear a)
          (is_clear b)

      pub is_clear_message : (m : TraceMessage) → clear_message ks (reduced_message ns ks m) ≡ true
      is_clear_message (core c) = refl
      is_clear_message (held p c e r carried) = both_true _ _ (is_clear e) (is_clear r)
      is_clear_message (cut m f n) = both_true _ _ (is_clear_message m) (both_true _ _ (is_clear f) (is_clear n))
      is_clear_message (tail m f) = both_true _ _ (is_clear_message m) (is_clear f)
      is_clear_message (join a b) = both_true _ _ (is_clear_message a) (is_clear_message b)

-- entry values
new_last : (es xs : List TraceNumber) (x : TraceNumber) → all_new es xs ≡ true → is_new (es ++ xs) x ≡ true →
    all_new es (xs ++ x ∷ []) ≡ true
new_last es [] x h new = both_true _ _ (ap (λ l. is_new l x) (sym (append-nil es)) ∙ new) refl
new_last es (y ∷ xs) x h new = let both = and_parts (is_new es y) (all_new (es ++ y ∷ []) xs) h in
    both_true _ _ both.0 (new_last (es ++ y ∷ []) xs x both.1
    (ap (λ l. is_new l x) (append_assoc es (y ∷ []) xs) ∙ new))

not_found : (es : List TraceNumber) (e : TraceNumber) (k : ℕ) → found_among k es e ≡ None → is_among es e ≡ false
not_found [] e k is = refl
not_found (x ∷ es) e k is = go (same_number x e) is (not_found es e (suc k)) where
  go : (t : Bool) → (if t then Some k else found_among (suc k) es e) ≡ None →
      (found_among (suc k) es e ≡ None → is_among es e ≡ false) →
      (t || is_among es e) ≡ false
  go true is rest = absurd (cc is)
  go false is rest = rest is

left_new : (l : Left) (e : TraceNumber) → all_new [] l.values ≡ true → all_new [] (leaves l e).values ≡ true
left_new l e h = go (written_number x) refl where
  x : TraceNumber
  x = reduced l.names [] e

  seek : written_number x ≡ None → (o : Option ℕ) → found_among 0 l.values x ≡ o →
      all_new [] (other_value l x o).values ≡ true
  seek out (Some j) is = h
  seek out None is = new_last [] l.values x h
      (both_true _ _ (is_plain [] l.names e)
      (both_true _ _ (not_false _ (no_number x out)) (not_false _ (not_found l.values x 0 is))))

  go : (o : Option ℕ) → written_number x ≡ o → all_new [] (next_value l x o).values ≡ true
  go (Some n) is = h
  go None is = seek is (found_among 0 l.values x) refl

left_all_new : (es : List TraceNumber) (l : Left) → all_new [] l.values ≡ true → all_new [] (fold leaves l es).values ≡
    true
left_all_new [] l h = h
left_all_new (e ∷ es) l h = left_all_new es (leaves l e) (left_new l e h)

-- conjuncts
clear_last : (es xs : List TraceNumber) (x : TraceNumber) → all_clear es xs ≡ true → is_new (es ++ xs) x ≡ true →
    clear (es ++ xs) x ≡ true →
    all_clear es (xs ++ x ∷ []) ≡ true
clear_last es [] x h new is = both_true _ _ (both_true _ _ (ap (λ l. is_new l x) (sym (append-nil es)) ∙ new)
    (ap (λ l. clear l x) (sym (append-nil es)) ∙ is)) refl
clear_last es (y ∷ xs) x h new is = let both = and_parts (is_new es y && clear es y) (all_clear (es ++ y ∷ []) xs) h in
    both_true _ _ both.0 (clear_last (es ++ y ∷ []) xs x both.1
    (ap (λ l. is_new l x) (append_assoc es (y ∷ []) xs) ∙ new)
    (ap (λ l. clear l x) (append_assoc es (y ∷ []) xs) ∙ is))

abbrev KeptClear : Option (List TraceNumber) → Type 0
KeptClear None = Unit {0}
KeptClear (Some ks) = all_clear [] ks ≡ true

kept_clear : (ns : List Atom) (kept : Option (List TraceNumber)) (e : TraceNumber) → KeptClear kept →
    KeptClear (keeps ns kept e)
kept_clear ns None e h = tt
kept_clear ns (Some ks) e h = go (written_number x) refl where
  x : TraceNumber
  x = reduced ns ks e

  number_kept : (t : Bool) → KeptClear (if t then Some ks else None)
  number_kept true = h
  number_kept false = tt

  other_kept : written_number x ≡ None → (t : Bool) → is_among ks x ≡ t →
      KeptClear (if t then Some ks else Some (ks ++ x ∷ []))
  other_kept out true is = h
  other_kept out false is = clear_last [] ks x h
      (both_true _ _ (is_plain ks ns e) (both_true _ _ (not_false _ (no_number x out)) (not_false _ is)))
      (is_clear ks ns e)

  go : (o : Option ℕ) → written_number x ≡ o → KeptClear (another ks x o)
  go (Some n) is = number_kept (is_true n)
  go None is = other_kept is (is_among ks x) refl

kept_all_clear : (ns : List Atom) (es : List TraceNumber) (kept : Option (List TraceNumber)) → KeptClear kept →
    KeptClear (fold (keeps ns) kept es)
kept_all_clear ns [] kept h = h
kept_all_clear ns (e ∷ es) kept h = kept_all_clear ns es (keeps ns kept e) (kept_clear ns kept e h)

-- operations
plain_numbers : (es : List TraceNumber) → list_all plain (map (reduced [] []) es) ≡ true
plain_numbers [] = refl
plain_numbers (e ∷ es) = both_true _ _ (is_plain [] [] e) (plain_numbers es)

operation_plain : (o : Operation) → plain_operation (reduced_operation o) ≡ true
operation_plain (bind e) = is_plain [] [] e
operation_plain (note m) = is_plain_message [] [] m
operation_plain (check e) = is_plain [] [] e
operation_plain (set p c e v) = both_true _ _ (is_plain [] [] e) (is_plain [] [] v)
operation_plain (set_square p c r k v) =
    both_true _ _ (is_plain [] [] r) (both_true _ _ (is_plain [] [] k) (is_plain [] [] v))
operation_plain (push p c e numbers m) = both_true _ _ (is_plain [] [] e) (plain_numbers numbers)
operation_plain (take p c e) = is_plain [] [] e
operation_plain (output dir kind numbers m) = refl

operations_plain : (os : List Operation) → list_all plain_operation (map reduced_operation os) ≡ true
operations_plain [] = refl
operations_plain (o ∷ os) = both_true _ _ (operation_plain o) (operations_plain os)

pub simplified_is_reduced : SimplifiedIsReduced
simplified_is_reduced g = by_kept (fold (keeps l.names) (Some []) g.conjuncts)
    (kept_all_clear l.names g.conjuncts (Some []) refl) where
      l : Left
      l = fold leaves (record { values = []; names = [] }) g.values

      either : (ks : List TraceNumber) → all_clear [] ks ≡ true → (is_never ks || all_clear [] ks) ≡ true
      either ks is = go (is_never ks) where
        go : (t : Bool) → (t || all_clear [] ks) ≡ true
        go true = refl
        go false = is

      by_kept : (kept : Option (List TraceNumber)) → KeptClear kept →
          is_reduced (guarded_by l.values (map reduced_operation g.operations) kept) ≡ true
      by_kept None h = operations_plain g.operations
      by_kept (Some ks) h = both_true _ _ (left_all_new g.values (record { values = []; names = [] }) refl)
          (both_true _ _ (either ks h) (operations_plain g.operations))
