-- Entry values are only added after others.
use Rattle.std.proofs.Common.{◌≡◌, ℕ, ◌+◌, Bool, true, false, List, [], ◌∷◌, ◌++◌, length, Option, Some, None, fold}
use Rattle.std.proofs.Common.{refl, sym, ap, ◌∙◌, subst, arith, append_assoc, append-nil, zero-add}
use Rattle.std.proofs.lemmas.List.{length-append}
use Rattle.std.proofs.lemmas.List.Sums.{fold-append}
use Rattle.layer_mean.specs.State.{State}
use Rattle.trace_mean.specs.Trace.{number, peer, field, bound, taken_number, value, TraceNumber, atom, me, count, ltime}
use Rattle.trace_mean.specs.Trace.{element, square, rows, item, size, binary, apply, pick, body, noted, taken_message}
use Rattle.trace_mean.specs.Trace.{nothing, TraceMessage, core, held, cut, tail, join, Chained, Operation, bind, note}
use Rattle.trace_mean.specs.Trace.{check, set, set_square, push, take, output}
use Rattle.trace_mean.specs.Worth.{Input, number_of, only_values}
use Rattle.guard_mean.specs.Perform.{with_value, values_of}
use Rattle.guard_mean.specs.Hoist.{Hoisting, AtEntry, named_term, named_value, named_if, sets, squares, moves, back}
use Rattle.guard_mean.specs.Hoist.{size_back, all_back, put_size_back, hoists}

-- a list with more after it
abbrev pub Grown : {A : Type 0} → List A → List A → Type 0
Grown {A} xs ys = (more : List A) × (ys ≡ xs ++ more)

pub grown_same : {A : Type 0} (xs : List A) → Grown xs xs
grown_same xs = ([], sym (append-nil xs))

pub grown_one : {A : Type 0} (xs : List A) (x : A) → Grown xs (xs ++ x ∷ [])
grown_one xs x = (x ∷ [], refl)

pub grown_then : {A : Type 0} (xs ys zs : List A) → Grown xs ys → Grown ys zs → Grown xs zs
grown_then xs ys zs a b = (a.0 ++ b.0, b.1 ∙ ap (λ l. l ++ b.0) a.1 ∙ append_assoc xs a.0 b.0)

pub named_grows : (e : TraceNumber) (vs : List TraceNumber) → Grown vs (named_term e vs).values
named_grows (atom a) vs = grown_same vs
named_grows (size (core body)) vs = grown_same vs
named_grows e vs = grown_one vs _

pub name_grows : (vs : List TraceNumber) (x : AtEntry) → Grown vs x.values → Grown vs (named_value x).values
name_grows vs x g = grown_then vs x.values (named_value x).values g (named_grows x.term x.values)

name_if_grows : (b : Bool) (vs : List TraceNumber) (x : AtEntry) → Grown vs x.values → Grown vs (named_if b x).values
name_if_grows true vs x g = name_grows vs x g
name_if_grows false vs x g = g

mutual
  pub back_grows : (h : Hoisting) (e : TraceNumber) (vs : List TraceNumber) → Grown vs (back h e vs).values
  back_grows h (atom (number n)) vs = grown_same vs
  back_grows h (atom peer) vs = grown_same vs
  back_grows h (atom (field k)) vs = grown_same vs
  back_grows h (atom (bound k)) vs = grown_same vs
  back_grows h (atom (taken_number r k)) vs = named_grows _ vs
  back_grows h (atom (value k)) vs = grown_same vs
  back_grows h me vs = grown_same vs
  back_grows h count vs = grown_same vs
  back_grows h ltime vs = grown_same vs
  back_grows h (element p c e) vs = name_if_grows (sets h.log p c) vs _ (back_grows h e vs)
  back_grows h (square p c r k) vs = name_if_grows (squares h.log p c) vs _
      (grown_then vs _ _ (back_grows h r vs) (back_grows h k (back h r vs).values))
  back_grows h (rows p c e) vs = name_if_grows (moves h.log p c) vs _ (back_grows h e vs)
  back_grows h (item p c e r k) vs = name_if_grows (moves h.log p c) vs _
      (grown_then vs _ _ (back_grows h e vs) (back_grows h r (back h e vs).values))
  back_grows h (size m) vs = size_grows h m vs
  back_grows h (binary o a b) vs = grown_then vs _ _ (back_grows h a vs) (back_grows h b (back h a vs).values)
  back_grows h (apply f a) vs = back_grows h a vs
  back_grows h (pick c a b) vs =
      let x = back h c vs in let y = back h a x.values in
      grown_then vs _ _ (back_grows h c vs)
      (grown_then x.values _ _ (back_grows h a x.values) (back_grows h b y.values))

  pub size_grows : (h : Hoisting) (m : TraceMessage) (vs : List TraceNumber) → Grown vs (size_back h m vs).values
  size_grows h (core body) vs = grown_same vs
  size_grows h (core (noted k)) vs = grown_same vs
  size_grows h (core (taken_message r carried)) vs = named_grows _ vs
  size_grows h (held p c e r carried) vs = name_if_grows (moves h.log p c) vs _
      (grown_then vs _ _ (back_grows h e vs) (back_grows h r (back h e vs).values))
  size_grows h (core nothing) vs = grown_same vs
  size_grows h (cut m f n) vs =
      let x = named_value (size_back h m vs) in let y = named_value (back h f x.values) in
      grown_then vs _ _ (name_grows vs _ (size_grows h m vs))
      (grown_then x.values _ _ (name_grows x.values _ (back_grows h f x.values))
      (name_grows y.values _ (back_grows h n y.values)))
  size_grows h (tail m f) vs =
      let x = named_value (size_back h m vs) in
      grown_then vs _ _ (name_grows vs _ (size_grows h m vs)) (name_grows x.values _ (back_grows h f x.values))
  size_grows h (join a b) vs =
      let x = named_value (size_back h a vs) in
      grown_then vs _ _ (name_grows vs _ (size_grows h a vs)) (name_grows x.values _ (size_grows h b x.values))

pub all_grows : (h : Hoisting) (es vs : List TraceNumber) → Grown vs (all_back h es vs).values
all_grows h [] vs = grown_same vs
all_grows h (e ∷ es) vs = grown_then vs _ _ (back_grows h e vs) (all_grows h es (back h e vs).values)

pub put_grows : (h : Hoisting) (m : Option Chained) (vs : List TraceNumber) → Grown vs (put_size_back h m vs).values
put_grows h None vs = grown_same vs
put_grows h (Some m) vs = size_grows h (core m.core) vs

pub hoists_grow : (h : Hoisting) (o : Operation) → Grown h.values (hoists h o).values
hoists_grow h (bind e) = name_grows h.values _ (back_grows h e h.values)
hoists_grow h (note m) = name_grows h.values _ (size_grows h m h.values)
hoists_grow h (check e) = back_grows h e h.values
hoists_grow h (set p c e v) =
    grown_then h.values _ _ (back_grows h e h.values) (back_grows h v (back h e h.values).values)
hoists_grow h (set_square p c r k v) =
    let x = back h r h.values in let y = back h k x.values in
    grown_then h.values _ _ (back_grows h r h.values)
    (grown_then x.values _ _ (back_grows h k x.values) (back_grows h v y.values))
hoists_grow h (push p c e numbers m) =
    let x = back h e h.values in let y = all_back h numbers x.values in
    grown_then h.values _ _ (back_grows h e h.values)
    (grown_then x.values _ _ (all_grows h numbers x.values) (put_grows h m y.values))
hoists_grow h (take p c e) = back_grows h e h.values
hoists_grow h (output dir kind numbers m) = grown_same h.values

pub conjuncts_grow : (h : Hoisting) (o : Operation) → Grown h.conjuncts (hoists h o).conjuncts
conjuncts_grow h (check e) = grown_one h.conjuncts _
conjuncts_grow h o = grown_same h.conjuncts

-- more entry values are worth the same numbers, and more after them
module _ (i : Input) (ss : List State) where
  fold_grows : (es : List TraceNumber) (vs : List ℕ) → Grown vs (fold (with_value i ss) vs es)
  fold_grows [] vs = grown_same vs
  fold_grows (e ∷ es) vs = grown_then vs _ _ (grown_one vs _) (fold_grows es (with_value i ss vs e))

  pub values_append : (es fs : List TraceNumber) →
      values_of i ss (es ++ fs) ≡ fold (with_value i ss) (values_of i ss es) fs
  values_append es fs = fold-append (with_value i ss) [] es fs

  pub values_grow : (es fs : List TraceNumber) → Grown es fs → Grown (values_of i ss es) (values_of i ss fs)
  values_grow es fs g = subst (λ l. Grown (values_of i ss es) (values_of i ss l)) (sym g.1)
      (subst (Grown (values_of i ss es)) (sym (values_append es g.0)) (fold_grows g.0 (values_of i ss es)))

  length_fold : (es : List TraceNumber) (vs : List ℕ) → length (fold (with_value i ss) vs es) ≡ length es + length vs
  length_fold [] vs = sym (zero-add (length vs))
  length_fold (e ∷ es) vs =
      let rest = length_fold es (with_value i ss vs e) in
      let one = length-append vs (number_of i (only_values vs) ss e ∷ []) in
      let here : length (number_of i (only_values vs) ss e ∷ []) ≡ 1 = refl in
      omega (arith, rest, one, here)

  pub length_values : (es : List TraceNumber) → length (values_of i ss es) ≡ length es
  length_values es = let all = length_fold es [] in omega (arith, all)
