-- Operations after the last check add nothing to a guard.
use Rattle.std.proofs.Common.{◌≡◌, ◌∙◌, ℕ, zero, suc, ◌+◌, ◌<◌, ◌≤◌, Bool, true, false, ◌&&◌, ◌||◌, if◌then◌else◌, List}
use Rattle.std.proofs.Common.{[], ◌∷◌}
use Rattle.std.proofs.Common.{◌++◌, map, length, slice_index_or, fold, refl, sym, ap, ap₂, subst, arith, append_assoc}
use Rattle.std.proofs.Common.{append-nil}
use Rattle.std.specs.Prelude.{◌==◌, nat_lt, not}
use Rattle.std.specs.List.{list_all}
use Rattle.std.proofs.lemmas.Bool.{and_parts, false≢true, ltb-true, ne_eqb}
use Rattle.trace_mean.specs.Trace.{Atom, number, peer, field, bound, taken_number, value, TraceNumber, atom, me, count}
use Rattle.trace_mean.specs.Trace.{ltime, element, square, rows, item, size, binary, apply, pick, TraceMessage, core}
use Rattle.trace_mean.specs.Trace.{held, cut, tail, join, Operation, bind, note, check, set, set_square, push, take}
use Rattle.trace_mean.specs.Trace.{output, Guarded}
use Rattle.trace_mean.specs.Follow.{is_done, unchecked}
use Rattle.guard_mean.specs.Closed.{closed_number, closed_message, is_closed, all_closed}
use Rattle.guard_mean.specs.Hoist.{Hoisting, hoists, hoisted, nothing_yet}
use Rattle.guard_mean.specs.Prune.{reads_atom, reads, reads_message, renamed, renamed_message, any_reads, needed_by}
use Rattle.guard_mean.specs.Prune.{flags}
use Rattle.guard_mean.specs.Prune.{prunes_one, prunes, pruned, hoist}
use Rattle.guard_mean.specs.Simplify.{Left, make_atom}
use Rattle.guard_laws.specs.LastCheck.{has_check, to_last_check, GuardsEndWithChecks}
use Rattle.guard_laws.proofs.Closed.{first_is_closed}
use Rattle.guard_laws.proofs.Grows.{Grown, grown_same, grown_then, hoists_grow}

-- What is closed over n entry values reads none of a number from n on.
neither : (a b : Bool) → a ≡ false → b ≡ false → (a || b) ≡ false
neither a b x y = ap₂ (λ p q. p || q) x y

value_unread : (n v k : ℕ) → n ≤ v → nat_lt k n ≡ true → (v == k) ≡ false
value_unread n v k past h = ne_eqb v k (λ same. let less = ltb-true k n h in omega (arith, less, past, same))

mutual
  number_unread : (n v : ℕ) (e : TraceNumber) → n ≤ v → closed_number n e ≡ true → reads v e ≡ false
  number_unread n v (atom (number k)) past h = refl
  number_unread n v (atom peer) past h = refl
  number_unread n v (atom (field k)) past h = refl
  number_unread n v (atom (bound k)) past h = absurd (false≢true h)
  number_unread n v (atom (taken_number r k)) past h = absurd (false≢true h)
  number_unread n v (atom (value k)) past h = value_unread n v k past h
  number_unread n v me past h = refl
  number_unread n v count past h = refl
  number_unread n v ltime past h = refl
  number_unread n v (element p c e) past h = number_unread n v e past h
  number_unread n v (square p c r k) past h = let b = and_parts (closed_number n r) (closed_number n k) h in
      neither _ _ (number_unread n v r past b.0) (number_unread n v k past b.1)
  number_unread n v (rows p c e) past h = number_unread n v e past h
  number_unread n v (item p c e r k) past h = let b = and_parts (closed_number n e) (closed_number n r) h in
      neither _ _ (number_unread n v e past b.0) (number_unread n v r past b.1)
  number_unread n v (size m) past h = message_unread n v m past h
  number_unread n v (binary o a b) past h = let c = and_parts (closed_number n a) (closed_number n b) h in
      neither _ _ (number_unread n v a past c.0) (number_unread n v b past c.1)
  number_unread n v (apply f a) past h = number_unread n v a past h
  number_unread n v (pick c a b) past h =
      let d = and_parts (closed_number n c) (closed_number n a && closed_number n b) h in
      let e = and_parts (closed_number n a) (closed_number n b) d.1 in
      neither _ _ (number_unread n v c past d.0)
      (neither _ _ (number_unread n v a past e.0) (number_unread n v b past e.1))

  message_unread : (n v : ℕ) (m : TraceMessage) → n ≤ v → closed_message n m ≡ true → reads_message v m ≡ false
  message_unread n v (core c) past h = refl
  message_unread n v (held p c e r carried) past h = let b = and_parts (closed_number n e) (closed_number n r) h in
      neither _ _ (number_unread n v e past b.0) (number_unread n v r past b.1)
  message_unread n v (cut m f k) past h =
      let b = and_parts (closed_message n m) (closed_number n f && closed_number n k) h in
      let c = and_parts (closed_number n f) (closed_number n k) b.1 in
      neither _ _ (message_unread n v m past b.0)
      (neither _ _ (number_unread n v f past c.0) (number_unread n v k past c.1))
  message_unread n v (tail m f) past h = let b = and_parts (closed_message n m) (closed_number n f) h in
      neither _ _ (message_unread n v m past b.0) (number_unread n v f past b.1)
  message_unread n v (join a b) past h = let c = and_parts (closed_message n a) (closed_message n b) h in
      neither _ _ (message_unread n v a past c.0) (message_unread n v b past c.1)

all_unread : (n v : ℕ) (cs : List TraceNumber) → n ≤ v → list_all (closed_number n) cs ≡ true → any_reads v cs ≡ false
all_unread n v [] past h = refl
all_unread n v (c ∷ cs) past h = let b = and_parts (closed_number n c) (list_all (closed_number n) cs) h in
    neither _ _ (number_unread n v c past b.0) (all_unread n v cs past b.1)

-- Names of no use after others name nothing else.
abbrev idle : List TraceNumber → List Bool
idle [] = []
idle (w ∷ ws) = false ∷ idle ws

abbrev zeros : List TraceNumber → List Atom
zeros [] = []
zeros (w ∷ ws) = number 0 ∷ zeros ws

zero_past : (ws : List TraceNumber) (k : ℕ) → slice_index_or (zeros ws) k (number 0) ≡ number 0
zero_past [] k = refl
zero_past (w ∷ ws) zero = refl
zero_past (w ∷ ws) (suc k) = zero_past ws k

name_stays : (ns : List Atom) (ws : List TraceNumber) (k : ℕ) →
    slice_index_or (ns ++ zeros ws) k (number 0) ≡ slice_index_or ns k (number 0)
name_stays [] ws k = zero_past ws k
name_stays (n ∷ ns) ws zero = refl
name_stays (n ∷ ns) ws (suc k) = name_stays ns ws k

-- Which entry values are needed doesn't change with values after them that no conjunct reads.
still_needed : (v : ℕ) (vs ws cs : List TraceNumber) (fs : List Bool) → length fs ≡ length vs →
    needed_by v (vs ++ ws) (fs ++ idle ws) cs ≡ needed_by v vs fs cs
still_needed v [] [] cs [] same = refl
still_needed v [] (w ∷ ws) cs [] same = still_needed v [] ws cs [] refl
still_needed v [] ws cs (f ∷ fs) same = absurd (omega (arith, same))
still_needed v (e ∷ vs) ws cs [] same = absurd (omega (arith, same))
still_needed v (e ∷ vs) ws cs (f ∷ fs) same = ap (λ b. (f && reads v e) || b)
    (still_needed v vs ws cs fs (omega (arith, same)))

flags_long : (k : ℕ) (vs cs : List TraceNumber) → length (flags k vs cs) ≡ length vs
flags_long k [] cs = refl
flags_long k (e ∷ vs) cs = ap suc (flags_long (suc k) vs cs)

none_needed : (k : ℕ) (ws cs : List TraceNumber) → ((v : ℕ) → k ≤ v → any_reads v cs ≡ false) → flags k ws cs ≡ idle ws
none_needed k [] cs unread = refl
none_needed k (w ∷ ws) cs unread =
    let rest = none_needed (suc k) ws cs (λ v past. unread v (omega (arith, past))) in
    (λ i. needed_by k ws (rest i) cs ∷ rest i)
    ∙ ap (λ b. b ∷ idle ws) (still_needed k [] ws cs [] refl ∙ unread k (omega arith))

flags_more : (k : ℕ) (vs ws cs : List TraceNumber) → ((v : ℕ) → k + length vs ≤ v → any_reads v cs ≡ false) →
    flags k (vs ++ ws) cs ≡ flags k vs cs ++ idle ws
flags_more k [] ws cs unread = none_needed k ws cs (λ v past. unread v (omega (arith, past)))
flags_more k (e ∷ vs) ws cs unread =
    let rest = flags_more (suc k) vs ws cs (λ v past. unread v (omega (arith, past))) in
    (λ i. needed_by k (vs ++ ws) (rest i) cs ∷ rest i)
    ∙ ap (λ b. b ∷ (flags (suc k) vs cs ++ idle ws))
    (still_needed k vs ws cs (flags (suc k) vs cs) (flags_long (suc k) vs cs))

prunes_idle : (l : Left) (ws : List TraceNumber) →
    prunes l ws (idle ws) ≡ record { values = l.values; names = l.names ++ zeros ws }
prunes_idle l [] = λ i. record { values = l.values; names = sym (append-nil l.names) i }
prunes_idle l (w ∷ ws) = prunes_idle (prunes_one l w false) ws
    ∙ (λ i. record { values = l.values; names = append_assoc l.names (number 0 ∷ []) (zeros ws) i })

prunes_more : (l : Left) (vs ws : List TraceNumber) (fs : List Bool) → length fs ≡ length vs →
    prunes l (vs ++ ws) (fs ++ idle ws) ≡
    record { values = (prunes l vs fs).values; names = (prunes l vs fs).names ++ zeros ws }
prunes_more l [] ws [] same = prunes_idle l ws
prunes_more l [] ws (f ∷ fs) same = absurd (omega (arith, same))
prunes_more l (e ∷ vs) ws [] same = absurd (omega (arith, same))
prunes_more l (e ∷ vs) ws (f ∷ fs) same = prunes_more (prunes_one l e f) vs ws fs (omega (arith, same))

atom_stays : (ns : List Atom) (ws : List TraceNumber) (a : Atom) → make_atom (ns ++ zeros ws) a ≡ make_atom ns a
atom_stays ns ws (number n) = refl
atom_stays ns ws peer = refl
atom_stays ns ws (field k) = refl
atom_stays ns ws (bound k) = refl
atom_stays ns ws (taken_number r k) = refl
atom_stays ns ws (value k) = name_stays ns ws k

module _ (ns : List Atom) (ws : List TraceNumber) where
  abbrev more : List Atom
  more = ns ++ zeros ws

  mutual
    renamed_stays : (e : TraceNumber) → renamed more e ≡ renamed ns e
    renamed_stays (atom a) = ap atom (atom_stays ns ws a)
    renamed_stays me = refl
    renamed_stays count = refl
    renamed_stays ltime = refl
    renamed_stays (element p c e) = ap (element p c) (renamed_stays e)
    renamed_stays (square p c r k) = ap₂ (square p c) (renamed_stays r) (renamed_stays k)
    renamed_stays (rows p c e) = ap (rows p c) (renamed_stays e)
    renamed_stays (item p c e r k) = ap₂ (λ a b. item p c a b k) (renamed_stays e) (renamed_stays r)
    renamed_stays (size m) = ap size (message_stays m)
    renamed_stays (binary o a b) = ap₂ (binary o) (renamed_stays a) (renamed_stays b)
    renamed_stays (apply f a) = ap (apply f) (renamed_stays a)
    renamed_stays (pick c a b) = λ i. pick (renamed_stays c i) (renamed_stays a i) (renamed_stays b i)

    message_stays : (m : TraceMessage) → renamed_message more m ≡ renamed_message ns m
    message_stays (core c) = refl
    message_stays (held p c e r carried) = ap₂ (λ a b. held p c a b carried) (renamed_stays e) (renamed_stays r)
    message_stays (cut m f k) = λ i. cut (message_stays m i) (renamed_stays f i) (renamed_stays k i)
    message_stays (tail m f) = ap₂ tail (message_stays m) (renamed_stays f)
    message_stays (join a b) = ap₂ join (message_stays a) (message_stays b)

  all_stay : (es : List TraceNumber) → map (renamed more) es ≡ map (renamed ns) es
  all_stay [] = refl
  all_stay (e ∷ es) = λ i. renamed_stays e i ∷ all_stay es i

-- Pruning forgets entry values after those that the conjuncts are closed over.
pruned_more : (vs ws cs : List TraceNumber) (operations : List Operation) → list_all (closed_number (length vs)) cs ≡
    true →
    pruned (record { values = vs ++ ws; conjuncts = cs; operations = operations }) ≡
    pruned (record { values = vs; conjuncts = cs; operations = operations })
pruned_more vs ws cs operations closed =
    (λ i. let l = left i in record { values = l.values; conjuncts = map (renamed l.names) cs; operations = operations })
    ∙ (λ i. record { values = first.values; conjuncts = all_stay first.names ws cs i; operations = operations }) where
      none : Left
      none = record { values = []; names = [] }

      first : Left
      first = prunes none vs (flags 0 vs cs)

      left : prunes none (vs ++ ws) (flags 0 (vs ++ ws) cs) ≡
          record { values = first.values; names = first.names ++ zeros ws }
      left = ap (prunes none (vs ++ ws))
          (flags_more 0 vs ws cs (λ v past. all_unread (length vs) v cs (omega (arith, past)) closed))
          ∙ prunes_more none vs ws (flags 0 vs cs) (flags_long 0 vs cs)

-- What is known later has the same conjuncts, and more entry values after those of before.
record Ends (h later : Hoisting) : Type 0 where
  conjuncts : later.conjuncts ≡ h.conjuncts
  values : Grown h.values later.values

one_unchecked : (h : Hoisting) (o : Operation) → not (is_done o) ≡ false → (hoists h o).conjuncts ≡ h.conjuncts
one_unchecked h (bind e) not_check = refl
one_unchecked h (note m) not_check = refl
one_unchecked h (check e) not_check = absurd (false≢true (sym not_check))
one_unchecked h (set p c e v) not_check = refl
one_unchecked h (set_square p c r k v) not_check = refl
one_unchecked h (push p c e numbers m) not_check = refl
one_unchecked h (take p c e) not_check = refl
one_unchecked h (output dir kind numbers m) not_check = refl

neither_from : (a b : Bool) → (a || b) ≡ false → (a ≡ false) × (b ≡ false)
neither_from true b is = absurd (false≢true (sym is))
neither_from false b is = (refl, is)

ends_unchecked : (operations : List Operation) (h : Hoisting) → has_check operations ≡ false →
    Ends h (fold hoists h operations)
ends_unchecked [] h none = record { conjuncts = refl; values = grown_same h.values }
ends_unchecked (o ∷ operations) h none =
    let both = neither_from (not (is_done o)) (has_check operations) none in
    let rest = ends_unchecked operations (hoists h o) both.1 in
    record {
      conjuncts = rest.conjuncts ∙ one_unchecked h o both.0;
      values = grown_then h.values (hoists h o).values _ (hoists_grow h o) rest.values;
    }

ends : (operations : List Operation) (h : Hoisting) →
    Ends (fold hoists h (to_last_check operations)) (fold hoists h operations)
ends [] h = record { conjuncts = refl; values = grown_same h.values }
ends (o ∷ operations) h = go (has_check (o ∷ operations)) refl (ends operations (hoists h o)) where
  go : (b : Bool) → has_check (o ∷ operations) ≡ b →
      Ends (fold hoists (hoists h o) (to_last_check operations)) (fold hoists (hoists h o) operations) →
      Ends (fold hoists h (if b then o ∷ to_last_check operations else [])) (fold hoists (hoists h o) operations)
  go true is rest = rest
  go false is rest = ends_unchecked (o ∷ operations) h is

pub guards_end_with_checks : GuardsEndWithChecks
guards_end_with_checks operations =
    sym (pruned_more first.values e.values.0 first.conjuncts (unchecked operations) closed)
    ∙ (λ i. pruned (record {
      values = sym e.values.1 i;
      conjuncts = sym e.conjuncts i;
      operations = unchecked operations;
    })) where
      first : Hoisting
      first = fold hoists nothing_yet (to_last_check operations)

      e : Ends first (fold hoists nothing_yet operations)
      e = ends operations nothing_yet

      closed : list_all (closed_number (length first.values)) first.conjuncts ≡ true
      closed = (and_parts (all_closed 0 first.values) _ (first_is_closed (to_last_check operations))).1
