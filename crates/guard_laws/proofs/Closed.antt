-- Hoisted and simplified handlers use entry values only after they are made.
use Rattle.std.proofs.Common.{◌≡◌, ℕ, zero, suc, ◌+◌, ◌<◌, ◌≤◌, Bool, true, false, ◌&&◌, if◌then◌else◌, List, [], ◌∷◌}
use Rattle.std.proofs.Common.{◌++◌, map, length, slice_index_or, Option, Some, None, fold, refl, ap, subst, arith}
use Rattle.std.proofs.lemmas.Bool.{and_from, and_parts, ltb-true, lt-ltb, false≢true}
use Rattle.std.proofs.lemmas.List.{length-append}
use Rattle.std.specs.List.{list_all}
use Rattle.layer_words.specs.declared.operators.Function.{Function}
use Rattle.layer_words.specs.declared.operators.Operator.{Operator}
use Rattle.layer_mean.specs.Value.{is_true}
use Rattle.trace_mean.specs.Trace.{Atom, number, peer, field, bound, taken_number, value, TraceNumber, atom, me, count}
use Rattle.trace_mean.specs.Trace.{ltime, element, square, rows, item, size, binary, apply, pick, body, noted}
use Rattle.trace_mean.specs.Trace.{taken_message, nothing, TraceMessage, core, held, cut, tail, join, Chained}
use Rattle.trace_mean.specs.Trace.{Operation, bind, note, check, set, set_square, push, take, output, Guarded}
use Rattle.guard_mean.specs.Alike.{same_number, is_among}
use Rattle.guard_mean.specs.Hoist.{Write, wrote, wrote_square, put, got, Taken, Hoisting, AtEntry, at_entry, named_term}
use Rattle.guard_mean.specs.Hoist.{named_value, named_if, zero_number, one_number, are_zero, is_here, sets, squares}
use Rattle.guard_mean.specs.Hoist.{moves}
use Rattle.guard_mean.specs.Hoist.{set_term, element_term, square_term, hit, rows_term, Part, number_part, size_part}
use Rattle.guard_mean.specs.Hoist.{part_at_entry, part_of_put, is_put, deep_term, part_term, taken_term, back}
use Rattle.guard_mean.specs.Hoist.{size_back, all_back, put_size_back, hoists, nothing_yet, hoisted}
use Rattle.guard_mean.specs.Simplify.{written_number, is_settled, second, make_binary, applied_to, make_apply}
use Rattle.guard_mean.specs.Simplify.{reduced_pick}
use Rattle.guard_mean.specs.Simplify.{make_pick, make_atom, reduced, reduced_message, Left, found_among, other_value}
use Rattle.guard_mean.specs.Simplify.{next_value, leaves, another, keeps, reduced_operation, guarded_by}
use Rattle.guard_mean.specs.Prune.{renamed, renamed_message, flags, prunes_one, prunes, pruned}
use Rattle.guard_mean.specs.Closed.{closed_atom, closed_number, closed_message, all_closed, is_closed}
use Rattle.guard_laws.specs.Closed.{HoistedIsClosed, SimplifiedIsClosed}
use Rattle.guard_laws.proofs.Grows.{Grown, grown_same, grown_then, name_grows, back_grows, size_grows, all_grows}
use Rattle.guard_laws.proofs.Grows.{put_grows}

-- a number that is closed over the first n entry values
abbrev Closed : ℕ → TraceNumber → Type 0
Closed n e = closed_number n e ≡ true

mutual
  pub closed_more : (n m : ℕ) (e : TraceNumber) → n ≤ m → Closed n e → Closed m e
  closed_more n m (atom (number k)) l h = refl
  closed_more n m (atom peer) l h = refl
  closed_more n m (atom (field k)) l h = refl
  closed_more n m (atom (bound k)) l h = absurd (false≢true h)
  closed_more n m (atom (taken_number r k)) l h = absurd (false≢true h)
  closed_more n m (atom (value k)) l h = lt-ltb k m (let less = ltb-true k n h in omega (arith, less, l))
  closed_more n m me l h = refl
  closed_more n m count l h = refl
  closed_more n m ltime l h = refl
  closed_more n m (element p c e) l h = closed_more n m e l h
  closed_more n m (square p c r k) l h = let b = and_parts (closed_number n r) (closed_number n k) h in
      and_from _ _ (closed_more n m r l b.0) (closed_more n m k l b.1)
  closed_more n m (rows p c e) l h = closed_more n m e l h
  closed_more n m (item p c e r k) l h = let b = and_parts (closed_number n e) (closed_number n r) h in
      and_from _ _ (closed_more n m e l b.0) (closed_more n m r l b.1)
  closed_more n m (size w) l h = closed_message_more n m w l h
  closed_more n m (binary o a d) l h = let b = and_parts (closed_number n a) (closed_number n d) h in
      and_from _ _ (closed_more n m a l b.0) (closed_more n m d l b.1)
  closed_more n m (apply f a) l h = closed_more n m a l h
  closed_more n m (pick c a d) l h =
      let b = and_parts (closed_number n c) (closed_number n a && closed_number n d) h in let e =
      and_parts (closed_number n a) (closed_number n d) b.1 in
      and_from _ _ (closed_more n m c l b.0) (and_from _ _ (closed_more n m a l e.0) (closed_more n m d l e.1))

  closed_message_more : (n m : ℕ) (w : TraceMessage) → n ≤ m → closed_message n w ≡ true → closed_message m w ≡ true
  closed_message_more n m (core c) l h = h
  closed_message_more n m (held p c e r carried) l h = let b = and_parts (closed_number n e) (closed_number n r) h in
      and_from _ _ (closed_more n m e l b.0) (closed_more n m r l b.1)
  closed_message_more n m (cut w f k) l h =
      let b = and_parts (closed_message n w) (closed_number n f && closed_number n k) h in let e =
      and_parts (closed_number n f) (closed_number n k) b.1 in
      and_from _ _ (closed_message_more n m w l b.0) (and_from _ _ (closed_more n m f l e.0) (closed_more n m k l e.1))
  closed_message_more n m (tail w f) l h =
      let b = and_parts (closed_message n w) (closed_number n f) h in
      and_from _ _ (closed_message_more n m w l b.0) (closed_more n m f l b.1)
  closed_message_more n m (join a d) l h =
      let b = and_parts (closed_message n a) (closed_message n d) h in
      and_from _ _ (closed_message_more n m a l b.0) (closed_message_more n m d l b.1)

-- lists of closed terms, and closed writes
abbrev ClosedAll : ℕ → List TraceNumber → Type 0
ClosedAll n [] = Unit {0}
ClosedAll n (e ∷ es) = Closed n e × ClosedAll n es

abbrev ClosedLog : ℕ → List Write → Type 0
ClosedLog n [] = Unit {0}
ClosedLog n (wrote q d i x ∷ log) = Closed n i × Closed n x × ClosedLog n log
ClosedLog n (wrote_square q d r k x ∷ log) = Closed n r × Closed n k × Closed n x × ClosedLog n log
ClosedLog n (put q d i xs s ∷ log) = Closed n i × ClosedAll n xs × Closed n s × ClosedLog n log
ClosedLog n (got q d i ∷ log) = Closed n i × ClosedLog n log

all_more : (n m : ℕ) (es : List TraceNumber) → n ≤ m → ClosedAll n es → ClosedAll m es
all_more n m [] l h = tt
all_more n m (e ∷ es) l h = (closed_more n m e l h.0, all_more n m es l h.1)

log_more : (n m : ℕ) (log : List Write) → n ≤ m → ClosedLog n log → ClosedLog m log
log_more n m [] l h = tt
log_more n m (wrote q d i x ∷ log) l h = (closed_more n m i l h.0, closed_more n m x l h.1, log_more n m log l h.2)
log_more n m (wrote_square q d r k x ∷ log) l h =
    (closed_more n m r l h.0, closed_more n m k l h.1, closed_more n m x l h.2, log_more n m log l h.3)
log_more n m (put q d i xs s ∷ log) l h =
    (closed_more n m i l h.0, all_more n m xs l h.1, closed_more n m s l h.2, log_more n m log l h.3)
log_more n m (got q d i ∷ log) l h = (closed_more n m i l h.0, log_more n m log l h.1)

either : (b : Bool) (n : ℕ) (x y : TraceNumber) → Closed n x → Closed n y → Closed n (if b then x else y)
either true n x y a b = a
either false n x y a b = b

two : (a b : Bool) → a ≡ true → b ≡ true → (a && b) ≡ true
two a b x y = and_from a b x y

element_closed : (n : ℕ) (log : List Write) (p c : ℕ) (e : TraceNumber) → ClosedLog n log → Closed n e →
    Closed n (element_term log p c e)
element_closed n [] p c e h x = x
element_closed n (wrote q d i v ∷ log) p c e h x =
    let rest = element_closed n log p c e h.2 x in
    either (is_here p c q d) n (set_term i v e (element_term log p c e)) (element_term log p c e)
    (either (are_zero i e) n v (pick _ v (element_term log p c e)) h.1
    (two _ _ (two _ _ (two _ _ x h.0) (two _ _ x refl)) (two _ _ h.1 rest))) rest
element_closed n (wrote_square q d r k v ∷ log) p c e h x = element_closed n log p c e h.3 x
element_closed n (put q d i xs s ∷ log) p c e h x = element_closed n log p c e h.3 x
element_closed n (got q d i ∷ log) p c e h x = element_closed n log p c e h.1 x

square_closed : (n : ℕ) (log : List Write) (p c : ℕ) (a b : TraceNumber) → ClosedLog n log → Closed n a → Closed n b →
    Closed n (square_term log p c a b)
square_closed n [] p c a b h x y = two _ _ x y
square_closed n (wrote q d i v ∷ log) p c a b h x y = square_closed n log p c a b h.2 x y
square_closed n (wrote_square q d r k v ∷ log) p c a b h x y =
    let rest = square_closed n log p c a b h.3 x y in
    either (is_here p c q d) n (pick _ v (square_term log p c a b)) (square_term log p c a b)
    (two _ _ (two _ _ (two _ _ (two _ _ x h.0) (two _ _ y h.1)) (two _ _ (two _ _ x refl) (two _ _ y refl)))
    (two _ _ h.2 rest)) rest
square_closed n (put q d i xs s ∷ log) p c a b h x y = square_closed n log p c a b h.3 x y
square_closed n (got q d i ∷ log) p c a b h x y = square_closed n log p c a b h.1 x y

hit_closed : (n : ℕ) (i e : TraceNumber) → Closed n i → Closed n e → Closed n (hit i e)
hit_closed n i e x y = either (are_zero i e) n one_number _ refl (two _ _ y x)

rows_closed : (n : ℕ) (log : List Write) (p c : ℕ) (e : TraceNumber) → ClosedLog n log → Closed n e →
    Closed n (rows_term log p c e)
rows_closed n [] p c e h x = x
rows_closed n (wrote q d i v ∷ log) p c e h x = rows_closed n log p c e h.2 x
rows_closed n (wrote_square q d r k v ∷ log) p c e h x = rows_closed n log p c e h.3 x
rows_closed n (put q d i xs s ∷ log) p c e h x = let rest = rows_closed n log p c e h.3 x in
    either (is_here p c q d) n (binary _ (rows_term log p c e) (hit i e)) (rows_term log p c e)
    (two _ _ rest (hit_closed n i e h.0 x)) rest
rows_closed n (got q d i ∷ log) p c e h x = let rest = rows_closed n log p c e h.1 x in
    either (is_here p c q d) n (binary _ (rows_term log p c e) (hit i e)) (rows_term log p c e)
    (two _ _ rest (hit_closed n i e h.0 x)) rest

entry_closed : (n : ℕ) (f : Part) (p c : ℕ) (e k : TraceNumber) → Closed n e → Closed n k →
    Closed n (part_at_entry f p c e k)
entry_closed n (number_part f) p c e k x y = two _ _ x y
entry_closed n size_part p c e k x y = two _ _ x y

get_closed : (n : ℕ) (es : List TraceNumber) (k : ℕ) → ClosedAll n es → Closed n (slice_index_or es k zero_number)
get_closed n [] k h = refl
get_closed n (e ∷ es) zero h = h.0
get_closed n (e ∷ es) (suc k) h = get_closed n es k h.1

put_closed : (n : ℕ) (f : Part) (xs : List TraceNumber) (s : TraceNumber) → ClosedAll n xs → Closed n s →
    Closed n (part_of_put f xs s)
put_closed n (number_part f) xs s h x = get_closed n xs f h
put_closed n size_part xs s h x = x

is_put_closed : (n : ℕ) (d e k many : TraceNumber) → Closed n d → Closed n e → Closed n k → Closed n many →
    Closed n (is_put d e k many)
is_put_closed n d e k many x y z w = either (are_zero d e) n (binary _ k many) _ (two _ _ z w)
    (two _ _ (two _ _ y x) (two _ _ z w))

deep_closed : (n : ℕ) (log : List Write) (f : Part) (p c : ℕ) (e k : TraceNumber) → ClosedLog n log → Closed n e →
    Closed n k →
    Closed n (deep_term log f p c e k)
deep_closed n [] f p c e k h x y = entry_closed n f p c e k x y
deep_closed n (wrote q d i v ∷ log) f p c e k h x y = deep_closed n log f p c e k h.2 x y
deep_closed n (wrote_square q d r j v ∷ log) f p c e k h x y = deep_closed n log f p c e k h.3 x y
deep_closed n (put q d i xs s ∷ log) f p c e k h x y = let rest = deep_closed n log f p c e k h.3 x y in
    either (is_here p c q d) n
    (pick (is_put i e k (rows_term log p c e)) (part_of_put f xs s) (deep_term log f p c e k)) (deep_term log f p c e k)
    (two _ _ (is_put_closed n i e k (rows_term log p c e) h.0 x y (rows_closed n log p c e h.3 x))
    (two _ _ (put_closed n f xs s h.1 h.2) rest)) rest
deep_closed n (got q d i ∷ log) f p c e k h x y =
    either (is_here p c q d) n (deep_term log f p c e (binary _ k (hit i e))) (deep_term log f p c e k)
    (deep_closed n log f p c e (binary _ k (hit i e)) h.1 x (two _ _ y (hit_closed n i e h.0 x)))
    (deep_closed n log f p c e k h.1 x y)

part_closed : (n : ℕ) (log : List Write) (f : Part) (p c : ℕ) (e k : TraceNumber) → ClosedLog n log → Closed n e →
    Closed n k →
    Closed n (part_term log f p c e k)
part_closed n log f p c e k h x y = either (moves log p c) n (pick _ (deep_term log f p c e k) zero_number)
    (part_at_entry f p c e k)
    (two _ _ (two _ _ y (rows_closed n log p c e h x)) (two _ _ (deep_closed n log f p c e k h x y) refl))
    (entry_closed n f p c e k x y)

abbrev ClosedTaken : ℕ → List Taken → Type 0
ClosedTaken n [] = Unit {0}
ClosedTaken n (t ∷ ts) = Closed n t.index × ClosedLog n t.log × ClosedTaken n ts

taken_more : (n m : ℕ) (ts : List Taken) → n ≤ m → ClosedTaken n ts → ClosedTaken m ts
taken_more n m [] l h = tt
taken_more n m (t ∷ ts) l h = (closed_more n m t.index l h.0, log_more n m t.log l h.1, taken_more n m ts l h.2)

taken_closed : (n : ℕ) (ts : List Taken) (r : ℕ) (f : Part) → ClosedTaken n ts → Closed n (taken_term ts r f)
taken_closed n [] r f h = refl
taken_closed n (t ∷ ts) zero f h = part_closed n t.log f t.place t.cell t.index zero_number h.1 h.0 refl
taken_closed n (t ∷ ts) (suc r) f h = taken_closed n ts r f h.2

-- entry values
closed_push : (n : ℕ) (vs : List TraceNumber) (e : TraceNumber) → all_closed n vs ≡ true → Closed (n + length vs) e →
    all_closed n (vs ++ e ∷ []) ≡ true
closed_push n [] e h x = two _ _ (subst (λ m. Closed m e) (let e : n + 0 ≡ n = omega arith in e) x) refl
closed_push n (v ∷ vs) e h x = let b = and_parts (closed_number n v) (all_closed (suc n) vs) h in
    two _ _ b.0 (closed_push (suc n) vs e b.1
    (subst (λ m. Closed m e) (let e : n + suc (length vs) ≡ suc n + length vs = omega arith in e) x))

grown_length : (vs ws : List TraceNumber) → Grown vs ws → length vs ≤ length ws
grown_length vs ws g = let whole = ap length g.1 in let parts = length-append vs g.0 in omega (arith, whole, parts)

record ClosedAt (x : AtEntry) : Type 0 where
  values : all_closed 0 x.values ≡ true
  term : Closed (length x.values) x.term

new_closed : (e : TraceNumber) (vs : List TraceNumber) → all_closed 0 vs ≡ true → Closed (length vs) e →
    ClosedAt (at_entry (vs ++ e ∷ []) (atom (value (length vs))))
new_closed e vs h x = record {
  values = closed_push 0 vs e h (subst (λ m. Closed m e) (let e : length vs ≡ 0 + length vs = omega arith in e) x);
  term = lt-ltb (length vs) (length (vs ++ e ∷ []))
      (let parts = length-append vs (e ∷ []) in let one : length (e ∷ []) ≡ 1 = refl in
      omega (arith, parts, one));
}

named_closed : (e : TraceNumber) (vs : List TraceNumber) → all_closed 0 vs ≡ true → Closed (length vs) e →
    ClosedAt (named_term e vs)
named_closed (atom a) vs h x = record { values = h; term = x }
named_closed (size (core body)) vs h x = record { values = h; term = x }
named_closed e vs h x = new_closed _ vs h x

name_closed : (x : AtEntry) → ClosedAt x → ClosedAt (named_value x)
name_closed x c = named_closed x.term x.values c.values c.term

name_if_closed : (b : Bool) (x : AtEntry) → ClosedAt x → ClosedAt (named_if b x)
name_if_closed true x c = name_closed x c
name_if_closed false x c = c

record ClosedSofar (h : Hoisting) : Type 0 where
  values : all_closed 0 h.values ≡ true
  conjuncts : ClosedAll (length h.values) h.conjuncts
  binds : ClosedAll (length h.values) h.binds
  notes : ClosedAll (length h.values) h.notes
  rows : ClosedTaken (length h.values) h.taken
  log : ClosedLog (length h.values) h.log

module _ (h : Hoisting) (ch : ClosedSofar h) where
  abbrev here : List TraceNumber → ℕ
  here vs = length vs

  up : (vs ws : List TraceNumber) (e : TraceNumber) → Grown vs ws → Closed (length vs) e → Closed (length ws) e
  up vs ws e g x = closed_more (length vs) (length ws) e (grown_length vs ws g) x

  log_at : (vs : List TraceNumber) → Grown h.values vs → ClosedLog (length vs) h.log
  log_at vs g = log_more (length h.values) (length vs) h.log (grown_length h.values vs g) ch.log

  taken_at : (vs : List TraceNumber) → Grown h.values vs → ClosedTaken (length vs) h.taken
  taken_at vs g = taken_more (length h.values) (length vs) h.taken (grown_length h.values vs g) ch.rows

  mutual
    back_closed : (e : TraceNumber) (vs : List TraceNumber) → Grown h.values vs → all_closed 0 vs ≡ true →
        ClosedAt (back h e vs)
    back_closed (atom (number k)) vs g v = record { values = v; term = refl }
    back_closed (atom peer) vs g v = record { values = v; term = refl }
    back_closed (atom (field k)) vs g v = record { values = v; term = refl }
    back_closed (atom (bound k)) vs g v = record {
      values = v;
      term = up h.values vs (slice_index_or h.binds k zero_number) g
          (get_closed (length h.values) h.binds k ch.binds);
    }
    back_closed (atom (taken_number r k)) vs g v = named_closed (taken_term h.taken r (number_part k)) vs v
        (taken_closed (length vs) h.taken r (number_part k) (taken_at vs g))
    back_closed (atom (value k)) vs g v = record { values = v; term = refl }
    back_closed me vs g v = record { values = v; term = refl }
    back_closed count vs g v = record { values = v; term = refl }
    back_closed ltime vs g v = record { values = v; term = refl }
    back_closed (element p c e) vs g v =
        let x = back h e vs in let cx = back_closed e vs g v in let gx =
        grown_then h.values vs x.values g (back_grows h e vs) in
        name_if_closed (sets h.log p c) (at_entry x.values (element_term h.log p c x.term))
        (record {
          values = cx.values;
          term = element_closed (length x.values) h.log p c x.term (log_at x.values gx)
              cx.term;
        })
    back_closed (square p c r k) vs g v =
        let x = back h r vs in let cx = back_closed r vs g v in let gx =
        grown_then h.values vs x.values g (back_grows h r vs) in
        let y = back h k x.values in let cy = back_closed k x.values gx cx.values in let gy = back_grows h k x.values in
        name_if_closed (squares h.log p c) (at_entry y.values (square_term h.log p c x.term y.term))
        (record {
          values = cy.values;
          term = square_closed (length y.values) h.log p c x.term y.term
              (log_at y.values (grown_then h.values x.values y.values gx gy)) (up x.values y.values x.term gy cx.term)
              cy.term;
        })
    back_closed (rows p c e) vs g v =
        let x = back h e vs in let cx = back_closed e vs g v in let gx =
        grown_then h.values vs x.values g (back_grows h e vs) in
        name_if_closed (moves h.log p c) (at_entry x.values (rows_term h.log p c x.term))
        (record {
          values = cx.values;
          term = rows_closed (length x.values) h.log p c x.term (log_at x.values gx) cx.term;
        })
    back_closed (item p c e r k) vs g v =
        let x = back h e vs in let cx = back_closed e vs g v in let gx =
        grown_then h.values vs x.values g (back_grows h e vs) in
        let y = back h r x.values in let cy = back_closed r x.values gx cx.values in let gy = back_grows h r x.values in
        name_if_closed (moves h.log p c) (at_entry y.values (part_term h.log (number_part k) p c x.term y.term))
        (record {
          values = cy.values;
          term = part_closed (length y.values) h.log (number_part k) p c x.term y.term
              (log_at y.values (grown_then h.values x.values y.values gx gy)) (up x.values y.values x.term gy cx.term)
              cy.term;
        })
    back_closed (size m) vs g v = size_closed m vs g v
    back_closed (binary o a b) vs g v =
        let x = back h a vs in let cx = back_closed a vs g v in let gx =
        grown_then h.values vs x.values g (back_grows h a vs) in
        let y = back h b x.values in let cy = back_closed b x.values gx cx.values in let gy = back_grows h b x.values in
        record { values = cy.values; term = two _ _ (up x.values y.values x.term gy cx.term) cy.term }
    back_closed (apply f a) vs g v = let c = back_closed a vs g v in record { values = c.values; term = c.term }
    back_closed (pick c a b) vs g v =
        let x = back h c vs in let cx = back_closed c vs g v in let gx =
        grown_then h.values vs x.values g (back_grows h c vs) in
        let y = back h a x.values in let cy = back_closed a x.values gx cx.values in let gy = back_grows h a x.values in
        let z = back h b y.values in let cz = back_closed b y.values (grown_then h.values x.values y.values gx gy)
        cy.values in
        let gz = back_grows h b y.values in
        record {
          values = cz.values;
          term = two _ _ (up x.values z.values x.term (grown_then x.values y.values z.values gy gz) cx.term)
              (two _ _ (up y.values z.values y.term gz cy.term) cz.term);
        }

    size_closed : (m : TraceMessage) (vs : List TraceNumber) → Grown h.values vs → all_closed 0 vs ≡ true →
        ClosedAt (size_back h m vs)
    size_closed (core body) vs g v = record { values = v; term = refl }
    size_closed (core (noted k)) vs g v = record {
      values = v;
      term = up h.values vs (slice_index_or h.notes k zero_number) g
          (get_closed (length h.values) h.notes k ch.notes);
    }
    size_closed (core (taken_message r carried)) vs g v = named_closed (taken_term h.taken r size_part) vs v
        (taken_closed (length vs) h.taken r size_part (taken_at vs g))
    size_closed (held p c e r carried) vs g v =
        let x = back h e vs in let cx = back_closed e vs g v in let gx =
        grown_then h.values vs x.values g (back_grows h e vs) in
        let y = back h r x.values in let cy = back_closed r x.values gx cx.values in let gy = back_grows h r x.values in
        name_if_closed (moves h.log p c) (at_entry y.values (part_term h.log size_part p c x.term y.term))
        (record {
          values = cy.values;
          term = part_closed (length y.values) h.log size_part p c x.term y.term
              (log_at y.values (grown_then h.values x.values y.values gx gy)) (up x.values y.values x.term gy cx.term)
              cy.term;
        })
    size_closed (core nothing) vs g v = record { values = v; term = refl }
    size_closed (cut m f k) vs g v =
        let x = named_value (size_back h m vs) in let cx = name_closed (size_back h m vs) (size_closed m vs g v) in
        let gx = grown_then h.values vs x.values g (name_grows vs (size_back h m vs) (size_grows h m vs)) in
        let y = named_value (back h f x.values) in let cy =
        name_closed (back h f x.values) (back_closed f x.values gx cx.values) in
        let gy = name_grows x.values (back h f x.values) (back_grows h f x.values) in
        let z = named_value (back h k y.values) in let cz = name_closed (back h k y.values)
        (back_closed k y.values (grown_then h.values x.values y.values gx gy) cy.values) in
        let gz = name_grows y.values (back h k y.values) (back_grows h k y.values) in
        let tx = up x.values z.values x.term (grown_then x.values y.values z.values gy gz) cx.term in let ty =
        up y.values z.values y.term gz cy.term in
        record {
          values = cz.values;
          term = two _ _ (two _ _ ty tx) (two _ _
              (two _ _ (two _ _ cz.term (two _ _ tx ty)) (two _ _ cz.term (two _ _ tx ty))) refl);
        }
    size_closed (tail m f) vs g v =
        let x = named_value (size_back h m vs) in let cx = name_closed (size_back h m vs) (size_closed m vs g v) in
        let gx = grown_then h.values vs x.values g (name_grows vs (size_back h m vs) (size_grows h m vs)) in
        let y = named_value (back h f x.values) in let cy =
        name_closed (back h f x.values) (back_closed f x.values gx cx.values) in
        let tx = up x.values y.values x.term (name_grows x.values (back h f x.values) (back_grows h f x.values)) cx.term
        in
        record { values = cy.values; term = two _ _ (two _ _ cy.term tx) (two _ _ (two _ _ tx cy.term) refl) }
    size_closed (join a b) vs g v =
        let x = named_value (size_back h a vs) in let cx = name_closed (size_back h a vs) (size_closed a vs g v) in
        let gx = grown_then h.values vs x.values g (name_grows vs (size_back h a vs) (size_grows h a vs)) in
        let y = named_value (size_back h b x.values) in let cy =
        name_closed (size_back h b x.values) (size_closed b x.values gx cx.values) in
        let tx = up x.values y.values x.term (name_grows x.values (size_back h b x.values) (size_grows h b x.values))
        cx.term in
        record {
          values = cy.values;
          term =
              two _ _ (two _ _ (two _ _ tx cy.term) refl) (two _ _ (two _ _ tx cy.term) cy.term);
        }

  all_back_closed : (es vs : List TraceNumber) → Grown h.values vs → all_closed 0 vs ≡ true →
      (all_closed 0 (all_back h es vs).values ≡ true) ×
      ClosedAll (length (all_back h es vs).values) (all_back h es vs).terms
  all_back_closed [] vs g v = (v, tt)
  all_back_closed (e ∷ es) vs g v =
      let x = back h e vs in let cx = back_closed e vs g v in let gx =
      grown_then h.values vs x.values g (back_grows h e vs) in
      let rest = all_back_closed es x.values gx cx.values in
      (rest.0, (up x.values (all_back h es x.values).values x.term (all_grows h es x.values) cx.term, rest.1))

  core_closed : (m : Option Chained) (vs : List TraceNumber) → Grown h.values vs → all_closed 0 vs ≡ true →
      ClosedAt (put_size_back h m vs)
  core_closed None vs g v = record { values = v; term = refl }
  core_closed (Some m) vs g v = size_closed (core m.core) vs g v

all_push : (n : ℕ) (es : List TraceNumber) (e : TraceNumber) → ClosedAll n es → Closed n e → ClosedAll n (es ++ e ∷ [])
all_push n [] e h x = (x, tt)
all_push n (d ∷ es) e h x = (h.0, all_push n es e h.1 x)

taken_push : (n : ℕ) (ts : List Taken) (t : Taken) → ClosedTaken n ts → Closed n t.index → ClosedLog n t.log →
    ClosedTaken n (ts ++ t ∷ [])
taken_push n [] t h x y = (x, y, tt)
taken_push n (u ∷ ts) t h x y = (h.0, h.1, taken_push n ts t h.2 x y)

-- what was closed stays so after more entry values
rise : (h : Hoisting) (c : ClosedSofar h) (vs : List TraceNumber) → Grown h.values vs → all_closed 0 vs ≡ true →
    ClosedSofar (record h { values = vs })
rise h c vs g v = let l = grown_length h.values vs g in record {
  values = v;
  conjuncts = all_more (length h.values) (length vs) h.conjuncts l c.conjuncts;
  binds = all_more (length h.values) (length vs) h.binds l c.binds;
  notes = all_more (length h.values) (length vs) h.notes l c.notes;
  rows = taken_more (length h.values) (length vs) h.taken l c.rows;
  log = log_more (length h.values) (length vs) h.log l c.log;
}

hoists_closed : (h : Hoisting) (o : Operation) → ClosedSofar h → ClosedSofar (hoists h o)
hoists_closed h (bind e) c =
    let x = named_value (back h e h.values) in let cx =
    name_closed (back h e h.values) (back_closed h c e h.values (grown_same h.values) c.values) in
    let r = rise h c x.values (name_grows h.values (back h e h.values) (back_grows h e h.values)) cx.values in
    record {
      values = r.values;
      conjuncts = r.conjuncts;
      binds = all_push (length x.values) h.binds x.term r.binds cx.term;
      notes = r.notes;
      rows = r.rows;
      log = r.log;
    }
hoists_closed h (note m) c =
    let x = named_value (size_back h m h.values) in let cx =
    name_closed (size_back h m h.values) (size_closed h c m h.values (grown_same h.values) c.values) in
    let r = rise h c x.values (name_grows h.values (size_back h m h.values) (size_grows h m h.values)) cx.values in
    record {
      values = r.values;
      conjuncts = r.conjuncts;
      binds = r.binds;
      notes = all_push (length x.values) h.notes x.term r.notes cx.term;
      rows = r.rows;
      log = r.log;
    }
hoists_closed h (check e) c =
    let x = back h e h.values in let cx = back_closed h c e h.values (grown_same h.values) c.values in
    let r = rise h c x.values (back_grows h e h.values) cx.values in
    record {
      values = r.values;
      conjuncts = all_push (length x.values) h.conjuncts x.term r.conjuncts cx.term;
      binds = r.binds;
      notes = r.notes;
      rows = r.rows;
      log = r.log;
    }
hoists_closed h (set p k e v) c =
    let x = back h e h.values in let cx = back_closed h c e h.values (grown_same h.values) c.values in let gx =
    back_grows h e h.values in
    let y = back h v x.values in let cy = back_closed h c v x.values gx cx.values in let gy = back_grows h v x.values in
    let r = rise h c y.values (grown_then h.values x.values y.values gx gy) cy.values in
    record {
      values = r.values;
      conjuncts = r.conjuncts;
      binds = r.binds;
      notes = r.notes;
      rows = r.rows;
      log = (up h c x.values y.values x.term gy cx.term, cy.term, r.log);
    }
hoists_closed h (set_square p k a d v) c =
    let x = back h a h.values in let cx = back_closed h c a h.values (grown_same h.values) c.values in let gx =
    back_grows h a h.values in
    let y = back h d x.values in let cy = back_closed h c d x.values gx cx.values in let gy = back_grows h d x.values in
    let gxy = grown_then h.values x.values y.values gx gy in
    let z = back h v y.values in let cz = back_closed h c v y.values gxy cy.values in let gz =
    back_grows h v y.values in
    let r = rise h c z.values (grown_then h.values y.values z.values gxy gz) cz.values in
    record {
      values = r.values;
      conjuncts = r.conjuncts;
      binds = r.binds;
      notes = r.notes;
      rows = r.rows;
      log = (
        up h c x.values z.values x.term (grown_then x.values y.values z.values gy gz) cx.term,
        up h c y.values z.values y.term gz cy.term,
        cz.term,
        r.log,
      );
    }
hoists_closed h (push p k e numbers m) c =
    let x = back h e h.values in let cx = back_closed h c e h.values (grown_same h.values) c.values in let gx =
    back_grows h e h.values in
    let y = all_back h numbers x.values in let cy = all_back_closed h c numbers x.values gx cx.values in let gy =
    all_grows h numbers x.values in
    let gxy = grown_then h.values x.values y.values gx gy in
    let z = put_size_back h m y.values in let cz = core_closed h c m y.values gxy cy.0 in let gz =
    put_grows h m y.values in
    let r = rise h c z.values (grown_then h.values y.values z.values gxy gz) cz.values in
    record {
      values = r.values;
      conjuncts = r.conjuncts;
      binds = r.binds;
      notes = r.notes;
      rows = r.rows;
      log = (
        up h c x.values z.values x.term (grown_then x.values y.values z.values gy gz) cx.term,
        all_more (length y.values) (length z.values) y.terms (grown_length y.values z.values gz) cy.1,
        cz.term,
        r.log,
      );
    }
hoists_closed h (take p k e) c =
    let x = back h e h.values in let cx = back_closed h c e h.values (grown_same h.values) c.values in
    let r = rise h c x.values (back_grows h e h.values) cx.values in
    record {
      values = r.values;
      conjuncts = r.conjuncts;
      binds = r.binds;
      notes = r.notes;
      rows = taken_push (length x.values) h.taken (record { place = p; cell = k; index = x.term; log = h.log }) r.rows
          cx.term r.log;
      log = (cx.term, r.log);
    }
hoists_closed h (output dir kind numbers m) c = c

hoist_all_closed : (os : List Operation) (h : Hoisting) → ClosedSofar h → ClosedSofar (fold hoists h os)
hoist_all_closed [] h c = c
hoist_all_closed (o ∷ os) h c = hoist_all_closed os (hoists h o) (hoists_closed h o c)

list_closed : (n : ℕ) (es : List TraceNumber) → ClosedAll n es → list_all (closed_number n) es ≡ true
list_closed n [] h = refl
list_closed n (e ∷ es) h = two _ _ h.0 (list_closed n es h.1)

pub first_is_closed : (os : List Operation) → is_closed (hoisted os) ≡ true
first_is_closed os =
    let c = hoist_all_closed os nothing_yet
    (record { values = refl; conjuncts = tt; binds = tt; notes = tt; rows = tt; log = tt }) in
    two _ _ c.values (list_closed (length (fold hoists nothing_yet os).values) (fold hoists nothing_yet os).conjuncts
    c.conjuncts)

-- names that stand for what is there
abbrev ClosedNames : ℕ → List Atom → Type 0
ClosedNames n ns = (k : ℕ) → closed_atom n (slice_index_or ns k (number 0)) ≡ true

atom_more : (n m : ℕ) (a : Atom) → n ≤ m → closed_atom n a ≡ true → closed_atom m a ≡ true
atom_more n m a l h = closed_more n m (atom a) l h

name_push : (n : ℕ) (ns : List Atom) (a : Atom) → ClosedNames n ns → closed_atom n a ≡ true →
    ClosedNames n (ns ++ a ∷ [])
name_push n [] a h x zero = x
name_push n [] a h x (suc k) = refl
name_push n (b ∷ ns) a h x zero = h zero
name_push n (b ∷ ns) a h x (suc k) = name_push n ns a (λ j. h (suc j)) x k

module _ (n m : ℕ) (ns : List Atom) (names : ClosedNames m ns) where
  make_atom_closed : (a : Atom) → closed_atom n a ≡ true → closed_atom m (make_atom ns a) ≡ true
  make_atom_closed (number k) h = refl
  make_atom_closed peer h = refl
  make_atom_closed (field k) h = refl
  make_atom_closed (bound k) h = absurd (false≢true h)
  make_atom_closed (taken_number r k) h = absurd (false≢true h)
  make_atom_closed (value k) h = names k

  binary_closed : (ks : List TraceNumber) (o : Operator) (a b : TraceNumber) → Closed m a → Closed m b →
      Closed m (make_binary ks o a b)
  binary_closed ks o a b x y = go (written_number a) (written_number b) where
    one : (t : Bool) → Closed m (if t then one_number else binary o a b)
    one true = refl
    one false = two _ _ x y

    go : (p q : Option ℕ) → Closed m (second ks o a b p q)
    go (Some j) (Some k) = refl
    go (Some j) None = one (is_settled ks o a b)
    go None q = one (is_settled ks o a b)

  apply_closed : (f : Function) (a : TraceNumber) → Closed m a → Closed m (make_apply f a)
  apply_closed f a x = go (written_number a) where
    go : (p : Option ℕ) → Closed m (applied_to f a p)
    go (Some j) = refl
    go None = x

  pick_closed : (c a b : TraceNumber) → Closed m c → Closed m a → Closed m b → Closed m (make_pick c a b)
  pick_closed c a b x y z = go (written_number c) where
    go : (p : Option ℕ) → Closed m (reduced_pick p c a b)
    go (Some j) = either (is_true j) m a b y z
    go None = two _ _ x (two _ _ y z)

  mutual
    reduced_closed : (ks : List TraceNumber) (e : TraceNumber) → Closed n e → Closed m (reduced ns ks e)
    reduced_closed ks (atom a) h = make_atom_closed a h
    reduced_closed ks me h = refl
    reduced_closed ks count h = refl
    reduced_closed ks ltime h = refl
    reduced_closed ks (element p c e) h = reduced_closed ks e h
    reduced_closed ks (square p c r k) h = let b = and_parts (closed_number n r) (closed_number n k) h in
        two _ _ (reduced_closed ks r b.0) (reduced_closed ks k b.1)
    reduced_closed ks (rows p c e) h = reduced_closed ks e h
    reduced_closed ks (item p c e r k) h = let b = and_parts (closed_number n e) (closed_number n r) h in
        two _ _ (reduced_closed ks e b.0) (reduced_closed ks r b.1)
    reduced_closed ks (size w) h = reduced_message_closed ks w h
    reduced_closed ks (binary o a d) h = let b = and_parts (closed_number n a) (closed_number n d) h in
        binary_closed ks o (reduced ns ks a) (reduced ns ks d) (reduced_closed ks a b.0) (reduced_closed ks d b.1)
    reduced_closed ks (apply f a) h = apply_closed f (reduced ns ks a) (reduced_closed ks a h)
    reduced_closed ks (pick c a d) h =
        let b = and_parts (closed_number n c) (closed_number n a && closed_number n d) h in let e =
        and_parts (closed_number n a) (closed_number n d) b.1 in
        pick_closed (reduced ns ks c) (reduced ns ks a) (reduced ns ks d) (reduced_closed ks c b.0)
        (reduced_closed ks a e.0) (reduced_closed ks d e.1)

    reduced_message_closed : (ks : List TraceNumber) (w : TraceMessage) → closed_message n w ≡ true →
        closed_message m (reduced_message ns ks w) ≡ true
    reduced_message_closed ks (core c) h = h
    reduced_message_closed ks (held p c e r carried) h = let b = and_parts (closed_number n e) (closed_number n r) h in
        two _ _ (reduced_closed ks e b.0) (reduced_closed ks r b.1)
    reduced_message_closed ks (cut w f k) h =
        let b = and_parts (closed_message n w) (closed_number n f && closed_number n k) h in let e =
        and_parts (closed_number n f) (closed_number n k) b.1 in
        two _ _ (reduced_message_closed ks w b.0) (two _ _ (reduced_closed ks f e.0) (reduced_closed ks k e.1))
    reduced_message_closed ks (tail w f) h =
        let b = and_parts (closed_message n w) (closed_number n f) h in
        two _ _ (reduced_message_closed ks w b.0) (reduced_closed ks f b.1)
    reduced_message_closed ks (join a d) h =
        let b = and_parts (closed_message n a) (closed_message n d) h in
        two _ _ (reduced_message_closed ks a b.0) (reduced_message_closed ks d b.1)

  mutual
    renamed_closed : (e : TraceNumber) → Closed n e → Closed m (renamed ns e)
    renamed_closed (atom a) h = make_atom_closed a h
    renamed_closed me h = refl
    renamed_closed count h = refl
    renamed_closed ltime h = refl
    renamed_closed (element p c e) h = renamed_closed e h
    renamed_closed (square p c r k) h = let b = and_parts (closed_number n r) (closed_number n k) h in
        two _ _ (renamed_closed r b.0) (renamed_closed k b.1)
    renamed_closed (rows p c e) h = renamed_closed e h
    renamed_closed (item p c e r k) h = let b = and_parts (closed_number n e) (closed_number n r) h in
        two _ _ (renamed_closed e b.0) (renamed_closed r b.1)
    renamed_closed (size w) h = renamed_message_closed w h
    renamed_closed (binary o a d) h = let b = and_parts (closed_number n a) (closed_number n d) h in
        two _ _ (renamed_closed a b.0) (renamed_closed d b.1)
    renamed_closed (apply f a) h = renamed_closed a h
    renamed_closed (pick c a d) h =
        let b = and_parts (closed_number n c) (closed_number n a && closed_number n d) h in let e =
        and_parts (closed_number n a) (closed_number n d) b.1 in
        two _ _ (renamed_closed c b.0) (two _ _ (renamed_closed a e.0) (renamed_closed d e.1))

    renamed_message_closed : (w : TraceMessage) → closed_message n w ≡ true → closed_message m (renamed_message ns w) ≡
        true
    renamed_message_closed (core c) h = h
    renamed_message_closed (held p c e r carried) h = let b = and_parts (closed_number n e) (closed_number n r) h in
        two _ _ (renamed_closed e b.0) (renamed_closed r b.1)
    renamed_message_closed (cut w f k) h =
        let b = and_parts (closed_message n w) (closed_number n f && closed_number n k) h in let e =
        and_parts (closed_number n f) (closed_number n k) b.1 in
        two _ _ (renamed_message_closed w b.0) (two _ _ (renamed_closed f e.0) (renamed_closed k e.1))
    renamed_message_closed (tail w f) h =
        let b = and_parts (closed_message n w) (closed_number n f) h in
        two _ _ (renamed_message_closed w b.0) (renamed_closed f b.1)
    renamed_message_closed (join a d) h =
        let b = and_parts (closed_message n a) (closed_message n d) h in
        two _ _ (renamed_message_closed a b.0) (renamed_message_closed d b.1)

-- entry values that are left
record ClosedLeft (l : Left) : Type 0 where
  values : all_closed 0 l.values ≡ true
  names : ClosedNames (length l.values) l.names

left_push : (l : Left) (x : TraceNumber) → ClosedLeft l → Closed (length l.values) x →
    ClosedLeft (record { values = l.values ++ x ∷ []; names = l.names ++ value (length l.values) ∷ [] })
left_push l x c h =
    let new = new_closed x l.values c.values h in
    record {
      values = new.values;
      names = name_push (length (l.values ++ x ∷ [])) l.names (value (length l.values))
          (λ k. atom_more (length l.values) (length (l.values ++ x ∷ [])) _
          (grown_length l.values (l.values ++ x ∷ []) (x ∷ [], refl)) (c.names k)) new.term;
    }

found_below : (es : List TraceNumber) (e : TraceNumber) (k j : ℕ) → found_among k es e ≡ Some j → j < k + length es
found_below [] e k j is = absurd (cc is)
found_below (x ∷ es) e k j is = go (same_number x e) is (found_below es e (suc k) j) where
  go : (t : Bool) → (if t then Some k else found_among (suc k) es e) ≡ Some j →
      (found_among (suc k) es e ≡ Some j → j < suc k + length es) →
      j < k + suc (length es)
  go true is rest = let same : k ≡ j = cc is in omega (arith, same)
  go false is rest = let less = rest is in omega (arith, less)

leaves_closed : (n : ℕ) (l : Left) (e : TraceNumber) → ClosedLeft l → Closed n e → ClosedLeft (leaves l e)
leaves_closed n l e c h = go (written_number x) where
  x : TraceNumber
  x = reduced l.names [] e

  seek : (o : Option ℕ) → found_among 0 l.values x ≡ o → ClosedLeft (other_value l x o)
  seek (Some j) is = record {
    values = c.values;
    names = name_push (length l.values) l.names (value j) c.names (lt-ltb j (length l.values)
        (let less = found_below l.values x 0 j is in omega (arith, less)));
  }
  seek None is = left_push l x c (reduced_closed n (length l.values) l.names c.names [] e h)

  go : (o : Option ℕ) → ClosedLeft (next_value l x o)
  go (Some k) = record { values = c.values; names = name_push (length l.values) l.names (number k) c.names refl }
  go None = seek (found_among 0 l.values x) refl

leave_all_closed : (es : List TraceNumber) (n : ℕ) (l : Left) → all_closed n es ≡ true → ClosedLeft l →
    ClosedLeft (fold leaves l es)
leave_all_closed [] n l h c = c
leave_all_closed (e ∷ es) n l h c = let b = and_parts (closed_number n e) (all_closed (suc n) es) h in
    leave_all_closed es (suc n) (leaves l e) b.1 (leaves_closed n l e c b.0)

abbrev ClosedKept : ℕ → Option (List TraceNumber) → Type 0
ClosedKept m None = Unit {0}
ClosedKept m (Some ks) = ClosedAll m ks

keep_all_closed : (n m : ℕ) (ns : List Atom) → ClosedNames m ns →
    (es : List TraceNumber) (kept : Option (List TraceNumber)) →
    list_all (closed_number n) es ≡ true → ClosedKept m kept → ClosedKept m (fold (keeps ns) kept es)
keep_all_closed n m ns names [] kept h c = c
keep_all_closed n m ns names (e ∷ es) kept h c = let b = and_parts (closed_number n e) (list_all (closed_number n) es) h
    in
    keep_all_closed n m ns names es (keeps ns kept e) b.1 (one kept c b.0) where
      one : (kept : Option (List TraceNumber)) → ClosedKept m kept → Closed n e → ClosedKept m (keeps ns kept e)
      one None c x = tt
      one (Some ks) c x = go (written_number (reduced ns ks e)) where
        number_kept : (t : Bool) → ClosedKept m (if t then Some ks else None)
        number_kept true = c
        number_kept false = tt

        other_kept : (t : Bool) → ClosedKept m (if t then Some ks else Some (ks ++ reduced ns ks e ∷ []))
        other_kept true = c
        other_kept false = all_push m ks (reduced ns ks e) c (reduced_closed n m ns names ks e x)

        go : (o : Option ℕ) → ClosedKept m (another ks (reduced ns ks e) o)
        go (Some k) = number_kept (is_true k)
        go None = other_kept (is_among ks (reduced ns ks e))

pub simplified_is_closed : SimplifiedIsClosed
simplified_is_closed g h = by_kept (fold (keeps l.names) (Some []) g.conjuncts)
    (keep_all_closed (length g.values) (length l.values) l.names left.names g.conjuncts (Some []) both.1 tt) where
      both : (all_closed 0 g.values ≡ true) × (list_all (closed_number (length g.values)) g.conjuncts ≡ true)
      both = and_parts (all_closed 0 g.values) _ h

      l : Left
      l = fold leaves (record { values = []; names = [] }) g.values

      left : ClosedLeft l
      left = leave_all_closed g.values 0 (record { values = []; names = [] }) both.0
          (record { values = refl; names = λ k. refl })

      by_kept : (kept : Option (List TraceNumber)) → ClosedKept (length l.values) kept →
          is_closed (guarded_by l.values (map reduced_operation g.operations) kept) ≡ true
      by_kept None c = refl
      by_kept (Some ks) c = two _ _ left.values (list_closed (length l.values) ks c)

-- pruning
prune_all_closed : (es : List TraceNumber) (n : ℕ) (fs : List Bool) (l : Left) → all_closed n es ≡ true → ClosedLeft l →
    ClosedLeft (prunes l es fs)
prune_all_closed [] n fs l h c = c
prune_all_closed (e ∷ es) n [] l h c = c
prune_all_closed (e ∷ es) n (f ∷ fs) l h c = let b = and_parts (closed_number n e) (all_closed (suc n) es) h in
    prune_all_closed es (suc n) fs (prunes_one l e f) b.1 (one f b.0) where
      one : (f : Bool) → Closed n e → ClosedLeft (prunes_one l e f)
      one true x = left_push l (renamed l.names e) c (renamed_closed n (length l.values) l.names c.names e x)
      one false x = record { values = c.values; names = name_push (length l.values) l.names (number 0) c.names refl }

renamed_all_closed : (n m : ℕ) (ns : List Atom) → ClosedNames m ns → (es : List TraceNumber) →
    list_all (closed_number n) es ≡ true →
    list_all (closed_number m) (map (renamed ns) es) ≡ true
renamed_all_closed n m ns names [] h = refl
renamed_all_closed n m ns names (e ∷ es) h = let b = and_parts (closed_number n e) (list_all (closed_number n) es) h in
    two _ _ (renamed_closed n m ns names e b.0) (renamed_all_closed n m ns names es b.1)

pruned_is_closed : (g : Guarded) → is_closed g ≡ true → is_closed (pruned g) ≡ true
pruned_is_closed g h =
    let both = and_parts (all_closed 0 g.values) _ h in
    let none : Left = record { values = []; names = [] } in
    let l = prunes none g.values (flags 0 g.values g.conjuncts) in
    let left = prune_all_closed g.values 0 (flags 0 g.values g.conjuncts) none both.0
    (record { values = refl; names = λ k. refl }) in
    two _ _ left.values (renamed_all_closed (length g.values) (length l.values) l.names left.names g.conjuncts both.1)

pub hoisted_is_closed : HoistedIsClosed
hoisted_is_closed os = pruned_is_closed (hoisted os) (first_is_closed os)
