-- Messages stay short, so following what fits and has room is sound.
use Rattle.std.proofs.Common.{◌≡◌, ℕ, zero, suc, ◌+◌, ◌<◌, ◌≤◌, nat_le, Bool, true, false, ◌⊎◌, inl, inr, if◌then◌else◌}
use Rattle.std.proofs.Common.{List, [], ◌∷◌, ◌++◌, map, length, drop, slice_get, slice_index_or, Option, option_map}
use Rattle.std.proofs.Common.{Some, None, refl, sym, subst, arith, zero-le}
use Rattle.std.proofs.lemmas.Bool.{leb-true, cases_order}
use Rattle.std.proofs.lemmas.List.{length-take, length-drop, length-append, get_or_past, get_or_at, get_or_append_left}
use Rattle.std.proofs.Math.Nat.{min-le_right}
use Rattle.std.specs.Option.{option_map_or}
use Rattle.msg_core.specs.Chain.{Content, plain}
use Rattle.msg_core.specs.Parts as parts
use Rattle.msg_core.specs.Parts.{longest_body}
use Rattle.layer_mean.specs.declared.run.Row.{Row}
use Rattle.layer_mean.specs.Tree.{Carried, part, whole}
use Rattle.layer_mean.specs.State.{rows_at, row_at, flat_index}
use Rattle.layer_mean.specs.Value.{is_true, message_in, missing}
use Rattle.trace_mean.specs.Trace.{TraceNumber, atom, me, count, ltime, element, square, rows, item, size, binary}
use Rattle.trace_mean.specs.Trace.{apply, pick, Core, body, noted, taken_message, nothing, TraceMessage, core, held}
use Rattle.trace_mean.specs.Trace.{cut, tail, join, Chained, Operation, bind, note, check, set, set_square, push, take}
use Rattle.trace_mean.specs.Trace.{output}
use Rattle.trace_mean.specs.Worth.{Input, core_at, state_of, number_of, message_of, content_at}
use Rattle.trace_mean.specs.Follow.{Trail, on, stopped_at, does}
use Rattle.guard_laws.specs.Sound.{Squares, IsShort, Reads, ReadsMessage, ReadsAll, SoundAt, Sound}
use Rattle.guard_laws.proofs.Premises.{IsShortRow, IsShortTrail, Fits, FitsMessage, FitsAll, FitsOperation, RoomAt}
use Rattle.guard_laws.proofs.Premises.{Roomy, AllFit}
use Rattle.guard_laws.proofs.Lines.{get_after}
use Rattle.guard_laws.proofs.States.{queues_after, rows_after}

module _ (i : Input) (t : Trail) (short : IsShortTrail i t) where
  none_short : 0 ≤ longest_body
  none_short = zero-le

  missing_short : (carried : Carried) → length (missing carried).body ≤ longest_body
  missing_short part = zero-le
  missing_short (whole blank) = zero-le

  -- what a row carries, where it may be missing
  carried_short : (carried : Carried) (r : Option Row) → IsShortRow r →
      length (message_in carried r).body ≤ longest_body
  carried_short carried None is = missing_short carried
  carried_short carried (Some r) is = either r.message is where
    either : (m : Option Content) → length (option_map_or (λ m. m) m (plain [])).body ≤ longest_body →
        length (option_map_or (λ m. m) m (missing carried)).body ≤ longest_body
    either None is = missing_short carried
    either (Some m) is = is

  join_short : (a b : Content) → length b.body ≤ longest_body → length (parts.join a b).body ≤ longest_body
  join_short a b is = go (nat_le (length a.body + length b.body) longest_body) refl where
    go : (t : Bool) → nat_le (length a.body + length b.body) longest_body ≡ t →
        length (if t then record { headers = b.headers; body = a.body ++ b.body } else b).body ≤ longest_body
    go true fits = let all = leb-true (length a.body + length b.body) longest_body fits in let whole =
        length-append a.body b.body in omega (arith, all, whole)
    go false other = is

  pub core_short : (c : Core) → length (core_at i t.kept c).body ≤ longest_body
  core_short body = short.body
  core_short (noted k) = short.notes k
  core_short (taken_message k carried) = carried_short carried (slice_index_or t.kept.rows k None) (short.rows k)
  core_short nothing = zero-le

  pub message_short : (m : TraceMessage) → IsShort i t m
  message_short (core c) = core_short c
  message_short (held p c e r carried) =
      carried_short carried (row_at (state_of t.states p) c (number_of i t.kept t.states e)
      (number_of i t.kept t.states r)) (short.held p c (number_of i t.kept t.states e) (number_of i t.kept t.states r))
  message_short (cut m f n) =
      let all = message_short m in
      let taken = length-take (number_of i t.kept t.states n)
      (drop (number_of i t.kept t.states f) (message_of i t.kept t.states m).body) in
      let left = length-drop (number_of i t.kept t.states f) (message_of i t.kept t.states m).body in
      let least = min-le_right (number_of i t.kept t.states n)
      (length (drop (number_of i t.kept t.states f) (message_of i t.kept t.states m).body)) in
      omega (arith, all, taken, left, least)
  message_short (tail m f) =
      let all = message_short m in let left =
      length-drop (number_of i t.kept t.states f) (message_of i t.kept t.states m).body in omega (arith, all, left)
  message_short (join a b) = join_short (message_of i t.kept t.states a) (message_of i t.kept t.states b)
      (message_short b)

  mutual
    pub reads_all : (sq : Squares) (e : TraceNumber) → Fits sq e → Reads sq i t e
    reads_all sq (atom a) f = tt
    reads_all sq me f = tt
    reads_all sq count f = tt
    reads_all sq ltime f = tt
    reads_all sq (element p c e) f = (f.0, reads_all sq e f.1)
    reads_all sq (square p c r k) f = (f.0, reads_all sq r f.1, reads_all sq k f.2)
    reads_all sq (rows p c e) f = reads_all sq e f
    reads_all sq (item p c e r k) f = (reads_all sq e f.0, reads_all sq r f.1)
    reads_all sq (size m) f = reads_message_all sq m f
    reads_all sq (binary o a b) f = (reads_all sq a f.0, reads_all sq b f.1)
    reads_all sq (apply g a) f = reads_all sq a f
    reads_all sq (pick c a b) f = (reads_all sq c f.0, reads_all sq a f.1, reads_all sq b f.2)

    pub reads_message_all : (sq : Squares) (m : TraceMessage) → FitsMessage sq m → ReadsMessage sq i t m
    reads_message_all sq (core c) f = tt
    reads_message_all sq (held p c e r carried) f = (reads_all sq e f.0, reads_all sq r f.1)
    reads_message_all sq (cut m g n) f =
        (message_short m, reads_message_all sq m f.0, reads_all sq g f.1, reads_all sq n f.2)
    reads_message_all sq (tail m g) f = (message_short m, reads_message_all sq m f.0, reads_all sq g f.1)
    reads_message_all sq (join a b) f =
        (message_short a, message_short b, reads_message_all sq a f.0, reads_message_all sq b f.1)

  reads_list : (sq : Squares) (es : List TraceNumber) → FitsAll sq es → ReadsAll sq i t es
  reads_list sq [] f = tt
  reads_list sq (e ∷ es) f = (reads_all sq e f.0, reads_list sq es f.1)

  pub sound_at : (sq : Squares) (o : Operation) → FitsOperation sq o → RoomAt i t o → SoundAt sq i t o
  sound_at sq (bind e) f r = reads_all sq e f
  sound_at sq (note m) f r = reads_message_all sq m f
  sound_at sq (check e) f r = reads_all sq e f
  sound_at sq (set p c e v) f r = (f.0, r.0, r.1, reads_all sq e f.1, reads_all sq v f.2)
  sound_at sq (set_square p c e k v) f r = (f.0, r, reads_all sq e f.1, reads_all sq k f.2, reads_all sq v f.3)
  sound_at sq (push p c e numbers m) f r = (r.0, r.1, r.2, reads_all sq e f.0, reads_list sq numbers f.1)
  sound_at sq (take p c e) f r = (r.0, r.1, r.2, reads_all sq e f)
  sound_at sq (output dir kind numbers m) f r = tt

-- a list with one more
more_short : {A : Type 0} (P : A → Type 0) (xs : List A) (x d : A) → ((k : ℕ) → P (slice_index_or xs k d)) → P x → P d →
    (k : ℕ) →
    P (slice_index_or (xs ++ x ∷ []) k d)
more_short P xs x d old new default k = go (cases_order k (length xs)) where
  go : (k ≡ length xs) ⊎ ((k < length xs) ⊎ (length xs < k)) → P (slice_index_or (xs ++ x ∷ []) k d)
  go (inl at) = subst P (sym (get_or_at xs x [] d k (sym at))) new
  go (inr (inl less)) = subst P (sym (get_or_append_left xs (x ∷ []) d k less)) (old k)
  go (inr (inr more)) = let one = length-append xs (x ∷ []) in let just : length (x ∷ []) ≡ 1 = refl in
      subst P (sym (get_or_past (xs ++ x ∷ []) k d (omega (arith, one, just, more)))) default

pub either_way : {A : Type 0} (P : A → Type 0) (b : Bool) (x y : A) → P x → P y → P (if b then x else y)
either_way P true x y px py = px
either_way P false x y px py = py

pushed_short : (rs : List Row) (x : Row) → ((k : ℕ) → IsShortRow (slice_get rs k)) → IsShortRow (Some x) → (k : ℕ) →
    IsShortRow (slice_get (rs ++ x ∷ []) k)
pushed_short [] x old new zero = new
pushed_short [] x old new (suc k) = zero-le
pushed_short (r ∷ rs) x old new zero = old zero
pushed_short (r ∷ rs) x old new (suc k) = pushed_short rs x (λ j. old (suc j)) new k

stays_short : (i : Input) (t : Trail) (o : Operation) → IsShortTrail i t → RoomAt i t o → IsShortTrail i (does i t o)
stays_short i t (bind e) h r = record { body = h.body; notes = h.notes; rows = h.rows; held = h.held }
stays_short i t (note m) h r = record {
  body = h.body;
  notes = more_short (λ (c : Content). length c.body ≤ longest_body) t.kept.messages (message_of i t.kept t.states m)
      (plain []) h.notes
      (message_short i t h m) zero-le;
  rows = h.rows;
  held = h.held;
}
stays_short i t (check e) h r = h
stays_short i t (set p c e v) h r = record {
  body = h.body;
  notes = h.notes;
  rows = h.rows;
  held = λ q d j k. subst (λ l. IsShortRow (slice_get l k))
      (sym (queues_after t.states p c (number_of i t.kept t.states e)
      (number_of i t.kept t.states v) q d j)) (h.held q d j k);
}
stays_short i t (set_square p c e f v) h r = record {
  body = h.body;
  notes = h.notes;
  rows = h.rows;
  held = λ q d j k. subst (λ l. IsShortRow (slice_get l k))
      (sym (queues_after t.states p c
      (flat_index i.count (number_of i t.kept t.states e) (number_of i t.kept t.states f))
      (number_of i t.kept t.states v) q d j)) (h.held q d j k);
}
stays_short i t (push p c e numbers m) h r = record {
  body = h.body;
  notes = h.notes;
  rows = h.rows;
  held = λ q d j k. subst (λ l. IsShortRow (slice_get l k))
      (sym (rows_after t.states p c (number_of i t.kept t.states e) (old ++ new ∷ []) r.0 q d j))
      (either_way (λ l. IsShortRow (slice_get l k)) _ (old ++ new ∷ []) (rows_at (state_of t.states q) d j)
      (pushed_short old new (h.held p c (number_of i t.kept t.states e)) (new_short m) k) (h.held q d j k));
} where
  old : List Row
  old = rows_at (state_of t.states p) c (number_of i t.kept t.states e)

  new : Row
  new = record { numbers = map (number_of i t.kept t.states) numbers; message = option_map (content_at i t.kept) m }

  new_short : (m : Option Chained) → IsShortRow (Some (record {
    numbers = map (number_of i t.kept t.states) numbers;
    message = option_map (content_at i t.kept) m;
  }))
  new_short None = zero-le
  new_short (Some m) = core_short i t h m.core
stays_short i t (take p c e) h r = record {
  body = h.body;
  notes = h.notes;
  rows = more_short IsShortRow t.kept.rows (row_at (state_of t.states p) c (number_of i t.kept t.states e) 0) None
      h.rows
      (h.held p c (number_of i t.kept t.states e) 0) zero-le;
  held = λ q d j k. subst (λ l. IsShortRow (slice_get l k))
      (sym (rows_after t.states p c (number_of i t.kept t.states e) (drop 1 old) r.0 q d j))
      (either_way (λ l. IsShortRow (slice_get l k)) _ (drop 1 old) (rows_at (state_of t.states q) d j)
      (subst IsShortRow (sym (get_after old k)) (h.held p c (number_of i t.kept t.states e) (suc k)))
      (h.held q d j k));
} where
  old : List Row
  old = rows_at (state_of t.states p) c (number_of i t.kept t.states e)
stays_short i t (output dir kind numbers m) h r =
    record { body = h.body; notes = h.notes; rows = h.rows; held = h.held }

stopped_sound : (sq : Squares) (i : Input) (os : List Operation) (k : ℕ) → Sound sq i os (stopped_at k)
stopped_sound sq i [] k = tt
stopped_sound sq i (o ∷ os) k = tt

checked_sound : (sq : Squares) (i : Input) (os : List Operation) (t : Trail) (b : Bool) →
    Roomy i os (if b then on (record t { checks = t.checks + 1 }) else stopped_at t.checks) →
    (Roomy i os (on (record t { checks = t.checks + 1 })) → Sound sq i os (on (record t { checks = t.checks + 1 }))) →
    Sound sq i os (if b then on (record t { checks = t.checks + 1 }) else stopped_at t.checks)
checked_sound sq i os t true r so = so r
checked_sound sq i os t false r so = stopped_sound sq i os t.checks

-- what fits and has room is sound
pub sound_of : (sq : Squares) (i : Input) (os : List Operation) (t : Trail) → IsShortTrail i t → AllFit sq os →
    Roomy i os (on t) → Sound sq i os (on t)
sound_of sq i [] t h f r = tt
sound_of sq i (check e ∷ os) t h f r = (
  sound_at i t h sq (check e) f.0 r.0,
  checked_sound sq i os t (is_true (number_of i t.kept t.states e)) r.1
      (sound_of sq i os (record t { checks = t.checks + 1 })
      (record { body = h.body; notes = h.notes; rows = h.rows; held = h.held }) f.1),
)
sound_of sq i (bind e ∷ os) t h f r =
    (sound_at i t h sq (bind e) f.0 r.0, sound_of sq i os (does i t (bind e)) (stays_short i t (bind e) h r.0) f.1 r.1)
sound_of sq i (note m ∷ os) t h f r =
    (sound_at i t h sq (note m) f.0 r.0, sound_of sq i os (does i t (note m)) (stays_short i t (note m) h r.0) f.1 r.1)
sound_of sq i (set p c e v ∷ os) t h f r = (
  sound_at i t h sq (set p c e v) f.0 r.0,
  sound_of sq i os (does i t (set p c e v)) (stays_short i t (set p c e v) h r.0) f.1 r.1,
)
sound_of sq i (set_square p c e k v ∷ os) t h f r = (
  sound_at i t h sq (set_square p c e k v) f.0 r.0,
  sound_of sq i os (does i t (set_square p c e k v))
      (stays_short i t (set_square p c e k v) h r.0) f.1 r.1,
)
sound_of sq i (push p c e numbers m ∷ os) t h f r = (
  sound_at i t h sq (push p c e numbers m) f.0 r.0,
  sound_of sq i os (does i t (push p c e numbers m))
      (stays_short i t (push p c e numbers m) h r.0) f.1 r.1,
)
sound_of sq i (take p c e ∷ os) t h f r = (
  sound_at i t h sq (take p c e) f.0 r.0,
  sound_of sq i os (does i t (take p c e)) (stays_short i t (take p c e) h r.0) f.1 r.1,
)
sound_of sq i (output dir kind numbers m ∷ os) t h f r = (
  sound_at i t h sq (output dir kind numbers m) f.0 r.0,
  sound_of sq i os (does i t (output dir kind numbers m))
      (stays_short i t (output dir kind numbers m) h r.0) f.1 r.1,
)
