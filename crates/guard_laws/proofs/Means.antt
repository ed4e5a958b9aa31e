-- A number that was carried back is worth at entry what it is worth where it stands.
use Rattle.std.proofs.Common.{◌≡◌, ℕ, ◌+◌, ◌-◌, ◌^◌, ◌<◌, ◌≤◌, nat_lt, nat_le, Bool, true, false, if◌then◌else◌, List}
use Rattle.std.proofs.Common.{[], ◌∷◌, ◌++◌, map, min, length, drop, slice_get, slice_index, slice_index_or, Option}
use Rattle.std.proofs.Common.{option_map, Some, None, refl, sym, ap, ap₂, ◌∙◌, arith, zero-le, le_of_lt}
use Rattle.std.proofs.lemmas.Bool.{ltb-true, ltb-false}
use Rattle.std.proofs.lemmas.List.{length-map, length-append, length-take, length-drop, get_or_at, append_assoc}
use Rattle.std.proofs.Math.Nat.{mod-eq_of_lt, add-mod_right, min-eq_left, min-eq_right}
use Rattle.std.specs.Option.{option_map_or}
use Rattle.msg_core.specs.Chain.{Content, plain}
use Rattle.msg_core.specs.Parts as parts
use Rattle.msg_core.specs.Parts.{longest_body}
use Rattle.layer_mean.specs.declared.run.Row.{Row}
use Rattle.layer_mean.specs.State.{State, number_at, flat_index, rows_at, row_at}
use Rattle.layer_mean.specs.Tree.{Carried, part, whole}
use Rattle.layer_mean.specs.Value.{is_true, of_bool, wrapped, applied, function_of, message_in, missing}
use Rattle.trace_mean.specs.Trace.{number, peer, field, bound, taken_number, value, TraceNumber, atom, me, count, ltime}
use Rattle.trace_mean.specs.Trace.{element, square, rows, item, size, binary, apply, pick, body, noted, taken_message}
use Rattle.trace_mean.specs.Trace.{nothing, TraceMessage, core, held, cut, tail, join, Chained}
use Rattle.trace_mean.specs.Worth.{content_at, Input, state_of, number_of, message_of, only_values}
use Rattle.trace_mean.specs.Follow.{Trail}
use Rattle.guard_mean.specs.Perform.{values_of}
use Rattle.guard_mean.specs.Hoist.{Hoisting, AtEntry, at_entry, named_term, named_value, named_if, zero_number, sets}
use Rattle.guard_mean.specs.Hoist.{squares}
use Rattle.guard_mean.specs.Hoist.{moves, element_term, square_term, rows_term, Part, number_part, size_part, part_term}
use Rattle.guard_mean.specs.Hoist.{taken_term, back, size_back, all_back, put_size_back}
use Rattle.guard_laws.specs.Sound.{extent, Squares, Reads, ReadsMessage, ReadsAll}
use Rattle.guard_laws.proofs.Lines.{outline, logged_number, logged_rows, LogFits, part_in, entry_number, get_map}
use Rattle.guard_laws.proofs.Lines.{read_map, element_line, square_line, rows_line, part_line}
use Rattle.guard_laws.proofs.Grows.{Grown, grown_same, grown_then, name_grows, back_grows, size_grows, all_grows}
use Rattle.guard_laws.proofs.Grows.{values_append, values_grow, length_values}

module _ (sq : Squares) (i : Input) (ss : List State) where
  -- what was done so far, and what a guard knows of it where these are the entry values
  pub record Stands (t : Trail) (h : Hoisting) (vs : List ℕ) : Type 0 where
    pub none : t.kept.values ≡ []
    pub binds : map (number_of i (only_values vs) ss) h.binds ≡ t.kept.numbers
    pub notes : map (number_of i (only_values vs) ss) h.notes ≡ map (λ m. length m.body) t.kept.messages
    pub taken : (r : ℕ) (f : Part) → number_of i (only_values vs) ss (taken_term h.taken r f) ≡ part_in f
        (option_map outline (slice_index_or t.kept.rows r None))
    pub fits : LogFits i (only_values vs) ss sq h.log
    pub numbers : (p c j : ℕ) → number_at (state_of t.states p) c j ≡ logged_number i (only_values vs) ss h.log p c j
    pub extents : (p c : ℕ) → extent t.states p c ≡ extent ss p c
    pub lengths : length h.taken ≡ length t.kept.rows
    pub rows : (p c j : ℕ) → map outline (rows_at (state_of t.states p) c j) ≡
        logged_rows i (only_values vs) ss h.log p c j

  -- whatever is made after these entry values
  abbrev pub After : List TraceNumber → List ℕ → Type 0
  After es vs = Grown (values_of i ss es) vs

  pub after_more : (es fs : List TraceNumber) (vs : List ℕ) → Grown es fs → After fs vs → After es vs
  after_more es fs vs g b = grown_then (values_of i ss es) (values_of i ss fs) vs (values_grow i ss es fs g) b

  abbrev pub Means : AtEntry → ℕ → Type 0
  Means x n = (vs : List ℕ) → After x.values vs → number_of i (only_values vs) ss x.term ≡ n

  pub value_here : (es : List TraceNumber) (e : TraceNumber) (vs : List ℕ) → After (es ++ e ∷ []) vs →
      slice_index vs (length es) ≡ number_of i (only_values (values_of i ss es)) ss e
  value_here es e vs b =
      let v : ℕ = number_of i (only_values (values_of i ss es)) ss e in
      let made : vs ≡ values_of i ss es ++ v ∷ b.0 =
      b.1 ∙ ap (λ l. l ++ b.0) (values_append i ss es (e ∷ [])) ∙ append_assoc (values_of i ss es) (v ∷ []) b.0 in
      ap (λ l. slice_index l (length es)) made ∙
      get_or_at (values_of i ss es) v b.0 0 (length es) (length_values i ss es)

  name_means : (e : TraceNumber) (es : List TraceNumber) (n : ℕ) → Means (at_entry es e) n → Means (named_term e es) n
  name_means (atom a) es n m = m
  name_means (size (core body)) es n m = m
  name_means e es n m = λ vs b. value_here es _ vs b ∙ m (values_of i ss es) (grown_same (values_of i ss es))

  pub named_means : (x : AtEntry) (n : ℕ) → Means x n → Means (named_value x) n
  named_means x n m = name_means x.term x.values n m

  name_if_means : (b : Bool) (x : AtEntry) (n : ℕ) → Means x n → Means (named_if b x) n
  name_if_means true x n m = named_means x n m
  name_if_means false x n m = m

  left_over : (l f : ℕ) → f < l → l ≤ longest_body → wrapped (l + 2 ^ 32 - f) ≡ l - f
  left_over l f less short =
      ap wrapped (let e : l + 2 ^ 32 - f ≡ (l - f) + 2 ^ 32 = omega (arith, less) in e)
      ∙ add-mod_right (l - f) (2 ^ 32) ∙ mod-eq_of_lt (let e : l - f < 2 ^ 32 = omega (arith, short) in e)

  tail_worth : (l f : ℕ) → l ≤ longest_body → (if is_true (of_bool (nat_lt f l)) then wrapped (l + 2 ^ 32 - f) else 0) ≡
      l - f
  tail_worth l f short = go (nat_lt f l) refl where
    go : (b : Bool) → nat_lt f l ≡ b → (if is_true (of_bool b) then wrapped (l + 2 ^ 32 - f) else 0) ≡ l - f
    go true is = left_over l f (ltb-true f l is) short
    go false is = let past = ltb-false f l is in omega (arith, past)

  cut_worth : (l f n : ℕ) → l ≤ longest_body →
      (if is_true (of_bool (nat_lt f l))
      then (if is_true (of_bool (nat_lt n (wrapped (l + 2 ^ 32 - f)))) then n else wrapped (l + 2 ^ 32 - f)) else 0) ≡
      min n (l - f)
  cut_worth l f n short = go (nat_lt f l) refl where
    least : (b : Bool) → nat_lt n (l - f) ≡ b → (if is_true (of_bool b) then n else l - f) ≡ min n (l - f)
    least true is = sym (min-eq_left (le_of_lt (ltb-true n (l - f) is)))
    least false is = sym (min-eq_right (ltb-false n (l - f) is))

    go : (b : Bool) → nat_lt f l ≡ b →
        (if is_true (of_bool b)
        then (if is_true (of_bool (nat_lt n (wrapped (l + 2 ^ 32 - f)))) then n else wrapped (l + 2 ^ 32 - f)) else 0) ≡
        min n (l - f)
    go true is = ap (λ w. if is_true (of_bool (nat_lt n w)) then n else w) (left_over l f (ltb-true f l is) short) ∙
        least (nat_lt n (l - f)) refl
    go false is = let past = ltb-false f l is in let none : l - f ≡ 0 = omega (arith, past) in
        sym (ap (min n) none ∙ min-eq_right zero-le)

  join_worth : (a b : Content) → length a.body ≤ longest_body → length b.body ≤ longest_body →
      (if is_true (of_bool (nat_le (wrapped (length a.body + length b.body)) longest_body))
      then wrapped (length a.body + length b.body) else length b.body) ≡ length (parts.join a b).body
  join_worth a b short short' =
      ap (λ w. if is_true (of_bool (nat_le w longest_body)) then w else length b.body)
      (mod-eq_of_lt (let e : length a.body + length b.body < 2 ^ 32 = omega (arith, short, short') in e))
      ∙ go (nat_le (length a.body + length b.body) longest_body) where
        go : (t : Bool) → (if is_true (of_bool t) then length a.body + length b.body else length b.body) ≡
            length (if t then record { headers = b.headers; body = a.body ++ b.body } else b).body
        go true = sym (length-append a.body b.body)
        go false = refl

  three_same : {c c' a a' b b' : ℕ} → c ≡ c' → a ≡ a' → b ≡ b' → (if is_true c then a else b) ≡
      (if is_true c' then a' else b')
  three_same p q r = λ j. if is_true (p j) then q j else r j

  same_cut : {l l' f f' n n' : ℕ} → l ≡ l' → f ≡ f' → n ≡ n' →
      (if is_true (of_bool (nat_lt f l))
      then (if is_true (of_bool (nat_lt n (wrapped (l + 2 ^ 32 - f)))) then n else wrapped (l + 2 ^ 32 - f)) else 0) ≡
      (if is_true (of_bool (nat_lt f' l'))
      then (if is_true (of_bool (nat_lt n' (wrapped (l' + 2 ^ 32 - f')))) then n' else wrapped (l' + 2 ^ 32 - f'))
      else 0)
  same_cut p q r = λ j. if is_true (of_bool (nat_lt (q j) (p j)))
      then (if is_true (of_bool (nat_lt (r j) (wrapped (p j + 2 ^ 32 - q j)))) then r j else wrapped
      (p j + 2 ^ 32 - q j)) else 0

  same_tail : {l l' f f' : ℕ} → l ≡ l' → f ≡ f' →
      (if is_true (of_bool (nat_lt f l)) then wrapped (l + 2 ^ 32 - f) else 0) ≡
      (if is_true (of_bool (nat_lt f' l')) then wrapped (l' + 2 ^ 32 - f') else 0)
  same_tail p q = λ j. if is_true (of_bool (nat_lt (q j) (p j))) then wrapped (p j + 2 ^ 32 - q j) else 0

  same_join : {a a' b b' : ℕ} → a ≡ a' → b ≡ b' →
      (if is_true (of_bool (nat_le (wrapped (a + b)) longest_body)) then wrapped (a + b) else b) ≡
      (if is_true (of_bool (nat_le (wrapped (a' + b')) longest_body)) then wrapped (a' + b') else b')
  same_join p q = λ j. if is_true (of_bool (nat_le (wrapped (p j + q j)) longest_body)) then wrapped (p j + q j) else q
      j

  module _ (t : Trail) (h : Hoisting) (stands : (vs : List ℕ) → After h.values vs → Stands t h vs) where
    -- what stands at these entry values, and after more
    at_these : (es : List TraceNumber) (vs : List ℕ) → Grown h.values es → After es vs → Stands t h vs
    at_these es vs g b = stands vs (after_more h.values es vs g b)

    -- a row of a queue
    pub row_here : (vs : List ℕ) → Stands t h vs → (p c j k : ℕ) →
        slice_get (logged_rows i (only_values vs) ss h.log p c j) k ≡
        option_map outline (row_at (state_of t.states p) c j k)
    row_here vs s p c j k = ap (λ l. slice_get l k) (sym (s.rows p c j)) ∙
        get_map outline (rows_at (state_of t.states p) c j) k

    held_size : (carried : Carried) (o : Option Row) → part_in size_part (option_map outline o) ≡
        length (message_in carried o).body
    held_size part None = refl
    held_size (whole blank) None = refl
    held_size carried (Some x) = held_of carried x.message where
      held_of : (carried : Carried) (o : Option Content) → length (option_map_or (λ m. m) o (plain [])).body ≡ length
          (option_map_or (λ m. m) o (missing carried)).body
      held_of part o = refl
      held_of (whole blank) None = refl
      held_of (whole blank) (Some m) = refl

    mutual
      pub back_means : (e : TraceNumber) (es : List TraceNumber) → Grown h.values es → Reads sq i t e →
          Means (back h e es) (number_of i t.kept t.states e)
      back_means (atom (number n)) es g r = λ vs b. refl
      back_means (atom peer) es g r = λ vs b. refl
      back_means (atom (field k)) es g r = λ vs b. refl
      back_means (atom (bound k)) es g r = λ vs b. let s = stands vs (after_more h.values es vs g b) in
          sym (read_map (number_of i (only_values vs) ss) h.binds k zero_number) ∙ ap (λ l. slice_index l k) s.binds
      back_means (atom (taken_number j k)) es g r = named_means (at_entry es (taken_term h.taken j (number_part k))) _
          (λ vs b. (stands vs (after_more h.values es vs g b)).taken j (number_part k) ∙
          sym (entry_number k (slice_index_or t.kept.rows j None)))
      back_means (atom (value k)) es g r = λ vs b. let s = stands vs (after_more h.values es vs g b) in
          sym (ap (λ l. slice_index l k) s.none)
      back_means me es g r = λ vs b. refl
      back_means count es g r = λ vs b. refl
      back_means ltime es g r = λ vs b. refl
      back_means (element p c e) es g r =
          let x = back h e es in
          name_if_means (sets h.log p c) (at_entry x.values (element_term h.log p c x.term)) _ (λ vs b.
          let s = stands vs (after_more h.values x.values vs (grown_then h.values es x.values g (back_grows h e es)) b)
          in
          element_line i (only_values vs) ss sq h.log p c x.term r.0 s.fits
          ∙ ap (logged_number i (only_values vs) ss h.log p c) (back_means e es g r.1 vs b) ∙
          sym (s.numbers p c (number_of i t.kept t.states e)))
      back_means (square p c r k) es g reads =
          let x = back h r es in let y = back h k x.values in
          let gx = grown_then h.values es x.values g (back_grows h r es) in
          let gy = back_grows h k x.values in
          name_if_means (squares h.log p c) (at_entry y.values (square_term h.log p c x.term y.term)) _ (λ vs b.
          let s = at_these y.values vs (grown_then h.values x.values y.values gx gy) b in
          square_line i (only_values vs) ss sq h.log p c x.term y.term reads.0 s.fits
          ∙ ap₂ (λ a d. logged_number i (only_values vs) ss h.log p c (flat_index i.count a d))
          (back_means r es g reads.1 vs (after_more x.values y.values vs gy b)) (back_means k x.values gx reads.2 vs b)
          ∙ sym (s.numbers p c (flat_index i.count (number_of i t.kept t.states r) (number_of i t.kept t.states k))))
      back_means (rows p c e) es g r =
          let x = back h e es in
          name_if_means (moves h.log p c) (at_entry x.values (rows_term h.log p c x.term)) _ (λ vs b.
          let s = at_these x.values vs (grown_then h.values es x.values g (back_grows h e es)) b in
          rows_line i (only_values vs) ss sq h.log p c x.term s.fits
          ∙ ap (λ j. length (logged_rows i (only_values vs) ss h.log p c j)) (back_means e es g r vs b)
          ∙ ap length (sym (s.rows p c (number_of i t.kept t.states e))) ∙
          length-map (rows_at (state_of t.states p) c (number_of i t.kept t.states e)) outline)
      back_means (item p c e k f) es g r =
          let x = back h e es in let y = back h k x.values in
          let gx = grown_then h.values es x.values g (back_grows h e es) in
          let gy = back_grows h k x.values in
          name_if_means (moves h.log p c) (at_entry y.values (part_term h.log (number_part f) p c x.term y.term)) _
          (λ vs b.
          let s = at_these y.values vs (grown_then h.values x.values y.values gx gy) b in
          part_line i (only_values vs) ss sq h.log (number_part f) p c x.term y.term s.fits
          ∙ ap₂ (λ a d. part_in (number_part f) (slice_get (logged_rows i (only_values vs) ss h.log p c a) d))
          (back_means e es g r.0 vs (after_more x.values y.values vs gy b)) (back_means k x.values gx r.1 vs b)
          ∙ ap (part_in (number_part f))
          (row_here vs s p c (number_of i t.kept t.states e) (number_of i t.kept t.states k))
          ∙ sym (entry_number f
          (row_at (state_of t.states p) c (number_of i t.kept t.states e) (number_of i t.kept t.states k))))
      back_means (size m) es g r = size_means m es g r
      back_means (binary o a b) es g r = λ vs there.
          let x = back h a es in let y = back h b x.values in
          let gx = grown_then h.values es x.values g (back_grows h a es) in
          ap₂ (applied o) (back_means a es g r.0 vs (after_more x.values y.values vs (back_grows h b x.values) there))
          (back_means b x.values gx r.1 vs there)
      back_means (apply f a) es g r = λ vs b. ap (function_of f) (back_means a es g r vs b)
      back_means (pick c a b) es g r = λ vs there.
          let x = back h c es in let y = back h a x.values in let z = back h b y.values in
          let gx = grown_then h.values es x.values g (back_grows h c es) in
          let gy = grown_then h.values x.values y.values gx (back_grows h a x.values) in
          let up = after_more y.values z.values vs (back_grows h b y.values) there in
          three_same (back_means c es g r.0 vs (after_more x.values y.values vs (back_grows h a x.values) up))
          (back_means a x.values gx r.1 vs up) (back_means b y.values gy r.2 vs there)

      pub size_means : (m : TraceMessage) (es : List TraceNumber) → Grown h.values es → ReadsMessage sq i t m →
          Means (size_back h m es) (length (message_of i t.kept t.states m).body)
      size_means (core body) es g r = λ vs b. refl
      size_means (core (noted k)) es g r = λ vs b. let s = at_these es vs g b in
          sym (read_map (number_of i (only_values vs) ss) h.notes k zero_number) ∙
          ap (λ l. slice_index_or l k 0) s.notes
          ∙ read_map (λ (m : Content). length m.body) t.kept.messages k (plain [])
      size_means (core (taken_message j carried)) es g r = named_means (at_entry es (taken_term h.taken j size_part)) _
          (λ vs b. (at_these es vs g b).taken j size_part ∙ held_size carried (slice_index_or t.kept.rows j None))
      size_means (held p c e k carried) es g r =
          let x = back h e es in let y = back h k x.values in
          let gx = grown_then h.values es x.values g (back_grows h e es) in
          let gy = back_grows h k x.values in
          name_if_means (moves h.log p c) (at_entry y.values (part_term h.log size_part p c x.term y.term)) _ (λ vs b.
          let s = at_these y.values vs (grown_then h.values x.values y.values gx gy) b in
          part_line i (only_values vs) ss sq h.log size_part p c x.term y.term s.fits
          ∙ ap₂ (λ a d. part_in size_part (slice_get (logged_rows i (only_values vs) ss h.log p c a) d))
          (back_means e es g r.0 vs (after_more x.values y.values vs gy b)) (back_means k x.values gx r.1 vs b)
          ∙ ap (part_in size_part) (row_here vs s p c (number_of i t.kept t.states e) (number_of i t.kept t.states k))
          ∙ held_size carried (row_at (state_of t.states p) c (number_of i t.kept t.states e)
          (number_of i t.kept t.states k)))
      size_means (core nothing) es g r = λ vs b. refl
      size_means (cut m f n) es g r = λ vs there.
          let x = named_value (size_back h m es) in let y = named_value (back h f x.values) in let z =
          named_value (back h n y.values) in
          let gx = grown_then h.values es x.values g (name_grows es (size_back h m es) (size_grows h m es)) in
          let gy' = name_grows x.values (back h f x.values) (back_grows h f x.values) in
          let gz' = name_grows y.values (back h n y.values) (back_grows h n y.values) in
          let gy = grown_then h.values x.values y.values gx gy' in
          let up = after_more y.values z.values vs gz' there in
          let ex = named_means (size_back h m es) _ (size_means m es g r.1) vs (after_more x.values y.values vs gy' up)
          in
          let ey = named_means (back h f x.values) _ (back_means f x.values gx r.2) vs up in
          let ez = named_means (back h n y.values) _ (back_means n y.values gy r.3) vs there in
          same_cut ex ey ez ∙ cut_worth (length (message_of i t.kept t.states m).body) (number_of i t.kept t.states f)
          (number_of i t.kept t.states n) r.0
          ∙ sym (length-take (number_of i t.kept t.states n)
          (drop (number_of i t.kept t.states f) (message_of i t.kept t.states m).body)
          ∙ ap (min (number_of i t.kept t.states n))
          (length-drop (number_of i t.kept t.states f) (message_of i t.kept t.states m).body))
      size_means (tail m f) es g r = λ vs there.
          let x = named_value (size_back h m es) in let y = named_value (back h f x.values) in
          let gx = grown_then h.values es x.values g (name_grows es (size_back h m es) (size_grows h m es)) in
          let gy' = name_grows x.values (back h f x.values) (back_grows h f x.values) in
          let ex = named_means (size_back h m es) _ (size_means m es g r.1) vs
          (after_more x.values y.values vs gy' there) in
          let ey = named_means (back h f x.values) _ (back_means f x.values gx r.2) vs there in
          same_tail ex ey ∙ tail_worth (length (message_of i t.kept t.states m).body) (number_of i t.kept t.states f)
          r.0
          ∙ sym (length-drop (number_of i t.kept t.states f) (message_of i t.kept t.states m).body)
      size_means (join a b) es g r = λ vs there.
          let x = named_value (size_back h a es) in let y = named_value (size_back h b x.values) in
          let gx = grown_then h.values es x.values g (name_grows es (size_back h a es) (size_grows h a es)) in
          let gy' = name_grows x.values (size_back h b x.values) (size_grows h b x.values) in
          let ex = named_means (size_back h a es) _ (size_means a es g r.2) vs
          (after_more x.values y.values vs gy' there) in
          let ey = named_means (size_back h b x.values) _ (size_means b x.values gx r.3) vs there in
          same_join ex ey ∙ join_worth (message_of i t.kept t.states a) (message_of i t.kept t.states b) r.0 r.1

    abbrev pub MeansAll : List TraceNumber → List TraceNumber → List ℕ → Type 0
    MeansAll es terms ns = (vs : List ℕ) → After es vs → map (number_of i (only_values vs) ss) terms ≡ ns

    pub all_means : (xs : List TraceNumber) (es : List TraceNumber) → Grown h.values es → ReadsAll sq i t xs →
        MeansAll (all_back h xs es).values (all_back h xs es).terms (map (number_of i t.kept t.states) xs)
    all_means [] es g r = λ vs there. refl
    all_means (x ∷ xs) es g r = λ vs there.
        let y = back h x es in let z = all_back h xs y.values in
        let gy = grown_then h.values es y.values g (back_grows h x es) in
        ap₂ (λ n ns. n ∷ ns) (back_means x es g r.0 vs
        (after_more y.values z.values vs (all_grows h xs y.values) there))
        (all_means xs y.values gy r.1 vs there)

    pub core_means : (m : Option Chained) (es : List TraceNumber) → Grown h.values es →
        Means (put_size_back h m es)
        (length (message_in part
        (Some (record { numbers = []; message = option_map (content_at i t.kept) m }))).body)
    core_means None es g = λ vs there. refl
    core_means (Some m) es g = size_means (core m.core) es g tt
