-- One operation, and what a guard knows of it.
use Rattle.std.proofs.Common.{◌≡◌, ℕ, suc, ◌+◌, ◌^◌, ◌<◌, ◌==◌, nat_lt, Bool, true, false, ◌&&◌, ◌⊎◌, inl, inr}
use Rattle.std.proofs.Common.{if◌then◌else◌, List, [], ◌∷◌, ◌++◌, map, length, drop, slice_get, slice_index_or, Option}
use Rattle.std.proofs.Common.{option_map, Some, None, refl, sym, ap, ap₂, ◌∙◌, subst, arith}
use Rattle.std.proofs.lemmas.Bool.{eqb-true, and_parts, and_from, or_cases, or_left, or_right, cases_order}
use Rattle.std.proofs.lemmas.List.{length-map, length-append, map-append, drop-map, get_or_past, get_or_at}
use Rattle.std.proofs.lemmas.List.{get_or_append_left}
use Rattle.std.proofs.lemmas.List.Folds.{list_all-append}
use Rattle.std.proofs.lemmas.Option.{slice_get_past}
use Rattle.std.specs.List.{list_all}
use Rattle.std.specs.Option.{option_map_or}
use Rattle.msg_core.specs.Chain.{Content}
use Rattle.layer_mean.specs.declared.run.Row.{Row}
use Rattle.layer_mean.specs.State.{State, flat_index, rows_at, row_at}
use Rattle.layer_mean.specs.Value.{is_true}
use Rattle.trace_mean.specs.Trace.{number, peer, field, bound, taken_number, value, TraceNumber, atom, me, count, ltime}
use Rattle.trace_mean.specs.Trace.{element, square, rows, item, size, binary, apply, pick, Chained, Operation, bind}
use Rattle.trace_mean.specs.Trace.{note, check, set, set_square, push, take, output}
use Rattle.trace_mean.specs.Worth.{Input, state_of, number_of, message_of, content_at, only_values}
use Rattle.trace_mean.specs.Follow.{Trail, Followed, on, stopped_at, operates}
use Rattle.guard_mean.specs.Perform.{holds_at}
use Rattle.guard_mean.specs.Hoist.{Taken, Hoisting, AtEntry, zero_number, is_zero, is_here, Part, part_taken}
use Rattle.guard_mean.specs.Hoist.{taken_term, back, size_back, all_back, put_size_back, hoists}
use Rattle.guard_laws.specs.Sound.{row_count, fits_extent, Squares, SoundAt}
use Rattle.guard_laws.proofs.Lines.{Outline, outline, logged_rows, part_in, get_last, get_before, part_line}
use Rattle.guard_laws.proofs.States.{here, numbers_after, extents_after, queues_after, numbers_stay, extents_stay}
use Rattle.guard_laws.proofs.States.{rows_after}
use Rattle.guard_laws.proofs.Grows.{grown_same, grown_then, back_grows, all_grows, put_grows, hoists_grow}
use Rattle.guard_laws.proofs.Grows.{conjuncts_grow}
use Rattle.guard_laws.proofs.Means.{Stands, After, after_more, Means, named_means, back_means, size_means, all_means}
use Rattle.guard_laws.proofs.Means.{core_means, row_here}

-- an index that is written as 0 is carried back as such
zero_back : (h : Hoisting) (e : TraceNumber) (es : List TraceNumber) → is_zero e ≡ true → is_zero (back h e es).term ≡
    true
zero_back h (atom (number n)) es is = is
zero_back h (atom peer) es is = absurd (cc is)
zero_back h (atom (field k)) es is = absurd (cc is)
zero_back h (atom (bound k)) es is = absurd (cc is)
zero_back h (atom (taken_number r k)) es is = absurd (cc is)
zero_back h (atom (value k)) es is = absurd (cc is)
zero_back h me es is = absurd (cc is)
zero_back h count es is = absurd (cc is)
zero_back h ltime es is = absurd (cc is)
zero_back h (element p c e) es is = absurd (cc is)
zero_back h (square p c r k) es is = absurd (cc is)
zero_back h (rows p c e) es is = absurd (cc is)
zero_back h (item p c e r k) es is = absurd (cc is)
zero_back h (size m) es is = absurd (cc is)
zero_back h (binary o a b) es is = absurd (cc is)
zero_back h (apply f a) es is = absurd (cc is)
zero_back h (pick c a b) es is = absurd (cc is)

fits_back : (h : Hoisting) (e : TraceNumber) (es : List TraceNumber) (n many many' : ℕ) → many ≡ many' →
    fits_extent n many e ≡ true →
    fits_extent n many' (back h e es).term ≡ true
fits_back h e es n many many' same is = subst (λ m. fits_extent n m (back h e es).term ≡ true) same
    (go (or_cases (many == n) ((many == 1) && is_zero e) is)) where
      go : ((many == n) ≡ true) ⊎ (((many == 1) && is_zero e) ≡ true) → fits_extent n many (back h e es).term ≡ true
      go (inl array) = or_left (many == n) ((many == 1) && is_zero (back h e es).term) array
      go (inr alone) = let parts = and_parts (many == 1) (is_zero e) alone in
          or_right (many == n) ((many == 1) && is_zero (back h e es).term)
          (and_from (many == 1) _ parts.0 (zero_back h e es parts.1))

-- a list with one more
pub get_push : {A : Type 0} (xs : List A) (x : A) (k : ℕ) →
    ((slice_get (xs ++ x ∷ []) k ≡ slice_get xs k) × (k ≡ length xs → ⊥)) ⊎
    ((k ≡ length xs) × (slice_get (xs ++ x ∷ []) k ≡ Some x))
get_push xs x k = go (cases_order k (length xs)) where
  go : (k ≡ length xs) ⊎ ((k < length xs) ⊎ (length xs < k)) →
      ((slice_get (xs ++ x ∷ []) k ≡ slice_get xs k) × (k ≡ length xs → ⊥)) ⊎
      ((k ≡ length xs) × (slice_get (xs ++ x ∷ []) k ≡ Some x))
  go (inl same) = inr (same, ap (slice_get (xs ++ x ∷ [])) same ∙ get_last xs x)
  go (inr (inl less)) = inl (get_before xs x k less, λ same. omega (arith, less, same))
  go (inr (inr more)) = inl (
    slice_get_past (xs ++ x ∷ []) k (let l = length-append xs (x ∷ []) in let one : length (x ∷ []) ≡ 1 = refl in
        omega (arith, l, one, more))
        ∙ sym (slice_get_past xs k (omega (arith, more))),
    λ same. omega (arith, more, same),
  )

module _ (sq : Squares) (i : Input) (ss : List State) where
  abbrev pub Standing : Trail → Hoisting → Type 0
  Standing t h = (vs : List ℕ) → After sq i ss h.values vs → Stands sq i ss t h vs

  abbrev pub all_hold : List ℕ → List TraceNumber → Bool
  all_hold vs es = list_all (holds_at i (only_values vs) ss) es

  -- a guard holds so far, or it doesn't
  pub record On (t : Trail) (h : Hoisting) : Type 0 where
    pub standing : Standing t h
    pub passed : (vs : List ℕ) → After sq i ss h.values vs → all_hold vs h.conjuncts ≡ true

  abbrev pub Failed : Hoisting → Type 0
  Failed h = (vs : List ℕ) → After sq i ss h.values vs → all_hold vs h.conjuncts ≡ false

  abbrev pub Claim : Followed → Hoisting → Type 0
  Claim (on t) h = On t h
  Claim (stopped_at k) h = Failed h

  -- what has failed stays so
  pub stays_failed : (h : Hoisting) (o : Operation) → Failed h → Failed (hoists h o)
  stays_failed h o failed vs b =
      let g = conjuncts_grow h o in
      ap (all_hold vs) g.1 ∙ list_all-append (holds_at i (only_values vs) ss) h.conjuncts g.0
      ∙ ap (λ t. t && all_hold vs g.0)
      (failed vs (after_more sq i ss h.values (hoists h o).values vs (hoists_grow h o) b))

  still_passed : (t : Trail) (h : Hoisting) (o : Operation) → (hoists h o).conjuncts ≡ h.conjuncts → On t h →
      (vs : List ℕ) → After sq i ss (hoists h o).values vs → all_hold vs (hoists h o).conjuncts ≡ true
  still_passed t h o same so vs b = ap (all_hold vs) same ∙
      so.passed vs (after_more sq i ss h.values (hoists h o).values vs (hoists_grow h o) b)

  earlier : (t : Trail) (h : Hoisting) (o : Operation) → Standing t h → (vs : List ℕ) →
      After sq i ss (hoists h o).values vs → Stands sq i ss t h vs
  earlier t h o standing vs b = standing vs (after_more sq i ss h.values (hoists h o).values vs (hoists_grow h o) b)

  -- how many rows a log knows of
  counted : (t : Trail) (h : Hoisting) (vs : List ℕ) → Stands sq i ss t h vs → (p c j j' : ℕ) → j' ≡ j →
      row_count t.states p c j ≡ length (logged_rows i (only_values vs) ss h.log p c j')
  counted t h vs s p c j j' same = sym (length-map (rows_at (state_of t.states p) c j) outline) ∙
      ap length (s.rows p c j)
      ∙ ap (λ k. length (logged_rows i (only_values vs) ss h.log p c k)) (sym same)

  set_step : (t : Trail) (h : Hoisting) (p c : ℕ) (e v : TraceNumber) → SoundAt sq i t (set p c e v) → On t h →
      Claim (operates i t (set p c e v)) (hoists h (set p c e v))
  set_step t h p c e v sound so = record {
    standing = λ vs b.
        let s = earlier t h (set p c e v) so.standing vs b in
        let x = back h e h.values in let y = back h v x.values in
        let gy = back_grows h v x.values in
        let ex = back_means sq i ss t h so.standing e h.values (grown_same h.values) sound.3 vs
        (after_more sq i ss x.values y.values vs gy b) in
        let ey = back_means sq i ss t h so.standing v x.values (back_grows h e h.values) sound.4 vs b in
        let ve = number_of i t.kept t.states e in let vv = number_of i t.kept t.states v in
        record {
          none = s.none;
          binds = s.binds;
          notes = s.notes;
          taken = s.taken;
          lengths = s.lengths;
          fits = (sound.0, sound.1, fits_back h e h.values i.count _ _ (s.extents p c) sound.2, s.fits);
          numbers = λ q d j. numbers_after t.states p c ve vv q d j
              ∙ (λ z. if is_here q d p c && ((j == sym ex z) && nat_lt j (s.extents q d z)) then sym ey z else s.numbers
              q d j z);
          extents = λ q d. extents_after t.states p c ve vv q d ∙ s.extents q d;
          rows = λ q d j. ap (map outline) (queues_after t.states p c ve vv q d j) ∙ s.rows q d j;
        };
    passed = still_passed t h (set p c e v) refl so;
  }

  set_square_step : (t : Trail) (h : Hoisting) (p c : ℕ) (r k v : TraceNumber) → SoundAt sq i t (set_square p c r k v) →
      On t h →
      Claim (operates i t (set_square p c r k v)) (hoists h (set_square p c r k v))
  set_square_step t h p c r k v sound so = record {
    standing = λ vs b.
        let s = earlier t h (set_square p c r k v) so.standing vs b in
        let x = back h r h.values in let y = back h k x.values in let z = back h v y.values in
        let gx = back_grows h r h.values in let gy = back_grows h k x.values in let gz = back_grows h v y.values in
        let by = after_more sq i ss y.values z.values vs gz b in
        let ex = back_means sq i ss t h so.standing r h.values (grown_same h.values) sound.2 vs
        (after_more sq i ss x.values y.values vs gy by) in
        let ey = back_means sq i ss t h so.standing k x.values gx sound.3 vs by in
        let ez = back_means sq i ss t h so.standing v y.values (grown_then h.values x.values y.values gx gy) sound.4 vs
        b in
        let at = flat_index i.count (number_of i t.kept t.states r) (number_of i t.kept t.states k) in let vv =
        number_of i t.kept t.states v in
        record {
          none = s.none;
          binds = s.binds;
          notes = s.notes;
          taken = s.taken;
          lengths = s.lengths;
          fits = (sound.0, sym (s.extents p c) ∙ sound.1, s.fits);
          numbers = λ q d j. numbers_after t.states p c at vv q d j
              ∙ (λ w. if is_here q d p c &&
              ((j == flat_index i.count (sym ex w) (sym ey w)) && nat_lt j (s.extents q d w)) then sym ez w
              else s.numbers q d j w);
          extents = λ q d. extents_after t.states p c at vv q d ∙ s.extents q d;
          rows = λ q d j. ap (map outline) (queues_after t.states p c at vv q d j) ∙ s.rows q d j;
        };
    passed = still_passed t h (set_square p c r k v) refl so;
  }

  -- rows after a change of one queue
  queue_here : (t : Trail) (h : Hoisting) (vs : List ℕ) → Stands sq i ss t h vs → (p c k k' : ℕ) → k' ≡ k →
      (new : List Row) (change : List Outline → List Outline) →
      map outline new ≡ change (map outline (rows_at (state_of t.states p) c k)) →
      (q d j : ℕ) → map outline (if is_here q d p c && (j == k) then new else rows_at (state_of t.states q) d j) ≡
      (if is_here q d p c && (j == k') then change (logged_rows i (only_values vs) ss h.log q d j) else logged_rows i
      (only_values vs) ss h.log q d j)
  queue_here t h vs s p c k k' same new change made q d j =
      go (is_here q d p c && (j == k)) refl ∙
      ap (λ n. if is_here q d p c && (j == n) then change (logged_rows i (only_values vs) ss h.log q d j)
      else logged_rows i (only_values vs) ss h.log q d j) (sym same) where
        go : (b : Bool) → (is_here q d p c && (j == k)) ≡ b →
            map outline (if b then new else rows_at (state_of t.states q) d j) ≡
            (if b then change (logged_rows i (only_values vs) ss h.log q d j) else logged_rows i (only_values vs) ss
            h.log q d j)
        go true is =
            let both = and_parts (is_here q d p c) (j == k) is in
            let at = here q d p c both.0 in
            let here_row : j ≡ k = eqb-true j k both.1 in
            made ∙ ap change ((λ z.
            map outline (rows_at (state_of t.states (sym at.0 z)) (sym at.1 z) (sym here_row z))) ∙ s.rows q d j)
        go false is = s.rows q d j

  push_step : (t : Trail) (h : Hoisting) (p c : ℕ) (e : TraceNumber) (numbers : List TraceNumber) (m : Option Chained) →
      SoundAt sq i t (push p c e numbers m) → On t h →
      Claim (operates i t (push p c e numbers m)) (hoists h (push p c e numbers m))
  push_step t h p c e numbers m sound so = record {
    standing = λ vs b.
        let s = earlier t h (push p c e numbers m) so.standing vs b in
        let x = back h e h.values in let y = all_back h numbers x.values in let z = put_size_back h m y.values in
        let gx = back_grows h e h.values in let gy = all_grows h numbers x.values in let gz = put_grows h m y.values in
        let by = after_more sq i ss y.values z.values vs gz b in
        let ex = back_means sq i ss t h so.standing e h.values (grown_same h.values) sound.3 vs
        (after_more sq i ss x.values y.values vs gy by) in
        let ey = all_means sq i ss t h so.standing numbers x.values gx sound.4 vs by in
        let ez = core_means sq i ss t h so.standing m y.values (grown_then h.values x.values y.values gx gy) vs b in
        let ve = number_of i t.kept t.states e in
        let old = rows_at (state_of t.states p) c ve in
        let new = old ++ (record {
          numbers = map (number_of i t.kept t.states) numbers;
          message =
              option_map (content_at i t.kept) m;
        }) ∷ [] in
        record {
          none = s.none;
          binds = s.binds;
          notes = s.notes;
          taken = s.taken;
          lengths = s.lengths;
          fits = (
            subst (λ n. suc n < 2 ^ 32) (counted t h vs s p c ve (number_of i (only_values vs) ss x.term) ex) sound.1,
            λ j. subst (λ n. n < 2 ^ 32) (counted t h vs s p c j j refl) (sound.2 j),
            s.fits,
          );
          numbers = λ q d j. numbers_stay t.states p c ve new q d j ∙ s.numbers q d j;
          extents = λ q d. extents_stay t.states p c ve new q d ∙ s.extents q d;
          rows = λ q d j. ap (map outline) (rows_after t.states p c ve new sound.0 q d j)
              ∙ queue_here t h vs s p c ve (number_of i (only_values vs) ss x.term) ex new
              (λ l. l ++ record {
                numbers = map (number_of i (only_values vs) ss) y.terms;
                size =
                    number_of i (only_values vs) ss z.term;
              } ∷ [])
              (map-append outline old _ ∙ (λ w. map outline old ++ record { numbers = sym ey w; size = sym ez w } ∷ []))
              q d j;
        };
    passed = still_passed t h (push p c e numbers m) refl so;
  }

  taken_more : (t : Trail) (h : Hoisting) (vs : List ℕ) → Stands sq i ss t h vs → (a : Taken) (new : Option Row) →
      ((f : Part) → number_of i (only_values vs) ss (part_taken f a) ≡ part_in f (option_map outline new)) →
      (r : ℕ) (f : Part) → number_of i (only_values vs) ss (taken_term (h.taken ++ a ∷ []) r f) ≡ part_in f
      (option_map outline (slice_index_or (t.kept.rows ++ new ∷ []) r None))
  taken_more t h vs s a new is r f = go (cases_order r (length h.taken)) where
    worth : Option Taken → ℕ
    worth o = number_of i (only_values vs) ss (option_map_or (part_taken f) o zero_number)

    part_at : Option Row → ℕ
    part_at o = part_in f (option_map outline o)

    go : (r ≡ length h.taken) ⊎ ((r < length h.taken) ⊎ (length h.taken < r)) →
        worth (slice_get (h.taken ++ a ∷ []) r) ≡ part_at (slice_index_or (t.kept.rows ++ new ∷ []) r None)
    go (inl at) = ap worth (ap (slice_get (h.taken ++ a ∷ [])) at ∙ get_last h.taken a) ∙ is f
        ∙ ap part_at (sym (get_or_at t.kept.rows new [] None r (sym (at ∙ s.lengths))))
    go (inr (inl less)) = ap worth (get_before h.taken a r less) ∙ s.taken r f
        ∙ ap part_at (sym (get_or_append_left t.kept.rows (new ∷ []) None r
        (let l = s.lengths in omega (arith, less, l))))
    go (inr (inr more)) =
        let l = s.lengths in let one = length-append h.taken (a ∷ []) in let one' =
        length-append t.kept.rows (new ∷ []) in
        let just : length (a ∷ []) ≡ 1 = refl in let just' : length (new ∷ []) ≡ 1 = refl in
        ap worth (slice_get_past (h.taken ++ a ∷ []) r (omega (arith, one, just, more)))
        ∙ ap part_at (sym (get_or_past (t.kept.rows ++ new ∷ []) r None (omega (arith, one', just', more, l))))

  take_step : (t : Trail) (h : Hoisting) (p c : ℕ) (e : TraceNumber) → SoundAt sq i t (take p c e) → On t h →
      Claim (operates i t (take p c e)) (hoists h (take p c e))
  take_step t h p c e sound so = record {
    standing = λ vs b.
        let s = earlier t h (take p c e) so.standing vs b in
        let x = back h e h.values in
        let ex = back_means sq i ss t h so.standing e h.values (grown_same h.values) sound.3 vs b in
        let ve = number_of i t.kept t.states e in
        let old = rows_at (state_of t.states p) c ve in
        record {
          none = s.none;
          binds = s.binds;
          notes = s.notes;
          taken = taken_more t h vs s _ (row_at (state_of t.states p) c ve 0) (λ f.
              part_line i (only_values vs) ss sq h.log f p c x.term zero_number s.fits
              ∙ ap (λ j. part_in f (slice_get (logged_rows i (only_values vs) ss h.log p c j) 0)) ex
              ∙ ap (part_in f) (row_here sq i ss t h so.standing vs s p c ve 0));
          lengths = length-append h.taken _ ∙ ap (λ n. n + 1) s.lengths ∙ sym (length-append t.kept.rows _);
          fits = (
            subst (λ n. 0 < n) (counted t h vs s p c ve (number_of i (only_values vs) ss x.term) ex) sound.1,
            λ j. subst (λ n. n < 2 ^ 32) (counted t h vs s p c j j refl) (sound.2 j),
            s.fits,
          );
          numbers = λ q d j. numbers_stay t.states p c ve (drop 1 old) q d j ∙ s.numbers q d j;
          extents = λ q d. extents_stay t.states p c ve (drop 1 old) q d ∙ s.extents q d;
          rows = λ q d j. ap (map outline) (rows_after t.states p c ve (drop 1 old) sound.0 q d j)
              ∙ queue_here t h vs s p c ve (number_of i (only_values vs) ss x.term) ex (drop 1 old) (drop 1)
              (sym (drop-map outline 1 old)) q d j;
        };
    passed = still_passed t h (take p c e) refl so;
  }

  pub step : (t : Trail) (h : Hoisting) (o : Operation) → SoundAt sq i t o → On t h →
      Claim (operates i t o) (hoists h o)
  step t h (bind e) sound so = record {
    standing = λ vs b.
        let s = earlier t h (bind e) so.standing vs b in
        let worth = named_means sq i ss (back h e h.values) _
        (back_means sq i ss t h so.standing e h.values (grown_same h.values) sound) vs b in
        record {
          none = s.none;
          binds = map-append (number_of i (only_values vs) ss) h.binds _ ∙ ap₂ (λ xs x. xs ++ x ∷ []) s.binds worth;
          notes = s.notes;
          taken = s.taken;
          fits = s.fits;
          numbers = s.numbers;
          extents = s.extents;
          lengths = s.lengths;
          rows = s.rows;
        };
    passed = still_passed t h (bind e) refl so;
  }
  step t h (note m) sound so = record {
    standing = λ vs b.
        let s = earlier t h (note m) so.standing vs b in
        let worth = named_means sq i ss (size_back h m h.values) _
        (size_means sq i ss t h so.standing m h.values (grown_same h.values) sound) vs b in
        record {
          none = s.none;
          binds = s.binds;
          notes = map-append (number_of i (only_values vs) ss) h.notes _ ∙ ap₂ (λ xs x. xs ++ x ∷ []) s.notes worth
              ∙ sym (map-append (λ (m : Content). length m.body) t.kept.messages (message_of i t.kept t.states m ∷ []));
          taken = s.taken;
          fits = s.fits;
          numbers = s.numbers;
          extents = s.extents;
          lengths = s.lengths;
          rows = s.rows;
        };
    passed = still_passed t h (note m) refl so;
  }
  step t h (check e) sound so = go (is_true (number_of i t.kept t.states e)) refl where
    x : AtEntry
    x = back h e h.values

    worth : Means sq i ss x (number_of i t.kept t.states e)
    worth = back_means sq i ss t h so.standing e h.values (grown_same h.values) sound

    all_of : (b : Bool) → is_true (number_of i t.kept t.states e) ≡ b → (vs : List ℕ) → After sq i ss x.values vs →
        all_hold vs (h.conjuncts ++ x.term ∷ []) ≡ (b && true)
    all_of b is vs there =
        list_all-append (holds_at i (only_values vs) ss) h.conjuncts (x.term ∷ [])
        ∙ ap₂ (λ c d. c && (d && true))
        (so.passed vs (after_more sq i ss h.values x.values vs (back_grows h e h.values) there))
        (ap is_true (worth vs there) ∙ is)

    go : (b : Bool) → is_true (number_of i t.kept t.states e) ≡ b →
        Claim (if b then on (record t { checks = t.checks + 1 }) else stopped_at t.checks) (hoists h (check e))
    go true is = record {
      standing = λ vs b. let s = earlier t h (check e) so.standing vs b in record {
        none = s.none;
        binds = s.binds;
        notes = s.notes;
        taken = s.taken;
        fits = s.fits;
        numbers = s.numbers;
        extents = s.extents;
        lengths = s.lengths;
        rows = s.rows;
      };
      passed = all_of true is;
    }
    go false is = all_of false is
  step t h (set p c e v) sound so = set_step t h p c e v sound so
  step t h (set_square p c r k v) sound so = set_square_step t h p c r k v sound so
  step t h (push p c e numbers m) sound so = push_step t h p c e numbers m sound so
  step t h (take p c e) sound so = take_step t h p c e sound so
  step t h (output dir kind numbers m) sound so = record {
    standing = λ vs b. let s = so.standing vs b in record {
      none = s.none;
      binds = s.binds;
      notes = s.notes;
      taken = s.taken;
      fits = s.fits;
      numbers = s.numbers;
      extents = s.extents;
      lengths = s.lengths;
      rows = s.rows;
    };
    passed = so.passed;
  }
