-- A simplified guarded handler does the same.
use Rattle.std.proofs.Common.{◌≡◌, ℕ, suc, ◌+◌, ◌<◌, ◌==◌, nat_lt, nat_le, Bool, true, false, not, ◌&&◌, ◌⊎◌, inl, inr}
use Rattle.std.proofs.Common.{if◌then◌else◌, List, [], ◌∷◌, ◌++◌, map, length, slice_get, slice_index, slice_index_or}
use Rattle.std.proofs.Common.{Option, Some, None, option_map, fold, refl, sym, ap, ap₂, ◌∙◌, arith}
use Rattle.std.proofs.lemmas.Bool.{eq-eqb, and_parts, or_cases, false≢true, cases_order}
use Rattle.std.proofs.lemmas.List.{length-append, get_or_past, get_or_at, get_or_append_left}
use Rattle.std.proofs.lemmas.List.Folds.{list_all-append}
use Rattle.std.specs.List.{list_all}
use Rattle.msg_core.specs.Chain.{Content}
use Rattle.msg_core.specs.Parts as parts
use Rattle.layer_words.specs.declared.operators.Function.{Function}
use Rattle.layer_words.specs.declared.operators.Operator.{Operator}
use Rattle.layer_words.specs.declared.operators.Operator.TheVariants.{Equal, NotEqual, Less, LessOrEqual, Greater}
use Rattle.layer_words.specs.declared.operators.Operator.TheVariants.{GreaterOrEqual}
use Rattle.layer_mean.specs.State.{State, number_at, flat_index, rows_at, row_at, with_number, with_row, without_front}
use Rattle.layer_mean.specs.Value.{is_true, of_bool, applied, function_of, number_in, message_in}
use Rattle.trace_mean.specs.Trace.{Atom, number, peer, field, bound, taken_number, value, TraceNumber, atom, me, count}
use Rattle.trace_mean.specs.Trace.{ltime, element, square, rows, item, size, binary, apply, pick, Core, body, noted}
use Rattle.trace_mean.specs.Trace.{taken_message, nothing, TraceMessage, core, held, cut, tail, join, Operation, bind}
use Rattle.trace_mean.specs.Trace.{note, check, set, set_square, push, take, output, Guarded}
use Rattle.trace_mean.specs.Worth.{Input, Kept, only_values, atom_at, core_at, state_of, number_of, message_of}
use Rattle.trace_mean.specs.Worth.{content_at}
use Rattle.trace_mean.specs.Follow.{Trail, with_bound, with_noted, with_taken_row, with_state, does, before, perform}
use Rattle.guard_mean.specs.Perform.{with_value, values_of, holds_at, holds}
use Rattle.guard_mean.specs.Alike.{same_number, is_among}
use Rattle.guard_mean.specs.Hoist.{one_number}
use Rattle.guard_mean.specs.Simplify.{is_comparison, is_equal, written_number, is_settled, reduced_binary, second}
use Rattle.guard_mean.specs.Simplify.{make_binary}
use Rattle.guard_mean.specs.Simplify.{applied_to, make_apply, reduced_pick, make_pick, make_atom, reduced}
use Rattle.guard_mean.specs.Simplify.{reduced_message}
use Rattle.guard_mean.specs.Simplify.{Left, found_among, other_value, next_value, leaves, another, keeps}
use Rattle.guard_mean.specs.Simplify.{reduced_operation, guarded_by, simplified}
use Rattle.guard_laws.specs.Simpler.{SimplifiedIsSame}
use Rattle.guard_laws.proofs.Alike.{number_alike, among_holds}
use Rattle.guard_laws.proofs.Grows.{Grown, grown_same, grown_one, grown_then, values_grow}
use Rattle.guard_laws.proofs.Means.{value_here}
use Rattle.guard_laws.proofs.Steps.{get_push}

is_bit : (b : Bool) → is_true (of_bool b) ≡ true → 1 ≡ of_bool b
is_bit true is = refl
is_bit false is = absurd (false≢true is)

-- a comparison that holds is 1
comparison_bit : (o : Operator) (x y : ℕ) → is_comparison o ≡ true → is_true (applied o x y) ≡ true → 1 ≡ applied o x y
comparison_bit Equal x y is holds = is_bit (x == y) holds
comparison_bit NotEqual x y is holds = is_bit (not (x == y)) holds
comparison_bit Less x y is holds = is_bit (nat_lt x y) holds
comparison_bit LessOrEqual x y is holds = is_bit (nat_le x y) holds
comparison_bit Greater x y is holds = is_bit (nat_lt y x) holds
comparison_bit GreaterOrEqual x y is holds = is_bit (nat_le y x) holds
comparison_bit _ x y is holds = absurd (false≢true is)

equal_bit : (o : Operator) (x y : ℕ) → is_equal o ≡ true → x ≡ y → 1 ≡ applied o x y
equal_bit Equal x y is same = ap of_bool (sym (eq-eqb x y same))
equal_bit _ x y is same = absurd (false≢true is)

module _ (i : Input) (kept : Kept) (ss : List State) where
  written_worth : (e : TraceNumber) (n : ℕ) → written_number e ≡ Some n → number_of i kept ss e ≡ n
  written_worth (atom (number m)) n is = cc
  written_worth (atom peer) n is = absurd (cc is)
  written_worth (atom (field k)) n is = absurd (cc is)
  written_worth (atom (bound k)) n is = absurd (cc is)
  written_worth (atom (taken_number r k)) n is = absurd (cc is)
  written_worth (atom (value k)) n is = absurd (cc is)
  written_worth me n is = absurd (cc is)
  written_worth count n is = absurd (cc is)
  written_worth ltime n is = absurd (cc is)
  written_worth (element p c e) n is = absurd (cc is)
  written_worth (square p c r k) n is = absurd (cc is)
  written_worth (rows p c e) n is = absurd (cc is)
  written_worth (item p c e r k) n is = absurd (cc is)
  written_worth (size m) n is = absurd (cc is)
  written_worth (binary o a b) n is = absurd (cc is)
  written_worth (apply f a) n is = absurd (cc is)
  written_worth (pick c a b) n is = absurd (cc is)

  module _ (ks : List TraceNumber) (hold : list_all (holds_at i kept ss) ks ≡ true) where
    joined_worth : (o : Operator) (a b : TraceNumber) → number_of i kept ss (reduced_binary ks o a b) ≡
        applied o (number_of i kept ss a) (number_of i kept ss b)
    joined_worth o a b = go (is_settled ks o a b) refl where
      one : (is_equal o && same_number a b ≡ true) ⊎ (is_comparison o && is_among ks (binary o a b) ≡ true) →
          1 ≡ applied o (number_of i kept ss a) (number_of i kept ss b)
      one (inl same) = let both = and_parts (is_equal o) (same_number a b) same in
          equal_bit o _ _ both.0 (number_alike i kept ss a b both.1)
      one (inr known) = let both = and_parts (is_comparison o) (is_among ks (binary o a b)) known in
          comparison_bit o _ _ both.0 (among_holds i kept ss ks (binary o a b) hold both.1)

      go : (t : Bool) → is_settled ks o a b ≡ t → number_of i kept ss (if t then one_number else binary o a b) ≡
          applied o (number_of i kept ss a)
          (number_of i kept ss b)
      go true is = one (or_cases (is_equal o && same_number a b) (is_comparison o && is_among ks (binary o a b)) is)
      go false is = refl

    binary_worth : (o : Operator) (a b : TraceNumber) → number_of i kept ss (make_binary ks o a b) ≡
        applied o (number_of i kept ss a) (number_of i kept ss b)
    binary_worth o a b = go (written_number a) (written_number b) refl refl where
      go : (x y : Option ℕ) → written_number a ≡ x → written_number b ≡ y →
          number_of i kept ss (second ks o a b x y) ≡ applied o (number_of i kept ss a) (number_of i kept ss b)
      go (Some n) (Some m) is too = ap₂ (applied o) (sym (written_worth a n is)) (sym (written_worth b m too))
      go (Some n) None is too = joined_worth o a b
      go None y is too = joined_worth o a b

    apply_worth : (f : Function) (a : TraceNumber) → number_of i kept ss (make_apply f a) ≡
        function_of f (number_of i kept ss a)
    apply_worth f a = go (written_number a) refl where
      go : (x : Option ℕ) → written_number a ≡ x → number_of i kept ss (applied_to f a x) ≡
          function_of f (number_of i kept ss a)
      go (Some n) is = ap (function_of f) (sym (written_worth a n is))
      go None is = refl

    pick_worth : (c a b : TraceNumber) → number_of i kept ss (make_pick c a b) ≡
        (if is_true (number_of i kept ss c) then number_of i kept ss a else number_of i kept ss b)
    pick_worth c a b = go (written_number c) refl where
      choice : (t : Bool) → number_of i kept ss (if t then a else b) ≡
          (if t then number_of i kept ss a else number_of i kept ss b)
      choice true = refl
      choice false = refl

      go : (x : Option ℕ) → written_number c ≡ x → number_of i kept ss (reduced_pick x c a b) ≡
          (if is_true (number_of i kept ss c) then number_of i kept ss a else number_of i kept ss b)
      go (Some n) is = choice (is_true n) ∙ ap (λ v. if is_true v then number_of i kept ss a else number_of i kept ss b)
          (sym (written_worth c n is))
      go None is = refl

-- what was made simpler is worth the same
module _ (i : Input) (kept : Kept) (ss : List State) (ws : List ℕ) (ns : List Atom) (ks : List TraceNumber)
    (named : (k : ℕ) → atom_at i (record kept { values = ws }) (slice_index_or ns k (number 0)) ≡
    slice_index kept.values k)
    (hold : list_all (holds_at i (record kept { values = ws }) ss) ks ≡ true) where
  abbrev now : Kept
  now = record kept { values = ws }

  atom_worth : (a : Atom) → atom_at i now (make_atom ns a) ≡ atom_at i kept a
  atom_worth (number n) = refl
  atom_worth peer = refl
  atom_worth (field k) = refl
  atom_worth (bound k) = refl
  atom_worth (taken_number r k) = refl
  atom_worth (value k) = named k

  core_worth : (c : Core) → core_at i now c ≡ core_at i kept c
  core_worth body = refl
  core_worth (noted k) = refl
  core_worth (taken_message r carried) = refl
  core_worth nothing = refl

  mutual
    pub reduced_worth : (e : TraceNumber) → number_of i now ss (reduced ns ks e) ≡ number_of i kept ss e
    reduced_worth (atom a) = atom_worth a
    reduced_worth me = refl
    reduced_worth count = refl
    reduced_worth ltime = refl
    reduced_worth (element p c e) = ap (number_at (state_of ss p) c) (reduced_worth e)
    reduced_worth (square p c r k) = ap₂ (λ a b. number_at (state_of ss p) c (flat_index i.count a b)) (reduced_worth r)
        (reduced_worth k)
    reduced_worth (rows p c e) = ap (λ j. length (rows_at (state_of ss p) c j)) (reduced_worth e)
    reduced_worth (item p c e r k) = ap₂ (λ a b. number_in k (row_at (state_of ss p) c a b)) (reduced_worth e)
        (reduced_worth r)
    reduced_worth (size m) = ap (λ (x : Content). length x.body) (message_worth m)
    reduced_worth (binary o a b) = binary_worth i now ss ks hold o _ _ ∙
        ap₂ (applied o) (reduced_worth a) (reduced_worth b)
    reduced_worth (apply f a) = apply_worth i now ss ks hold f _ ∙ ap (function_of f) (reduced_worth a)
    reduced_worth (pick c a b) = pick_worth i now ss ks hold (reduced ns ks c) (reduced ns ks a) (reduced ns ks b)
        ∙ (let ec = reduced_worth c in let ea = reduced_worth a in let eb = reduced_worth b in λ z.
        if is_true (ec z) then ea z else eb z)

    pub message_worth : (m : TraceMessage) → message_of i now ss (reduced_message ns ks m) ≡ message_of i kept ss m
    message_worth (core c) = core_worth c
    message_worth (held p c e r carried) = ap₂ (λ a b. message_in carried (row_at (state_of ss p) c a b))
        (reduced_worth e) (reduced_worth r)
    message_worth (cut m f n) = let em = message_worth m in let ef = reduced_worth f in let en = reduced_worth n in λ z.
        parts.cut (em z) (ef z) (en z)
    message_worth (tail m f) = ap₂ parts.tail (message_worth m) (reduced_worth f)
    message_worth (join a b) = ap₂ parts.join (message_worth a) (message_worth b)

-- where an expression was found
found : (es : List TraceNumber) (e : TraceNumber) (k j : ℕ) {C : Type 0} → found_among k es e ≡ Some j →
    ((m : ℕ) (y : TraceNumber) → j ≡ k + m → slice_get es m ≡ Some y → same_number y e ≡ true → C) → C
found [] e k j is so = absurd (cc is)
found (x ∷ es) e k j {C = C} is so = go (same_number x e) refl is (λ later. found es e (suc k) j later
    (λ m y at got same. so (suc m) y (omega (arith, at)) got same)) where
      go : (t : Bool) → same_number x e ≡ t → (if t then Some k else found_among (suc k) es e) ≡ Some j →
          (found_among (suc k) es e ≡ Some j → C) → C
      go true same is rest = so 0 x (let at : k ≡ j = cc is in omega (arith, at)) refl same
      go false other is rest = rest is

pub any_cell : ℕ → ℕ → Bool
any_cell p c = false

and-true : (t : Bool) → (t && true) ≡ t
and-true true = refl
and-true false = refl

and_assoc : (a b c : Bool) → ((a && b) && c) ≡ (a && (b && c))
and_assoc true b c = refl
and_assoc false b c = refl

module _ (i : Input) (ss : List State) where
  abbrev After : List TraceNumber → List ℕ → Type 0
  After es ws = Grown (values_of i ss es) ws

  -- former values under their names
  record Going (vs : List ℕ) (l : Left) : Type 0 where
    lengths : length l.names ≡ length vs
    named : (ws : List ℕ) → After l.values ws → (k : ℕ) →
        atom_at i (only_values ws) (slice_index_or l.names k (number 0)) ≡ slice_index vs k
    made : (ws : List ℕ) → After l.values ws → (k : ℕ) (y : TraceNumber) → slice_get l.values k ≡ Some y →
        number_of i (only_values ws) ss y ≡ slice_index ws k

  name_more : (ws vs : List ℕ) (names : List Atom) (a : Atom) (v : ℕ) → length names ≡ length vs →
      ((k : ℕ) → atom_at i (only_values ws) (slice_index_or names k (number 0)) ≡ slice_index vs k) →
      atom_at i (only_values ws) a ≡ v →
      (k : ℕ) → atom_at i (only_values ws) (slice_index_or (names ++ a ∷ []) k (number 0)) ≡
      slice_index (vs ++ v ∷ []) k
  name_more ws vs names a v same old new k = go (cases_order k (length names)) where
    worth : Atom → ℕ
    worth x = atom_at i (only_values ws) x

    one : length names + 1 ≡ length (names ++ a ∷ [])
    one = sym (length-append names (a ∷ []))

    one' : length vs + 1 ≡ length (vs ++ v ∷ [])
    one' = sym (length-append vs (v ∷ []))

    go : (k ≡ length names) ⊎ ((k < length names) ⊎ (length names < k)) →
        worth (slice_index_or (names ++ a ∷ []) k (number 0)) ≡ slice_index (vs ++ v ∷ []) k
    go (inl at) = ap worth (get_or_at names a [] (number 0) k (sym at)) ∙ new ∙
        sym (get_or_at vs v [] 0 k (sym (at ∙ same)))
    go (inr (inl less)) = ap worth (get_or_append_left names (a ∷ []) (number 0) k less) ∙ old k
        ∙ sym (get_or_append_left vs (v ∷ []) 0 k (omega (arith, less, same)))
    go (inr (inr more)) = ap worth (get_or_past (names ++ a ∷ []) k (number 0) (omega (arith, one, more)))
        ∙ sym (get_or_past (vs ++ v ∷ []) k 0 (omega (arith, one', more, same)))

  leave_step : (vs : List ℕ) (l : Left) (e : TraceNumber) → Going vs l → Going (with_value i ss vs e) (leaves l e)
  leave_step vs l e so = go (written_number x) refl where
    x : TraceNumber
    x = reduced l.names [] e

    v : ℕ
    v = number_of i (only_values vs) ss e

    worth : (ws : List ℕ) → After l.values ws → number_of i (only_values ws) ss x ≡ v
    worth ws b = reduced_worth i (only_values vs) ss ws l.names [] (so.named ws b) refl e

    more_lengths : (a : Atom) → length (l.names ++ a ∷ []) ≡ length (vs ++ v ∷ [])
    more_lengths a = length-append l.names (a ∷ []) ∙ ap (λ n. n + 1) so.lengths ∙ sym (length-append vs (v ∷ []))

    first : After (l.values ++ x ∷ []) (values_of i ss (l.values ++ x ∷ []))
    first = grown_same _

    before : (ws : List ℕ) → After (l.values ++ x ∷ []) ws → After l.values ws
    before ws b = grown_then (values_of i ss l.values) (values_of i ss (l.values ++ x ∷ [])) ws
        (values_grow i ss l.values (l.values ++ x ∷ []) (grown_one l.values x)) b

    new_here : (ws : List ℕ) → After (l.values ++ x ∷ []) ws → slice_index ws (length l.values) ≡ v
    new_here ws b = value_here any_cell i ss l.values x ws b ∙
        worth (values_of i ss l.values) (grown_same (values_of i ss l.values))

    seek : (o : Option ℕ) → found_among 0 l.values x ≡ o → Going (vs ++ v ∷ []) (other_value l x o)
    seek (Some j) is = record {
      lengths = more_lengths (value j);
      named = λ ws b. name_more ws vs l.names (value j) v so.lengths (so.named ws b)
          (found l.values x 0 j is (λ m y at got same.
          ap (slice_index ws) (let e : j ≡ m = omega (arith, at) in e) ∙ sym (so.made ws b m y got) ∙
          number_alike i (only_values ws) ss y x same
          ∙ worth ws b));
      made = so.made;
    }
    seek None is = record {
      lengths = more_lengths (value (length l.values));
      named = λ ws b. name_more ws vs l.names (value (length l.values)) v so.lengths (so.named ws (before ws b))
          (new_here ws b);
      made = λ ws b k y got. made_more ws b k y got (get_push l.values x k);
    } where
      made_more : (ws : List ℕ) → After (l.values ++ x ∷ []) ws → (k : ℕ) (y : TraceNumber) →
          slice_get (l.values ++ x ∷ []) k ≡ Some y →
          ((slice_get (l.values ++ x ∷ []) k ≡ slice_get l.values k) × (k ≡ length l.values → ⊥)) ⊎
          ((k ≡ length l.values) × (slice_get (l.values ++ x ∷ []) k ≡ Some x)) →
          number_of i (only_values ws) ss y ≡ slice_index ws k
      made_more ws b k y got (inl old) = so.made ws (before ws b) k y (sym old.0 ∙ got)
      made_more ws b k y got (inr last) =
          let same : x ≡ y = cc (last.1, got) in
          ap (number_of i (only_values ws) ss) (sym same) ∙ worth ws (before ws b) ∙
          sym (ap (slice_index ws) last.0 ∙ new_here ws b)

    go : (o : Option ℕ) → written_number x ≡ o → Going (vs ++ v ∷ []) (next_value l x o)
    go (Some n) is = record {
      lengths = more_lengths (number n);
      named = λ ws b. name_more ws vs l.names (number n) v so.lengths (so.named ws b)
          (sym (written_worth i (only_values ws) ss x n is) ∙ worth ws b);
      made = so.made;
    }
    go None is = seek (found_among 0 l.values x) refl

  leave_all : (es : List TraceNumber) (vs : List ℕ) (l : Left) → Going vs l →
      Going (fold (with_value i ss) vs es) (fold leaves l es)
  leave_all [] vs l so = so
  leave_all (e ∷ es) vs l so = leave_all es (with_value i ss vs e) (leaves l e) (leave_step vs l e so)

  -- conjuncts
  module _ (vs ws : List ℕ) (ns : List Atom)
      (named : (k : ℕ) → atom_at i (only_values ws) (slice_index_or ns k (number 0)) ≡ slice_index vs k) where
    abbrev kept_hold : Option (List TraceNumber) → Bool
    kept_hold None = false
    kept_hold (Some ks) = list_all (holds_at i (only_values ws) ss) ks

    last_holds : (ks : List TraceNumber) (e : TraceNumber) → kept_hold (Some (ks ++ e ∷ [])) ≡
        (kept_hold (Some ks) && is_true (number_of i (only_values ws) ss e))
    last_holds ks e = list_all-append (holds_at i (only_values ws) ss) ks (e ∷ []) ∙
        ap (λ t. kept_hold (Some ks) && t) (and-true _)

    keep_step : (kept : Option (List TraceNumber)) (e : TraceNumber) → kept_hold (keeps ns kept e) ≡
        (kept_hold kept && is_true (number_of i (only_values vs) ss e))
    keep_step None e = refl
    keep_step (Some ks) e = go (kept_hold (Some ks)) refl where
      x : TraceNumber
      x = reduced ns ks e

      goal : Bool → Option ℕ → Type 0
      goal t o = kept_hold (another ks x o) ≡ (t && is_true (number_of i (only_values vs) ss e))

      fails : (o : Option ℕ) → kept_hold (Some ks) ≡ false → goal false o
      fails (Some n) no_hold = one (is_true n) where
        one : (t : Bool) → kept_hold (if t then Some ks else None) ≡ false
        one true = no_hold
        one false = refl
      fails None no_hold = one (is_among ks x) where
        one : (t : Bool) → kept_hold (if t then Some ks else Some (ks ++ x ∷ [])) ≡ false
        one true = no_hold
        one false = last_holds ks x ∙ ap (λ t. t && is_true (number_of i (only_values ws) ss x)) no_hold

      stands : kept_hold (Some ks) ≡ true → (o : Option ℕ) → written_number x ≡ o → goal true o
      stands hold (Some n) is = one (is_true n) refl where
        same : is_true n ≡ is_true (number_of i (only_values vs) ss e)
        same = ap is_true (sym (written_worth i (only_values ws) ss x n is) ∙
            reduced_worth i (only_values vs) ss ws ns ks named hold e)

        one : (t : Bool) → is_true n ≡ t → kept_hold (if t then Some ks else None) ≡
            is_true (number_of i (only_values vs) ss e)
        one true is = hold ∙ sym is ∙ same
        one false is = sym is ∙ same
      stands hold None is = one (is_among ks x) refl where
        worth : number_of i (only_values ws) ss x ≡ number_of i (only_values vs) ss e
        worth = reduced_worth i (only_values vs) ss ws ns ks named hold e

        one : (t : Bool) → is_among ks x ≡ t → kept_hold (if t then Some ks else Some (ks ++ x ∷ [])) ≡
            is_true (number_of i (only_values vs) ss e)
        one true is = hold ∙ sym (among_holds i (only_values ws) ss ks x hold is) ∙ ap is_true worth
        one false is = last_holds ks x ∙ ap₂ (λ a b. a && is_true b) hold worth

      go : (t : Bool) → kept_hold (Some ks) ≡ t → goal t (written_number x)
      go true hold = stands hold (written_number x) refl
      go false hold = fails (written_number x) hold

    keep_all : (es : List TraceNumber) (kept : Option (List TraceNumber)) →
        kept_hold (fold (keeps ns) kept es) ≡ (kept_hold kept && list_all (holds_at i (only_values vs) ss) es)
    keep_all [] kept = sym (and-true (kept_hold kept))
    keep_all (e ∷ es) kept = keep_all es (keeps ns kept e)
        ∙ ap (λ t. t && list_all (holds_at i (only_values vs) ss) es) (keep_step kept e)
        ∙ and_assoc (kept_hold kept) (is_true (number_of i (only_values vs) ss e))
        (list_all (holds_at i (only_values vs) ss) es)

  guard_same : (g : Guarded) → holds i (simplified g) ss ≡ holds i g ss
  guard_same g = by_kept (fold (keeps l.names) (Some []) g.conjuncts)
      (keep_all vs ws l.names (so.named ws (grown_same ws)) g.conjuncts (Some [])) where
        l : Left
        l = fold leaves (record { values = []; names = [] }) g.values

        vs : List ℕ
        vs = values_of i ss g.values

        ws : List ℕ
        ws = values_of i ss l.values

        so : Going vs l
        so = leave_all g.values [] (record { values = []; names = [] }) (record {
          lengths = refl;
          named = λ ws b k. refl;
          made = λ ws b k y got. absurd (cc got);
        })

        by_kept : (kept : Option (List TraceNumber)) → kept_hold vs ws l.names (so.named ws (grown_same ws)) kept ≡
            holds i g ss →
            holds i (guarded_by l.values (map reduced_operation g.operations) kept) ss ≡ holds i g ss
        by_kept None is = is
        by_kept (Some ks) is = is

  -- operations
  module _ (t : Trail) (none : t.kept.values ≡ []) where
    unnamed : (k : ℕ) → 0 ≡ slice_index t.kept.values k
    unnamed k = sym (ap (λ l. slice_index l k) none)

    pub here_worth : (e : TraceNumber) → number_of i t.kept t.states (reduced [] [] e) ≡ number_of i t.kept t.states e
    here_worth e = reduced_worth i t.kept t.states t.kept.values [] [] unnamed refl e

    here_message : (m : TraceMessage) → message_of i t.kept t.states (reduced_message [] [] m) ≡
        message_of i t.kept t.states m
    here_message m = message_worth i t.kept t.states t.kept.values [] [] unnamed refl m

    pub here_all : (es : List TraceNumber) → map (number_of i t.kept t.states) (map (reduced [] []) es) ≡
        map (number_of i t.kept t.states) es
    here_all [] = refl
    here_all (e ∷ es) = ap₂ (λ x xs. x ∷ xs) (here_worth e) (here_all es)

  pub operation_same : (t : Trail) → t.kept.values ≡ [] → (o : Operation) → does i t (reduced_operation o) ≡ does i t o
  operation_same t none (bind e) = ap (with_bound t) (here_worth t none e)
  operation_same t none (note m) = ap (with_noted t) (here_message t none m)
  operation_same t none (check e) = refl
  operation_same t none (set p c e v) = let ee = here_worth t none e in let ev = here_worth t none v in
      λ z. with_state t p (with_number (state_of t.states p) c (ee z) (ev z))
  operation_same t none (set_square p c r k v) =
      let er = here_worth t none r in let ek = here_worth t none k in let ev = here_worth t none v in
      λ z. with_state t p (with_number (state_of t.states p) c (flat_index i.count (er z) (ek z)) (ev z))
  operation_same t none (push p c e numbers m) =
      let ee = here_worth t none e in let en = here_all t none numbers in
      λ z. with_state t p (with_row (state_of t.states p) c (ee z)
      (record { numbers = en z; message = option_map (content_at i t.kept) m }))
  operation_same t none (take p c e) = let ee = here_worth t none e in
      λ z. with_state (with_taken_row t (row_at (state_of t.states p) c (ee z) 0)) p
      (without_front (state_of t.states p) c (ee z))
  operation_same t none (output dir kind numbers m) = refl

  valueless : (t : Trail) (o : Operation) → (does i t o).kept.values ≡ t.kept.values
  valueless t (bind e) = refl
  valueless t (note m) = refl
  valueless t (check e) = refl
  valueless t (set p c e v) = refl
  valueless t (set_square p c r k v) = refl
  valueless t (push p c e numbers m) = refl
  valueless t (take p c e) = refl
  valueless t (output dir kind numbers m) = refl

  operations_same : (os : List Operation) (t : Trail) → t.kept.values ≡ [] →
      fold (does i) t (map reduced_operation os) ≡ fold (does i) t os
  operations_same [] t none = refl
  operations_same (o ∷ os) t none = ap (λ u. fold (does i) u (map reduced_operation os)) (operation_same t none o)
      ∙ operations_same os (does i t o) (valueless t o ∙ none)

  done_same : (g : Guarded) → perform i (simplified g).operations ss ≡ perform i g.operations ss
  done_same g = by_kept
      (fold (keeps (fold leaves (record { values = []; names = [] }) g.values).names) (Some []) g.conjuncts) where
        by_kept : (kept : Option (List TraceNumber)) →
            perform i (guarded_by (fold leaves (record { values = []; names = [] }) g.values).values
            (map reduced_operation g.operations) kept).operations ss
            ≡ perform i g.operations ss
        by_kept None = operations_same g.operations (before ss) refl
        by_kept (Some ks) = operations_same g.operations (before ss) refl

pub simplified_is_same : SimplifiedIsSame
simplified_is_same g i ss = (guard_same i ss g, done_same i ss g)
