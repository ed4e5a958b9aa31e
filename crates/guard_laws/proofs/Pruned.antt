-- A guard without the entry values that it doesn't need holds where it held.
use Rattle.std.proofs.Common.{◌≡◌, ℕ, suc, ◌+◌, ◌<◌, Bool, true, false, ◌&&◌, ◌||◌, ◌⊎◌, inl, inr, if◌then◌else◌, List}
use Rattle.std.proofs.Common.{[], ◌∷◌, ◌++◌, map, length, slice_index, slice_index_or, fold, refl, sym, ap, ap₂, ◌∙◌}
use Rattle.std.proofs.Common.{subst, arith}
use Rattle.std.proofs.lemmas.Bool.{eq-eqb, and_from, or_left, or_right, false≢true, cases_order}
use Rattle.std.proofs.lemmas.List.{length-append, get_or_past, get_or_at, get_or_append_left}
use Rattle.std.specs.List.{list_all}
use Rattle.msg_core.specs.Chain.{Content}
use Rattle.msg_core.specs.Parts as parts
use Rattle.layer_mean.specs.State.{State, number_at, flat_index, rows_at, row_at}
use Rattle.layer_mean.specs.Value.{is_true, applied, function_of, number_in, message_in}
use Rattle.trace_mean.specs.Trace.{Atom, number, peer, field, bound, taken_number, value, TraceNumber, atom, me, count}
use Rattle.trace_mean.specs.Trace.{ltime, element, square, rows, item, size, binary, apply, pick, Core, body, noted}
use Rattle.trace_mean.specs.Trace.{taken_message, nothing, TraceMessage, core, held, cut, tail, join, Guarded}
use Rattle.trace_mean.specs.Worth.{Input, Kept, core_at, state_of, atom_at, number_of, message_of, only_values}
use Rattle.guard_mean.specs.Perform.{with_value, values_of, holds_at, holds}
use Rattle.guard_mean.specs.Simplify.{Left, make_atom}
use Rattle.guard_mean.specs.Prune.{reads_atom, reads, reads_message, renamed, renamed_message, any_reads, is_needed}
use Rattle.guard_mean.specs.Prune.{flags}
use Rattle.guard_mean.specs.Prune.{prunes_one, prunes, pruned}
use Rattle.guard_laws.proofs.Grows.{Grown, grown_same, grown_one, grown_then, values_grow}
use Rattle.guard_laws.proofs.Means.{value_here}
use Rattle.guard_laws.proofs.Simpler.{any_cell}

module _ (i : Input) (kept : Kept) (ss : List State) (ws : List ℕ) (ns : List Atom) where
  abbrev now : Kept
  now = record kept { values = ws }

  -- a name that is worth what it was
  abbrev pub Fits : ℕ → Type 0
  Fits k = atom_at i now (slice_index_or ns k (number 0)) ≡ slice_index kept.values k

  atom_renamed : (a : Atom) → ((k : ℕ) → reads_atom k a ≡ true → Fits k) → atom_at i now (make_atom ns a) ≡
      atom_at i kept a
  atom_renamed (number n) f = refl
  atom_renamed peer f = refl
  atom_renamed (field k) f = refl
  atom_renamed (bound k) f = refl
  atom_renamed (taken_number r k) f = refl
  atom_renamed (value k) f = f k (eq-eqb k k refl)

  core_renamed : (c : Core) → core_at i now c ≡ core_at i kept c
  core_renamed body = refl
  core_renamed (noted k) = refl
  core_renamed (taken_message r carried) = refl
  core_renamed nothing = refl

  mutual
    pub renamed_worth : (e : TraceNumber) → ((k : ℕ) → reads k e ≡ true → Fits k) → number_of i now ss (renamed ns e) ≡
        number_of i kept ss e
    renamed_worth (atom a) f = atom_renamed a f
    renamed_worth me f = refl
    renamed_worth count f = refl
    renamed_worth ltime f = refl
    renamed_worth (element p c e) f = ap (number_at (state_of ss p) c) (renamed_worth e f)
    renamed_worth (square p c r k) f = ap₂ (λ a b. number_at (state_of ss p) c (flat_index i.count a b))
        (renamed_worth r (λ v is. f v (or_left (reads v r) (reads v k) is)))
        (renamed_worth k (λ v is. f v (or_right (reads v r) (reads v k) is)))
    renamed_worth (rows p c e) f = ap (λ j. length (rows_at (state_of ss p) c j)) (renamed_worth e f)
    renamed_worth (item p c e r k) f = ap₂ (λ a b. number_in k (row_at (state_of ss p) c a b))
        (renamed_worth e (λ v is. f v (or_left (reads v e) (reads v r) is)))
        (renamed_worth r (λ v is. f v (or_right (reads v e) (reads v r) is)))
    renamed_worth (size m) f = ap (λ (x : Content). length x.body) (message_renamed m f)
    renamed_worth (binary o a b) f = ap₂ (applied o)
        (renamed_worth a (λ v is. f v (or_left (reads v a) (reads v b) is)))
        (renamed_worth b (λ v is. f v (or_right (reads v a) (reads v b) is)))
    renamed_worth (apply g a) f = ap (function_of g) (renamed_worth a f)
    renamed_worth (pick c a b) f =
        let ec = renamed_worth c (λ v is. f v (or_left (reads v c) (reads v a || reads v b) is)) in
        let ea = renamed_worth a
        (λ v is. f v (or_right (reads v c) (reads v a || reads v b) (or_left (reads v a) (reads v b) is))) in
        let eb = renamed_worth b
        (λ v is. f v (or_right (reads v c) (reads v a || reads v b) (or_right (reads v a) (reads v b) is))) in
        λ z. if is_true (ec z) then ea z else eb z

    pub message_renamed : (m : TraceMessage) → ((k : ℕ) → reads_message k m ≡ true → Fits k) →
        message_of i now ss (renamed_message ns m) ≡ message_of i kept ss m
    message_renamed (core c) f = core_renamed c
    message_renamed (held p c e r carried) f = ap₂ (λ a b. message_in carried (row_at (state_of ss p) c a b))
        (renamed_worth e (λ v is. f v (or_left (reads v e) (reads v r) is)))
        (renamed_worth r (λ v is. f v (or_right (reads v e) (reads v r) is)))
    message_renamed (cut m g n) f =
        let em = message_renamed m (λ v is. f v (or_left (reads_message v m) (reads v g || reads v n) is)) in
        let eg = renamed_worth g
        (λ v is. f v (or_right (reads_message v m) (reads v g || reads v n) (or_left (reads v g) (reads v n) is)))
        in
        let en = renamed_worth n
        (λ v is. f v (or_right (reads_message v m) (reads v g || reads v n) (or_right (reads v g) (reads v n) is)))
        in
        λ z. parts.cut (em z) (eg z) (en z)
    message_renamed (tail m g) f = ap₂ parts.tail
        (message_renamed m (λ v is. f v (or_left (reads_message v m) (reads v g) is)))
        (renamed_worth g (λ v is. f v (or_right (reads_message v m) (reads v g) is)))
    message_renamed (join a b) f = ap₂ parts.join
        (message_renamed a (λ v is. f v (or_left (reads_message v a) (reads_message v b) is)))
        (message_renamed b (λ v is. f v (or_right (reads_message v a) (reads_message v b) is)))

module _ (i : Input) (ss : List State) (cs : List TraceNumber) where
  -- names of what is needed after some entry values
  record Going (es : List TraceNumber) (vs : List ℕ) (l : Left) : Type 0 where
    lengths : length l.names ≡ length vs
    named : (ws : List ℕ) → Grown (values_of i ss l.values) ws → (k : ℕ) → is_needed k es cs (length l.names) ≡ true →
        Fits i (only_values vs) ss ws l.names k

  -- one name more, at one place
  name_at : (ws vs : List ℕ) (names : List Atom) (a : Atom) (v k : ℕ) → length names ≡ length vs →
      (k ≡ length names → atom_at i (only_values ws) a ≡ v) →
      Fits i (only_values vs) ss ws names k → Fits i (only_values (vs ++ v ∷ [])) ss ws (names ++ a ∷ []) k
  name_at ws vs names a v k same new old = go (cases_order k (length names)) where
    worth : Atom → ℕ
    worth x = atom_at i (only_values ws) x

    one : length (names ++ a ∷ []) ≡ length names + 1
    one = length-append names (a ∷ [])

    one' : length (vs ++ v ∷ []) ≡ length vs + 1
    one' = length-append vs (v ∷ [])

    go : (k ≡ length names) ⊎ ((k < length names) ⊎ (length names < k)) →
        worth (slice_index_or (names ++ a ∷ []) k (number 0)) ≡ slice_index (vs ++ v ∷ []) k
    go (inl at) = ap worth (get_or_at names a [] (number 0) k (sym at)) ∙ new at ∙
        sym (get_or_at vs v [] 0 k (sym (at ∙ same)))
    go (inr (inl less)) = ap worth (get_or_append_left names (a ∷ []) (number 0) k less) ∙ old
        ∙ sym (get_or_append_left vs (v ∷ []) 0 k (omega (arith, less, same)))
    go (inr (inr more)) = ap worth (get_or_past (names ++ a ∷ []) k (number 0) (omega (arith, one, more)))
        ∙ sym (get_or_past (vs ++ v ∷ []) k 0 (omega (arith, one', more, same)))

  prune_step : (e : TraceNumber) (es : List TraceNumber) (vs : List ℕ) (l : Left) → Going (e ∷ es) vs l →
      (flag : Bool) →
      is_needed (length l.names) es cs (suc (length l.names)) ≡ flag →
      Going es (with_value i ss vs e) (prunes_one l e flag)
  prune_step e es vs l so true is = record {
    lengths = more_lengths (value (length l.values));
    named = λ ws b k need. name_at ws vs l.names (value (length l.values)) v k so.lengths (λ at. new_here ws b)
        (so.named ws (before ws b) k
        (or_right _ (is_needed k es cs (suc (length l.names))) (sooner (value (length l.values)) k need)));
  } where
    v : ℕ
    v = number_of i (only_values vs) ss e

    x : TraceNumber
    x = renamed l.names e

    more_lengths : (a : Atom) → length (l.names ++ a ∷ []) ≡ length (vs ++ v ∷ [])
    more_lengths a = length-append l.names (a ∷ []) ∙ ap (λ n. n + 1) so.lengths ∙ sym (length-append vs (v ∷ []))

    sooner : (a : Atom) (k : ℕ) → is_needed k es cs (length (l.names ++ a ∷ [])) ≡ true →
        is_needed k es cs (suc (length l.names)) ≡ true
    sooner a k need = ap (is_needed k es cs) (let one = length-append l.names (a ∷ []) in
        let e : suc (length l.names) ≡ length (l.names ++ a ∷ []) = omega (arith, one) in e) ∙ need

    before : (ws : List ℕ) → Grown (values_of i ss (l.values ++ x ∷ [])) ws → Grown (values_of i ss l.values) ws
    before ws b = grown_then (values_of i ss l.values) (values_of i ss (l.values ++ x ∷ [])) ws
        (values_grow i ss l.values (l.values ++ x ∷ []) (grown_one l.values x)) b

    new_here : (ws : List ℕ) → Grown (values_of i ss (l.values ++ x ∷ [])) ws → slice_index ws (length l.values) ≡ v
    new_here ws b = value_here any_cell i ss l.values x ws b
        ∙ renamed_worth i (only_values vs) ss (values_of i ss l.values) l.names e
        (λ k read. so.named (values_of i ss l.values) (grown_same (values_of i ss l.values)) k
        (or_left _ (is_needed k es cs (suc (length l.names))) (and_from _ (reads k e) is read)))
  prune_step e es vs l so false is = record {
    lengths = length-append l.names (number 0 ∷ []) ∙ ap (λ n. n + 1) so.lengths ∙ sym (length-append vs (v ∷ []));
    named = λ ws b k need.
        let later = sooner k need in
        name_at ws vs l.names (number 0) v k so.lengths (λ at. absurd (unneeded k at later))
        (so.named ws b k (or_right _ (is_needed k es cs (suc (length l.names))) later));
  } where
    v : ℕ
    v = number_of i (only_values vs) ss e

    sooner : (k : ℕ) → is_needed k es cs (length (l.names ++ number 0 ∷ [])) ≡ true →
        is_needed k es cs (suc (length l.names)) ≡ true
    sooner k need = ap (is_needed k es cs) (let one = length-append l.names (number 0 ∷ []) in
        let e : suc (length l.names) ≡ length (l.names ++ number 0 ∷ []) = omega (arith, one) in e) ∙ need

    unneeded : (k : ℕ) → k ≡ length l.names → is_needed k es cs (suc (length l.names)) ≡ true → ⊥
    unneeded k at need = false≢true (sym is ∙ ap (λ k. is_needed k es cs (suc (length l.names))) (sym at) ∙ need)

  one_longer : (l : Left) (e : TraceNumber) (flag : Bool) → length (prunes_one l e flag).names ≡ length l.names + 1
  one_longer l e true = length-append l.names _
  one_longer l e false = length-append l.names _

  prune_all : (es : List TraceNumber) (vs : List ℕ) (l : Left) (k : ℕ) → k ≡ length l.names → Going es vs l →
      Going [] (fold (with_value i ss) vs es) (prunes l es (flags k es cs))
  prune_all [] vs l k same so = so
  prune_all (e ∷ es) vs l k same so =
      prune_all es (with_value i ss vs e) (prunes_one l e (is_needed k es cs (suc k))) (suc k)
      (let one = one_longer l e (is_needed k es cs (suc k)) in omega (arith, one, same))
      (subst (λ n. Going es (with_value i ss vs e) (prunes_one l e (is_needed n es cs (suc n)))) (sym same)
      (prune_step e es vs l so (is_needed (length l.names) es cs (suc (length l.names))) refl))

  conjuncts_same : (vs ws : List ℕ) (ns : List Atom) (ds : List TraceNumber) →
      ((k : ℕ) → any_reads k ds ≡ true → Fits i (only_values vs) ss ws ns k) →
      list_all (holds_at i (only_values ws) ss) (map (renamed ns) ds) ≡ list_all (holds_at i (only_values vs) ss) ds
  conjuncts_same vs ws ns [] f = refl
  conjuncts_same vs ws ns (d ∷ ds) f = ap₂ (λ x y. is_true x && y)
      (renamed_worth i (only_values vs) ss ws ns d (λ k is. f k (or_left (reads k d) (any_reads k ds) is)))
      (conjuncts_same vs ws ns ds (λ k is. f k (or_right (reads k d) (any_reads k ds) is)))

pub pruned_holds : (g : Guarded) (i : Input) (ss : List State) → holds i (pruned g) ss ≡ holds i g ss
pruned_holds g i ss =
    let none : Left = record { values = []; names = [] } in
    let l = prunes none g.values (flags 0 g.values g.conjuncts) in
    let ws = values_of i ss l.values in
    let so : Going i ss g.conjuncts [] (values_of i ss g.values) l =
    prune_all i ss g.conjuncts g.values [] none 0 refl (record { lengths = refl; named = λ ws b k need. refl }) in
    conjuncts_same i ss g.conjuncts (values_of i ss g.values) ws l.names g.conjuncts (so.named ws (grown_same ws))
