-- What is spelled alike is worth the same.
use Rattle.std.proofs.Common.{◌≡◌, ℕ, ◌+◌, ◌-◌, ◌==◌, Bool, true, false, ◌⊎◌, inl, inr, List, [], ◌∷◌, ◌++◌, min}
use Rattle.std.proofs.Common.{length, drop, slice_index_or, refl, sym, ap, ap₂, ◌∙◌}
use Rattle.std.proofs.lemmas.Bool.{eqb-true, and_parts, or_cases, false≢true}
use Rattle.std.proofs.lemmas.List.{length-take, length-drop, length-append}
use Rattle.std.specs.Prelude.{if◌then◌else◌, nat_le, Option, Some, None}
use Rattle.std.specs.List.{list_all}
use Rattle.std.specs.Option.{option_map_or}
use denote.Enum.Bare.{sameb, same_true}
use Rattle.layer_words.specs.contracts.operators.Operator as operator_row
use Rattle.layer_words.specs.contracts.operators.Function as function_row
use Rattle.msg_core.specs.Chain.{Content}
use Rattle.msg_core.specs.Parts as parts
use Rattle.msg_core.specs.Parts.{longest_body}
use Rattle.layer_mean.specs.declared.run.Row.{Row}
use Rattle.layer_mean.specs.Tree.{Carried, part, whole}
use Rattle.layer_mean.specs.State.{State, number_at, flat_index, rows_at, row_at}
use Rattle.layer_mean.specs.Value.{is_true, applied, function_of, number_in, message_in, missing}
use Rattle.trace_mean.specs.Trace.{Atom, number, peer, field, bound, taken_number, value, TraceNumber, atom, me, count}
use Rattle.trace_mean.specs.Trace.{ltime, element, square, rows, item, size, binary, apply, pick, Core, body, noted}
use Rattle.trace_mean.specs.Trace.{taken_message, nothing, TraceMessage, core, held, cut, tail, join}
use Rattle.trace_mean.specs.Worth.{Input, Kept, core_at, state_of, atom_at, number_of, message_of}
use Rattle.guard_mean.specs.Perform.{holds_at}
use Rattle.guard_mean.specs.Alike.{same_atom, same_core, same_number, same_message, is_among}

module _ (i : Input) (kept : Kept) (ss : List State) where
  atom_alike : (a b : Atom) → same_atom a b ≡ true → atom_at i kept a ≡ atom_at i kept b
  atom_alike (number n) (number m) is = eqb-true n m is
  atom_alike peer peer is = refl
  atom_alike (field k) (field j) is = ap (λ k. atom_at i kept (field k)) (eqb-true k j is)
  atom_alike (bound k) (bound j) is = ap (λ k. atom_at i kept (bound k)) (eqb-true k j is)
  atom_alike (taken_number r k) (taken_number q j) is = let both = and_parts (r == q) (k == j) is in
      ap₂ (λ r k. atom_at i kept (taken_number r k)) (eqb-true r q both.0) (eqb-true k j both.1)
  atom_alike (value k) (value j) is = ap (λ k. atom_at i kept (value k)) (eqb-true k j is)
  atom_alike _ _ is = absurd (false≢true is)

  abbrev bytes : TraceMessage → ℕ
  bytes m = length (message_of i kept ss m).body

  missing_bytes : (x y : Carried) → length (missing x).body ≡ length (missing y).body
  missing_bytes part part = refl
  missing_bytes part (whole blank) = refl
  missing_bytes (whole blank) part = refl
  missing_bytes (whole blank) (whole other) = refl

  pub held_bytes : (x y : Carried) (o : Option Row) → length (message_in x o).body ≡ length (message_in y o).body
  held_bytes x y None = missing_bytes x y
  held_bytes x y (Some r) = either r.message where
    either : (m : Option Content) → length (option_map_or (λ m. m) m (missing x)).body ≡
        length (option_map_or (λ m. m) m (missing y)).body
    either None = missing_bytes x y
    either (Some m) = refl

  pub join_size_is : (a b : Content) → length (parts.join a b).body ≡
      (if nat_le (length a.body + length b.body) longest_body
      then length a.body + length b.body else length b.body)
  join_size_is a b = go (nat_le (length a.body + length b.body) longest_body) where
    go : (t : Bool) → length (if t then record { headers = b.headers; body = a.body ++ b.body } else b).body ≡
        (if t then length a.body + length b.body else length b.body)
    go true = length-append a.body b.body
    go false = refl

  join_bytes : (a b c d : Content) → length a.body ≡ length c.body → length b.body ≡ length d.body →
      length (parts.join a b).body ≡ length (parts.join c d).body
  join_bytes a b c d e f = join_size_is a b ∙ (λ z. if nat_le (e z + f z) longest_body then e z + f z else f z) ∙
      sym (join_size_is c d)

  core_alike : (a b : Core) → same_core a b ≡ true → length (core_at i kept a).body ≡ length (core_at i kept b).body
  core_alike body body is = refl
  core_alike (noted k) (noted j) is = ap (λ k. length (core_at i kept (noted k)).body) (eqb-true k j is)
  core_alike (taken_message r x) (taken_message q y) is =
      ap (λ r. length (core_at i kept (taken_message r x)).body) (eqb-true r q (and_parts (r == q) _ is).0) ∙
      held_bytes x y (slice_index_or kept.rows q None)
  core_alike nothing nothing is = refl
  core_alike _ _ is = absurd (false≢true is)

  mutual
    pub number_alike : (a b : TraceNumber) → same_number a b ≡ true → number_of i kept ss a ≡ number_of i kept ss b
    number_alike (atom a) (atom b) is = atom_alike a b is
    number_alike me me is = refl
    number_alike count count is = refl
    number_alike ltime ltime is = refl
    number_alike (element p c e) (element q d f) is =
        let x = and_parts (p == q) _ is in let y = and_parts (c == d) _ x.1 in
        let ep = eqb-true p q x.0 in let ec = eqb-true c d y.0 in let ee = number_alike e f y.1 in
        λ z. number_at (state_of ss (ep z)) (ec z) (ee z)
    number_alike (square p c r k) (square q d t j) is =
        let x = and_parts (p == q) _ is in let y = and_parts (c == d) _ x.1 in let w =
        and_parts (same_number r t) _ y.1 in
        let ep = eqb-true p q x.0 in let ec = eqb-true c d y.0 in let er = number_alike r t w.0 in let ek =
        number_alike k j w.1 in
        λ z. number_at (state_of ss (ep z)) (ec z) (flat_index i.count (er z) (ek z))
    number_alike (rows p c e) (rows q d f) is =
        let x = and_parts (p == q) _ is in let y = and_parts (c == d) _ x.1 in
        let ep = eqb-true p q x.0 in let ec = eqb-true c d y.0 in let ee = number_alike e f y.1 in
        λ z. length (rows_at (state_of ss (ep z)) (ec z) (ee z))
    number_alike (item p c e r k) (item q d f t j) is =
        let x = and_parts (p == q) _ is in let y = and_parts (c == d) _ x.1 in let v = and_parts (k == j) _ y.1 in
        let w = and_parts (same_number e f) _ v.1 in
        let ep = eqb-true p q x.0 in let ec = eqb-true c d y.0 in let ek = eqb-true k j v.0 in let ee =
        number_alike e f w.0 in let er = number_alike r t w.1 in
        λ z. number_in (ek z) (row_at (state_of ss (ep z)) (ec z) (ee z) (er z))
    number_alike (size m) (size w) is = message_alike m w is
    number_alike (binary o a b) (binary u c d) is =
        let x = and_parts (sameb operator_row.the_type o u) _ is in let y = and_parts (same_number a c) _ x.1 in
        let eo = same_true operator_row.the_type tt o u x.0 in let ea = number_alike a c y.0 in let eb =
        number_alike b d y.1 in
        λ z. applied (eo z) (ea z) (eb z)
    number_alike (apply f a) (apply g b) is =
        let x = and_parts (sameb function_row.the_type f g) _ is in
        let ef = same_true function_row.the_type tt f g x.0 in let ea = number_alike a b x.1 in
        λ z. function_of (ef z) (ea z)
    number_alike (pick a b c) (pick d e f) is =
        let x = and_parts (same_number a d) _ is in let y = and_parts (same_number b e) _ x.1 in
        let ea = number_alike a d x.0 in let eb = number_alike b e y.0 in let ec = number_alike c f y.1 in
        λ z. if is_true (ea z) then eb z else ec z
    number_alike _ _ is = absurd (false≢true is)

    pub message_alike : (a b : TraceMessage) → same_message a b ≡ true → bytes a ≡ bytes b
    message_alike (core c) (core d) is = core_alike c d is
    message_alike (held p c e r a) (held q d f t b) is =
        let x = and_parts (p == q) _ is in let y = and_parts (c == d) _ x.1 in let w =
        and_parts (same_number e f) _ y.1 in
        let v = and_parts (same_number r t) _ w.1 in
        let ep = eqb-true p q x.0 in let ec = eqb-true c d y.0 in let ee = number_alike e f w.0 in let er =
        number_alike r t v.0 in
        (λ z. length (message_in a (row_at (state_of ss (ep z)) (ec z) (ee z) (er z))).body)
        ∙ held_bytes a b (row_at (state_of ss q) d (number_of i kept ss f) (number_of i kept ss t))
    message_alike (cut m f n) (cut w g k) is =
        let x = and_parts (same_message m w) _ is in let y = and_parts (same_number f g) _ x.1 in
        let em = message_alike m w x.0 in let ef = number_alike f g y.0 in let en = number_alike n k y.1 in
        length-take (number_of i kept ss n) (drop (number_of i kept ss f) (message_of i kept ss m).body)
        ∙ ap (min (number_of i kept ss n)) (length-drop (number_of i kept ss f) (message_of i kept ss m).body)
        ∙ (λ z. min (en z) (em z - ef z))
        ∙ sym (length-take (number_of i kept ss k) (drop (number_of i kept ss g) (message_of i kept ss w).body)
        ∙ ap (min (number_of i kept ss k)) (length-drop (number_of i kept ss g) (message_of i kept ss w).body))
    message_alike (tail m f) (tail w g) is =
        let x = and_parts (same_message m w) _ is in
        let em = message_alike m w x.0 in let ef = number_alike f g x.1 in
        length-drop (number_of i kept ss f) (message_of i kept ss m).body ∙ (λ z. em z - ef z)
        ∙ sym (length-drop (number_of i kept ss g) (message_of i kept ss w).body)
    message_alike (join a b) (join c d) is =
        let x = and_parts (same_message a c) _ is in
        join_bytes (message_of i kept ss a) (message_of i kept ss b) (message_of i kept ss c) (message_of i kept ss d)
        (message_alike a c x.0)
        (message_alike b d x.1)
    message_alike _ _ is = absurd (false≢true is)

  -- a number among those that all hold holds too
  pub among_holds : (ks : List TraceNumber) (e : TraceNumber) → list_all (holds_at i kept ss) ks ≡ true →
      is_among ks e ≡ true →
      is_true (number_of i kept ss e) ≡ true
  among_holds [] e hold is = absurd (false≢true is)
  among_holds (x ∷ ks) e hold is = go (or_cases (same_number x e) (is_among ks e) is) (among_holds ks e both.1) where
    both : (is_true (number_of i kept ss x) ≡ true) × (list_all (holds_at i kept ss) ks ≡ true)
    both = and_parts (is_true (number_of i kept ss x)) _ hold

    go : (same_number x e ≡ true) ⊎ (is_among ks e ≡ true) →
        (is_among ks e ≡ true → is_true (number_of i kept ss e) ≡ true) →
        is_true (number_of i kept ss e) ≡ true
    go (inl same) rest = ap is_true (sym (number_alike x e same)) ∙ both.0
    go (inr later) rest = rest later
