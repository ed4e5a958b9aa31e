-- What a trace has kept stays, and what it keeps after that.
use Rattle.std.proofs.Common.{◌≡◌, ℕ, suc, ◌+◌, Bool, List, [], ◌∷◌, ◌++◌, map, length, Option, Some, None, refl, sym}
use Rattle.std.proofs.Common.{ap, ◌∙◌, arith}
use Rattle.std.specs.Prelude.{if◌then◌else◌, slice_index_or}
use Rattle.std.specs.List.{fold}
use Rattle.std.specs.Option.{option_map_or}
use Rattle.std.proofs.Math.Seq.{get_or-append_seam}
use Rattle.std.proofs.lemmas.List.{append-nil, append_assoc, length-append}
use Rattle.std.proofs.lemmas.List.Sums.{fold-append}
use Rattle.msg_core.specs.Chain.{Content, plain}
use Rattle.layer_mean.specs.declared.run.Row.{Row}
use Rattle.layer_mean.specs.State.{State}
use Rattle.layer_mean.specs.Value.{is_true}
use Rattle.trace_mean.specs.Trace.{Core, body, noted, taken_message, nothing, TraceNumber, TraceMessage, core, held}
use Rattle.trace_mean.specs.Trace.{cut, tail, join, Operation, bind, note, check}
use Rattle.trace_mean.specs.Follow.{Trail, Followed, on, stopped_at, with_bound, with_noted, goes_on, follows}
use Rattle.trace_mean.specs.Scope.{bounds}
use Rattle.trace_mean.specs.Fuse.{core_if_settled, notes_of, notes_in, core_of}
use Rattle.trace_mean.specs.Worth.{Input, Kept, atom_at, core_at, number_of, message_of}

-- one list begins with another
pub record Begins {A : Type 0} (xs ys : List A) : Type 0 where
  pub more : List A
  pub is : ys ≡ xs ++ more

pub begins_self : {A : Type 0} (xs : List A) → Begins xs xs
begins_self xs = record { more = []; is = sym (append-nil xs) }

pub begins_append : {A : Type 0} (xs ys : List A) → Begins xs (xs ++ ys)
begins_append xs ys = record { more = ys; is = refl }

pub begins_on : {A : Type 0} (xs ys zs : List A) → Begins xs ys → Begins ys zs → Begins xs zs
begins_on xs ys zs a b =
    record { more = a.more ++ b.more; is = b.is ∙ ap (λ l. l ++ b.more) a.is ∙ append_assoc xs a.more b.more }

pub record Later (k u : Kept) : Type 0 where
  pub numbers : Begins k.numbers u.numbers
  pub messages : Begins k.messages u.messages
  pub rows : Begins k.rows u.rows

pub later_self : (k : Kept) → Later k k
later_self k = record { numbers = begins_self k.numbers; messages = begins_self k.messages; rows = begins_self k.rows }

pub later_on : (k u w : Kept) → Later k u → Later u w → Later k w
later_on k u w a b = record {
  numbers = begins_on k.numbers u.numbers w.numbers a.numbers b.numbers;
  messages = begins_on k.messages u.messages w.messages a.messages b.messages;
  rows = begins_on k.rows u.rows w.rows a.rows b.rows;
}

abbrev pub more_numbers : Kept → List ℕ → Kept
more_numbers k ns = record k { numbers = k.numbers ++ ns }

abbrev pub more_messages : Kept → List Content → Kept
more_messages k ms = record k { messages = k.messages ++ ms }

abbrev pub more_rows : Kept → List (Option Row) → Kept
more_rows k rs = record k { rows = k.rows ++ rs }

pub later_numbers : (k : Kept) (ns : List ℕ) → Later k (more_numbers k ns)
later_numbers k ns = record {
  numbers = begins_append k.numbers ns;
  messages = begins_self k.messages;
  rows =
      begins_self k.rows;
}

pub later_messages : (k : Kept) (ms : List Content) → Later k (more_messages k ms)
later_messages k ms =
    record { numbers = begins_self k.numbers; messages = begins_append k.messages ms; rows = begins_self k.rows }

pub later_rows : (k : Kept) (rs : List (Option Row)) → Later k (more_rows k rs)
later_rows k rs = record {
  numbers = begins_self k.numbers;
  messages = begins_self k.messages;
  rows =
      begins_append k.rows rs;
}

-- what stands after n items
pub nth : {A : Type 0} (xs : List A) (x d : A) (ys : List A) (n : ℕ) → length xs ≡ n → Begins (xs ++ x ∷ []) ys →
    slice_index_or ys n d ≡ x
nth xs x d ys n long b =
    (λ t. slice_index_or ((b.is ∙ append_assoc xs (x ∷ []) b.more) t) (sym long t) d) ∙ get_or-append_seam xs x b.more d

-- a trace that stopped stays so, and one that goes on does so after what it did
pub stays : (i : Input) (os : List Operation) (n : ℕ) → follows i os (stopped_at n) ≡ stopped_at n
stays i [] n = refl
stays i (o ∷ os) n = stays i os n

pub following : (i : Input) (os more : List Operation) (f g : Followed) → follows i os f ≡ g →
    follows i (os ++ more) f ≡ follows i more g
following i os more f g is = fold-append (goes_on i) f os more ∙ ap (λ x. fold (goes_on i) x more) is

pub checked : (i : Input) (e : TraceNumber) (os : List Operation) (t : Trail) (b : Bool) →
    is_true (number_of i t.kept t.states e) ≡ b →
    follows i (check e ∷ os) (on t) ≡
    follows i os (if b then on (record t { checks = t.checks + 1 }) else stopped_at t.checks)
checked i e os t b is =
    ap (λ x. fold (goes_on i) (if x then on (record t { checks = t.checks + 1 }) else stopped_at t.checks) os) is

-- numbers that are bound one after another
abbrev pub with_numbers : Trail → List ℕ → Trail
with_numbers t ns = record t { kept = more_numbers t.kept ns }

pub binds_follow : {E : Type 0} (i : Input) (f : E → TraceNumber) (g : E → ℕ) (es : List E) (t : Trail) →
    ((u : Kept) → Later t.kept u → (e : E) → number_of i u t.states (f e) ≡ g e) →
    follows i (map (λ e. bind (f e)) es) (on t) ≡ on (with_numbers t (map g es))
binds_follow i f g [] t worth = ap (λ ns. on (record t { kept = record t.kept { numbers = ns } }))
    (sym (append-nil t.kept.numbers))
binds_follow i f g (e ∷ es) t worth =
    ap (λ n. fold (goes_on i) (on (with_bound t n)) (map (λ e. bind (f e)) es)) (worth t.kept (later_self t.kept) e)
    ∙ binds_follow i f g es (with_bound t (g e))
    (λ u later. worth u (later_on t.kept _ u (later_numbers t.kept (g e ∷ [])) later))
    ∙ ap (λ ns. on (record t { kept = record t.kept { numbers = ns } }))
    (append_assoc t.kept.numbers (g e ∷ []) (map g es))

pub bounds_worth : {E : Type 0} (i : Input) (u : Kept) (g : E → ℕ) (es : List E) (xs : List ℕ) (n : ℕ) → length xs ≡ n →
    Begins (xs ++ map g es) u.numbers → map (atom_at i u) (bounds n es) ≡ map g es
bounds_worth i u g [] xs n long b = refl
bounds_worth i u g (e ∷ es) xs n long b =
    let first : Begins (xs ++ g e ∷ []) u.numbers = record {
      more = map g es ++ b.more;
      is = b.is ∙ append_assoc xs (g e ∷ map g es) b.more ∙ sym (append_assoc xs (g e ∷ []) (map g es ++ b.more));
    } in
    let rest : Begins ((xs ++ g e ∷ []) ++ map g es) u.numbers =
    record { more = b.more; is = b.is ∙ ap (λ l. l ++ b.more) (sym (append_assoc xs (g e ∷ []) (map g es))) } in
    λ t. nth xs (g e) 0 u.numbers n long first t
    ∷ bounds_worth i u g es (xs ++ g e ∷ []) (suc n) (length-append xs (g e ∷ []) ∙ omega (arith, long)) rest t

-- a message that is noted where it must be
abbrev pub with_notes : Trail → List Content → Trail
with_notes t ms = record t { kept = more_messages t.kept ms }

abbrev pub note_values : TraceMessage → Content → List Content
note_values m v = option_map_or (λ c. []) (core_if_settled m) (v ∷ [])

settled_is : (m : TraceMessage) (c : Core) → core_if_settled m ≡ Some c → (i : Input) (k : Kept) (ss : List State) →
    core_at i k c ≡ message_of i k ss m
settled_is (core body) c is i k ss = cc
settled_is (core (noted n)) c is i k ss = cc
settled_is (core (taken_message row carried)) c is i k ss = absurd (cc is)
settled_is (core nothing) c is i k ss = absurd (cc is)
settled_is (held p q e row carried) c is i k ss = absurd (cc is)
settled_is (cut m from n) c is i k ss = absurd (cc is)
settled_is (tail m from) c is i k ss = absurd (cc is)
settled_is (join q m) c is i k ss = absurd (cc is)

pub notes_follow : (i : Input) (m : TraceMessage) (t : Trail) (v : Content) → message_of i t.kept t.states m ≡ v →
    follows i (notes_of m) (on t) ≡ on (with_notes t (note_values m v))
notes_follow i m t v worth = go (core_if_settled m) where
  go : (s : Option Core) →
      follows i (option_map_or (λ c. []) s (note m ∷ [])) (on t) ≡
      on (with_notes t (option_map_or (λ c. []) s (v ∷ [])))
  go None = ap (λ x. on (with_noted t x)) worth
  go (Some c) = ap (λ ms. on (record t { kept = record t.kept { messages = ms } })) (sym (append-nil t.kept.messages))

pub notes_count : (m : TraceMessage) (v : Content) (xs : List Content) (n : ℕ) → length xs ≡ n →
    length (xs ++ note_values m v) ≡ n + notes_in m
notes_count m v xs n long = go (core_if_settled m) where
  go : (s : Option Core) → length (xs ++ option_map_or (λ c. []) s (v ∷ [])) ≡ n + option_map_or (λ c. 0) s 1
  go None = length-append xs (v ∷ []) ∙ omega (arith, long)
  go (Some c) = length-append xs [] ∙ omega (arith, long)

pub core_worth : (i : Input) (u : Kept) (ss : List State) (m : TraceMessage) (v : Content) (xs : List Content) (n : ℕ) →
    length xs ≡ n →
    Begins (xs ++ note_values m v) u.messages → message_of i u ss m ≡ v → core_at i u (core_of n m) ≡ v
core_worth i u ss m v xs n long b worth = go (core_if_settled m) refl b where
  go : (s : Option Core) → core_if_settled m ≡ s → Begins (xs ++ option_map_or (λ c. []) s (v ∷ [])) u.messages →
      core_at i u (option_map_or (λ c. c) s (noted n)) ≡ v
  go None is b = nth xs v (plain []) u.messages n long b
  go (Some c) is b = settled_is m c is i u ss ∙ worth
