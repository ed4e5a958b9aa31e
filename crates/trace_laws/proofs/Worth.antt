-- What the expressions of a trace are worth is what those of the layer are, wherever the names of the scope are worth
-- what the scope holds.
use Rattle.std.proofs.Common.{◌≡◌, ℕ, zero, suc, ◌+◌, Bool, true, false, List, [], ◌∷◌, ◌++◌, map, length, refl, sym}
use Rattle.std.proofs.Common.{ap, ◌∙◌}
use Rattle.std.specs.Prelude.{if◌then◌else◌, nat_le, slice_index_or}
use Rattle.std.proofs.Math.ListN.{get_or-map}
use Rattle.std.proofs.lemmas.List.{append-nil}
use Rattle.msg_core.specs.Chain.{Content, plain}
use Rattle.msg_core.specs.Parts as parts
use Rattle.msg_core.specs.declared.message.Header.{Header}
use Rattle.layer_mean.specs.Tree as tree
use Rattle.layer_mean.specs.Tree.{part, whole, ExpressionTree, MessageTree}
use Rattle.layer_mean.specs.State.{State, number_at, flat_index, rows_at, row_at}
use Rattle.layer_mean.specs.Value.{Scope, is_true, applied, function_of, number_in, message_in, val, mval}
use Rattle.shape_laws.specs.Bare.{BareMessage}
use Rattle.trace_mean.specs.Scope.{Named, Names, no_number, no_message, Worded, is_part, traced_number, traced_message}
use Rattle.trace_laws.specs.Members.{IsOf}
use Rattle.trace_mean.specs.Worth.{Input, Kept, atom_at, core_at, state_of, number_of, message_of, header_at}

-- a message apart: whether all its headers are known, its first headers, and the message after these
pub record Apart : Type 0 where
  pub known : Bool
  pub headers : List Header
  pub following : Content

abbrev pub together : Apart → Content
together a = record { headers = a.headers ++ a.following.headers; body = a.following.body }

-- a message that is known, with all its headers first
abbrev pub told_apart : Content → Apart
told_apart m = record { known = true; headers = m.headers; following = plain m.body }

abbrev pub no_apart : Apart
no_apart = record { known = true; headers = []; following = plain [] }

-- a scope whose messages are apart
pub record Split : Type 0 where
  pub numbers : List ℕ
  pub messages : List Apart

abbrev pub scope_of : Split → Scope
scope_of l = record { numbers = l.numbers; messages = map together l.messages }

abbrev pub named_at : Input → Kept → Named → Apart
named_at i k x = record {
  known = x.known;
  headers = map (header_at i k) x.message.chain;
  following =
      core_at i k x.message.core;
}

abbrev pub split_at : Input → Kept → Names → Split
split_at i k l = record { numbers = map (atom_at i k) l.numbers; messages = map (named_at i k) l.messages }

abbrev pub worded_at : Input → Kept → List State → Worded → Apart
worded_at i k ss x = record {
  known = x.known;
  headers = map (header_at i k) x.chain;
  following =
      message_of i k ss x.message;
}

-- a message expression on a scope whose messages are apart
abbrev pub apart_of : MessageTree → State → Split → Apart
apart_of (tree.message k) s l = slice_index_or l.messages k no_apart
apart_of tree.nothing s l = no_apart
apart_of (tree.held c e row carried) s l = record {
  known = is_part carried;
  headers = [];
  following = message_in carried (row_at s c (val e s (scope_of l)) (val row s (scope_of l)));
}
apart_of (tree.cut m from n) s l = record {
  known = true;
  headers = [];
  following = parts.cut (apart_of m s l).following (val from s (scope_of l)) (val n s (scope_of l));
}
apart_of (tree.tail m from) s l =
    let x = apart_of m s l in record x { following = parts.tail x.following (val from s (scope_of l)) }
apart_of (tree.join q m) s l =
    let x = apart_of m s l in record x { following = parts.join (apart_of q s l).following x.following }

abbrev fronted : List Header → Content → Content
fronted headers m = record { headers = headers ++ m.headers; body = m.body }

join_apart : (p : Content) (headers : List Header) (m : Content) →
    fronted headers (parts.join p m) ≡ parts.join p (fronted headers m)
join_apart p headers m = go (nat_le (length p.body + length m.body) 8192) where
  go : (b : Bool) → fronted headers (if b then record { headers = m.headers; body = p.body ++ m.body } else m) ≡
      (if b then record { headers = headers ++ m.headers; body = p.body ++ m.body } else fronted headers m)
  go true = refl
  go false = refl

-- a part of a message, whatever its headers are
join_bodies : (p q m : Content) → p.body ≡ q.body → parts.join p m ≡ parts.join q m
join_bodies p q m same = ap (λ bytes. parts.join (plain bytes) m) same

cut_bodies : (p q : Content) (from n : ℕ) → p.body ≡ q.body → parts.cut p from n ≡ parts.cut q from n
cut_bodies p q from n same = ap (λ bytes. parts.cut (plain bytes) from n) same

pub together_is : (m : MessageTree) (s : State) (l : Split) → together (apart_of m s l) ≡ mval m s (scope_of l)
together_is (tree.message k) s l = sym (get_or-map together l.messages k no_apart)
together_is tree.nothing s l = refl
together_is (tree.held c e row carried) s l = refl
together_is (tree.cut m from n) s l = cut_bodies (apart_of m s l).following (mval m s (scope_of l)) _ _
    (ap (λ x. x.body) (together_is m s l))
together_is (tree.tail m from) s l = ap (λ x. parts.tail x (val from s (scope_of l))) (together_is m s l)
together_is (tree.join q m) s l =
    join_apart (apart_of q s l).following (apart_of m s l).headers (apart_of m s l).following
    ∙ join_bodies (apart_of q s l).following (mval q s (scope_of l)) (together (apart_of m s l))
    (ap (λ x. x.body) (together_is q s l))
    ∙ ap (parts.join (mval q s (scope_of l))) (together_is m s l)

-- what is known has no headers after its first ones
abbrev pub Plain : List Apart → Type 0
Plain [] = Unit {0}
Plain (x ∷ xs) = (x.known ≡ true → x.following.headers ≡ []) × Plain xs

plain_at : (xs : List Apart) (k : ℕ) → Plain xs → (slice_index_or xs k no_apart).known ≡ true →
    (slice_index_or xs k no_apart).following.headers ≡ []
plain_at [] k h known = refl
plain_at (x ∷ xs) zero h known = h.0 known
plain_at (x ∷ xs) (suc k) h known = plain_at xs k h.1 known

pub join_headers : (p m : Content) → (parts.join p m).headers ≡ m.headers
join_headers p m = go (nat_le (length p.body + length m.body) 8192) where
  go : (b : Bool) → (if b then record { headers = m.headers; body = p.body ++ m.body } else m).headers ≡ m.headers
  go true = refl
  go false = refl

pub apart_plain : (m : MessageTree) (s : State) (l : Split) → Plain l.messages → BareMessage m s (scope_of l) →
    (apart_of m s l).known ≡ true → (apart_of m s l).following.headers ≡ []
apart_plain (tree.message k) s l plain bare known = plain_at l.messages k plain known
apart_plain tree.nothing s l plain bare known = refl
apart_plain (tree.held c e row part) s l plain bare known = bare
apart_plain (tree.held c e row (whole blank)) s l plain bare known = absurd (cc known)
apart_plain (tree.cut m from n) s l plain bare known = refl
apart_plain (tree.tail m from) s l plain bare known = apart_plain m s l plain bare known
apart_plain (tree.join q m) s l plain bare known =
    join_headers (apart_of q s l).following (apart_of m s l).following ∙ apart_plain m s l plain bare known

-- a known message is told apart
pub known_apart : (headers : List Header) (following : Content) → following.headers ≡ [] →
    ◌≡◌ {A = Apart} (record { known = true; headers = headers; following = following })
    (told_apart (record { headers = headers ++ following.headers; body = following.body }))
known_apart headers following none =
    let longer : headers ≡ headers ++ following.headers = sym (append-nil headers) ∙
    ap (λ hs. headers ++ hs) (sym none) in
    λ t. record { known = true; headers = longer t; following = record { headers = none t; body = following.body } }

module _ (i : Input) (k : Kept) (ss : List State) (p : ℕ) (l : Names) (of : IsOf i (state_of ss p)) where
  abbrev pub s : State
  s = state_of ss p

  abbrev pub v : Split
  v = split_at i k l

  mutual
    pub number_worth : (e : ExpressionTree) → number_of i k ss (traced_number p l e) ≡ val e s (scope_of v)
    number_worth (tree.number n) = refl
    number_worth tree.me = sym of.me
    number_worth tree.count = sym of.count
    number_worth tree.ltime = sym of.ltime
    number_worth (tree.local n) = sym (get_or-map (atom_at i k) l.numbers n no_number)
    number_worth (tree.element c e) = ap (number_at s c) (number_worth e)
    number_worth (tree.square c row column) = λ t.
        number_at s c (flat_index (sym of.count t) (number_worth row t) (number_worth column t))
    number_worth (tree.rows c e) = ap (λ n. length (rows_at s c n)) (number_worth e)
    number_worth (tree.item c e row n) = λ t. number_in n (row_at s c (number_worth e t) (number_worth row t))
    number_worth (tree.size m) = ap (λ x. length x.following.body) (message_worth m) ∙
        ap (λ x. length x.body) (together_is m s v)
    number_worth (tree.binary operator a b) = λ t. applied operator (number_worth a t) (number_worth b t)
    number_worth (tree.apply function a) = ap (function_of function) (number_worth a)
    number_worth (tree.pick c a b) = λ t. if is_true (number_worth c t) then number_worth a t else number_worth b t

    pub message_worth : (m : MessageTree) → worded_at i k ss (traced_message p l m) ≡ apart_of m s v
    message_worth (tree.message n) = sym (get_or-map (named_at i k) l.messages n no_message)
    message_worth tree.nothing = refl
    message_worth (tree.held c e row carried) = λ t. record {
      known = is_part carried;
      headers = [];
      following = message_in carried (row_at s c (number_worth e t) (number_worth row t));
    }
    message_worth (tree.cut m from n) = λ t. record {
      known = true;
      headers = [];
      following = parts.cut (message_worth m t).following (number_worth from t) (number_worth n t);
    }
    message_worth (tree.tail m from) = λ t.
        record (message_worth m t) { following = parts.tail (message_worth m t).following (number_worth from t) }
    message_worth (tree.join q m) = λ t.
        record (message_worth m t)
        { following = parts.join (message_worth q t).following (message_worth m t).following }
