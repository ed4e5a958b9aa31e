-- The values of expressions are below 2^32, and messages have bodies and the headers of their sorts.
use Rattle.std.proofs.Common.{◌≡◌, ℕ, Bool, true, false, List, [], ◌++◌, ◌+◌, length, map, Option, Some, None, refl}
use Rattle.std.proofs.Common.{sym, subst, arith}
use Rattle.std.specs.Prelude.{nat_le, if◌then◌else◌, option_map}
use Rattle.std.specs.List.{AllByRecursion}
use Rattle.std.specs.Option.{option_map_or}
use Rattle.msg_core.specs.Chain.{Content, plain}
use Rattle.msg_core.specs.Parts.{longest_body}
use Rattle.msg_core.specs.declared.message.Header.{Header}
use Rattle.layer_words.specs.declared.sorts.Sort.{Sort}
use Rattle.layer_mean.specs.declared.run.Row.{Row}
use Rattle.layer_mean.specs.Tree.{Carried, part, whole, ItemsTree, ExpressionTree, number, me, count, ltime, local}
use Rattle.layer_mean.specs.Tree.{element, square, rows, item, size, binary, apply, pick, MessageTree, message, nothing}
use Rattle.layer_mean.specs.Tree.{held, cut, tail, join, LayerTree}
use Rattle.layer_mean.specs.State.{State, flat_index, rows_at, row_at}
use Rattle.layer_mean.specs.Value.{Scope, is_true, val, mval, missing, message_in}
use Rattle.packet_mean.specs.ChainedState.{IsNumber, Numbers, IsBody, EndsWith, IsRow, IsState}
use Rattle.chain_laws.specs.Typed.{Small, sort_of, HasBlank, Carries, Sorted}
use Rattle.chain_laws.proofs.Lists.{Where, each_where, each_or, each_map, zip_at}
use Rattle.chain_laws.proofs.Small.{applied_small, function_small, pick_small, no_body, body_number, cut_body}
use Rattle.chain_laws.proofs.Small.{tail_body, join_body}
use Rattle.chain_laws.proofs.Sorts.{HeadersOf, Is, same_kept, IsScope, Kept, kept, number_at_small, rows_at_kept}
use Rattle.chain_laws.proofs.Sorts.{row_at_kept, number_in_small, message_in_body, rows_hold}

module _ (s : State) (l : Scope) (is : Kept s l) where
  mutual
    pub val_small : (e : ExpressionTree) → Small e → IsNumber (val e s l)
    val_small (number n) h = h
    val_small me h = is.me
    val_small count h = is.count
    val_small ltime h = is.ltime
    val_small (local k) h = each_or IsNumber l.numbers k 0 is.numbers_are (omega arith)
    val_small (element c i) h = number_at_small s c (val i s l) is.cells
    val_small (square c row column) h = number_at_small s c (flat_index s.count (val row s l) (val column s l)) is.cells
    val_small (rows c i) h = (rows_at_kept s c (val i s l) is.cells).count
    val_small (item c i row k) h =
        number_in_small k (row_at s c (val i s l) (val row s l)) (row_at_kept s c (val i s l) (val row s l) is.cells)
    val_small (size m) h = body_number (mval m s l).body (body_small m)
    val_small (binary operator a b) h = applied_small operator (val a s l) (val b s l) (val_small a h.0)
        (val_small b h.1)
    val_small (apply function a) h = function_small function (val a s l)
    val_small (pick c a b) h = pick_small (is_true (val c s l)) (val a s l) (val b s l) (val_small a h.0)
        (val_small b h.1)

    pub body_small : (m : MessageTree) → IsBody (mval m s l).body
    body_small (message k) = each_or (λ m. IsBody m.body) l.messages k (plain []) is.bodies no_body
    body_small nothing = no_body
    body_small (held c i row carried) = message_in_body carried (row_at s c (val i s l) (val row s l))
        (row_at_kept s c (val i s l) (val row s l) is.cells)
    body_small (cut m from n) = cut_body (val from s l) (val n s l) (mval m s l).body (body_small m)
    body_small (tail m from) = tail_body (val from s l) (mval m s l).body (body_small m)
    body_small (join p m) = join_body (mval p s l) (mval m s l) (body_small p) (body_small m)

  pub vals_small : (es : List ExpressionTree) → AllByRecursion Small es → Numbers (map (λ e. val e s l) es)
  vals_small es h = each_map Small IsNumber (λ e. val e s l) val_small es h

-- a message that stands in for a missing one
missing_is : (P : List Header → Type 0) (blank : List Header) (carried : Carried) → P blank → HasBlank blank carried →
    Is P (sort_of carried) (missing carried)
missing_is P blank part h is = record { headers = refl; body = no_body }
missing_is P blank (whole headers) h is = record { headers = subst P (sym is) h; body = no_body }

-- the message of a row of a queue
pub ends_is : (P : List Header → Type 0) (carried : Carried) (it : Option (List ℕ × Carried)) (m : Option Content) →
    option_map (λ it. sort_of it.1) it ≡ Some (sort_of carried) → EndsWith P it m →
    Is P (sort_of carried) (option_map_or (λ m. m) m (missing carried))
ends_is P carried None m is h = absurd (cc is)
ends_is P carried (Some it) None is h = absurd h
ends_is P carried (Some it) (Some m) is h = record {
  headers = same_kept P it.1 carried m.headers (cc is) h.headers;
  body = h.body;
}

pub message_in_is : (P : List Header → Type 0) (blank : List Header) (carried : Carried) (items : ItemsTree)
    (row : Option Row) →
    P blank → HasBlank blank carried → option_map (λ it. sort_of it.1) items.message ≡ Some (sort_of carried) →
    Where (IsRow P items) row → Is P (sort_of carried) (message_in carried row)
message_in_is P blank carried items None h has is row = missing_is P blank carried h has
message_in_is P blank carried items (Some r) h has is row = ends_is P carried items.message r.message is row.message

joined_headers : (P : List Header → Type 0) (sort : Sort) (p m : Content) (b : Bool) → HeadersOf P sort m.headers →
    HeadersOf P sort (if b then record { headers = m.headers; body = p.body ++ m.body } else m).headers
joined_headers P sort p m true h = h
joined_headers P sort p m false h = h

module _ (P : List Header → Type 0) (layer : LayerTree) (blank : List Header) (blank_is : P blank) (sorts : List Sort)
    (s : State) (l : Scope) (state : IsState P layer s) (scope : IsScope P sorts l) where
  held_is : (c i k : ℕ) (carried : Carried) → Carries layer blank c carried →
      Is P (sort_of carried) (message_in carried (row_at s c i k))
  held_is c i k carried h = message_in_is P blank carried h.rows.items (row_at s c i k) blank_is h.blanks h.sort
      (each_where (IsRow P h.rows.items) (rows_at s c i) k (rows_hold P layer s c i h.rows state h.listed))

  headers_are : (m : MessageTree) (sort : Sort) → Sorted layer blank sorts sort m →
      HeadersOf P sort (mval m s l).headers
  headers_are (message k) sort h = (zip_at (Is P) sorts l.messages k sort (plain []) scope.messages_are h).headers
  headers_are nothing sort h = subst (λ sort. HeadersOf P sort []) (sym h) refl
  headers_are (held c i row carried) sort h =
      subst (λ sort. HeadersOf P sort (message_in carried (row_at s c (val i s l) (val row s l))).headers)
      (sym h.1) (held_is c (val i s l) (val row s l) carried h.0).headers
  headers_are (cut m from n) sort h = subst (λ sort. HeadersOf P sort []) (sym h) refl
  headers_are (tail m from) sort h = headers_are m sort h
  headers_are (join p m) sort h = joined_headers P sort (mval p s l) (mval m s l)
      (nat_le (length (mval p s l).body + length (mval m s l).body) longest_body) (headers_are m sort h)

  pub mval_is : (m : MessageTree) (sort : Sort) → Sorted layer blank sorts sort m → Is P sort (mval m s l)
  mval_is m sort h = record
      { headers = headers_are m sort h; body = body_small s l (kept P layer sorts s l state scope) m }
