-- The sizes of parts of messages.
use Rattle.std.proofs.Common.{take, Option, Some, None, sym, ◌≡◌, ℕ, ◌+◌, ◌-◌, min, Bool, true, false, nat_le}
use Rattle.std.proofs.Common.{if◌then◌else◌, ◌++◌, length, drop, refl, ap, ◌∙◌}
use Rattle.std.proofs.lemmas.List.{length-take, length-drop, length-append}
use Rattle.std.specs.Option.{option_map_or}
use Rattle.msg_core.specs.Chain.{Content, plain}
use Rattle.msg_core.specs.Parts.{cut, tail, join, longest_body}
use Rattle.layer_mean.specs.declared.run.Row.{Row}
use Rattle.layer_mean.specs.Tree as tree
use Rattle.layer_mean.specs.Tree.{Carried, part, whole, MessageTree}
use Rattle.layer_mean.specs.State.{State, row_at}
use Rattle.layer_mean.specs.Value.{Scope, val, mval, missing, message_in}
use Rattle.layer_eval.specs.Worth.{joined_size, bare}

pub cut_bytes : (m : Content) (from n : ℕ) → length (cut m from n).body ≡ min n (length m.body - from)
cut_bytes m from n = length-take n (drop from m.body) ∙ ap (min n) (length-drop from m.body)

pub tail_bytes : (m : Content) (from : ℕ) → length (tail m from).body ≡ length m.body - from
tail_bytes m from = length-drop from m.body

joined_if : (fits : Bool) (p m : Content) →
    length (if fits then record { headers = m.headers; body = p.body ++ m.body } else m).body ≡
    (if fits then length p.body + length m.body else length m.body)
joined_if true p m = length-append p.body m.body
joined_if false p m = refl

pub join_bytes : (p m : Content) → length (join p m).body ≡ joined_size (length p.body) (length m.body)
join_bytes p m = joined_if (nat_le (length p.body + length m.body) longest_body) p m

-- what stands in for a message has no bytes, with headers or without
missing_bytes : (carried : Carried) (m : Option Content) → (option_map_or (λ x. x) m (missing part)).body ≡
    (option_map_or (λ x. x) m (missing carried)).body
missing_bytes part m = refl
missing_bytes (whole blank) None = refl
missing_bytes (whole blank) (Some m) = refl

row_bytes : (carried : Carried) (row : Option Row) → (message_in part row).body ≡ (message_in carried row).body
row_bytes part row = refl
row_bytes (whole blank) None = refl
row_bytes (whole blank) (Some row) = missing_bytes (whole blank) row.message

joined_bytes : (fits : Bool) (p m : Content) →
    (if fits then record { headers = m.headers; body = p.body ++ m.body } else m).body ≡
    (if fits then p.body ++ m.body else m.body)
joined_bytes true p m = refl
joined_bytes false p m = refl

join_after : (p m n : Content) → m.body ≡ n.body → (join p m).body ≡ (join p n).body
join_after p m n same =
    joined_bytes (nat_le (length p.body + length m.body) longest_body) p m
    ∙ ap (λ b. if nat_le (length p.body + length b) longest_body then p.body ++ b else b) same
    ∙ sym (joined_bytes (nat_le (length p.body + length n.body) longest_body) p n)

-- a bare message has the same bytes
pub bare_bytes : (m : MessageTree) (s : State) (l : Scope) → (mval (bare m) s l).body ≡ (mval m s l).body
bare_bytes (tree.message k) s l = refl
bare_bytes tree.nothing s l = refl
bare_bytes (tree.held c i row carried) s l = row_bytes carried (row_at s c (val i s l) (val row s l))
bare_bytes (tree.cut m from n) s l = refl
bare_bytes (tree.tail m from) s l = ap (drop (val from s l)) (bare_bytes m s l)
bare_bytes (tree.join p m) s l = join_after (mval p s l) (mval (bare m) s l) (mval m s l) (bare_bytes m s l)

-- so what is cut of it, and what it is joined before, is the same
pub cut_bare : (m : MessageTree) (s : State) (l : Scope) (from n : ℕ) → cut (mval (bare m) s l) from n ≡
    cut (mval m s l) from n
cut_bare m s l from n = ap (λ b. plain (take n (drop from b))) (bare_bytes m s l)

pub join_bare : (p : MessageTree) (s : State) (l : Scope) (m : Content) → join (mval (bare p) s l) m ≡ join
    (mval p s l) m
join_bare p s l m =
    ap (λ b. if nat_le (length b + length m.body) longest_body then record { headers = m.headers; body = b ++ m.body }
    else m) (bare_bytes p s l)
