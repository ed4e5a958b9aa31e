-- Before there are cells and a scope each message is without bytes.
use Rattle.std.proofs.Common.{◌≡◌, ℕ, zero, suc, ◌+◌, Bool, true, false, nat_le, if◌then◌else◌, [], ◌++◌, length, take}
use Rattle.std.proofs.Common.{drop, refl, sym, ap, ap₂, ◌∙◌}
use Rattle.msg_core.specs.Chain.{Content}
use Rattle.msg_core.specs.Parts as parts
use Rattle.layer_mean.specs.Tree.{Carried, part, whole, MessageTree, message, nothing, held, cut, tail, join}
use Rattle.layer_mean.specs.Value.{mval, missing}
use Rattle.layer_mean.specs.Visit.{bare_state, no_scope}

take_none : (n : ℕ) → take {A = ℕ} n [] ≡ []
take_none zero = refl
take_none (suc n) = refl

drop_none : (n : ℕ) → drop {A = ℕ} n [] ≡ []
drop_none zero = refl
drop_none (suc n) = refl

missing_none : (carried : Carried) → (missing carried).body ≡ []
missing_none part = refl
missing_none (whole blank) = refl

joined_none : (p m : Content) → p.body ≡ [] → m.body ≡ [] → (parts.join p m).body ≡ []
joined_none p m first second = go (nat_le (length p.body + length m.body) parts.longest_body)
  where
    go : (b : Bool) → (if b then record { headers = m.headers; body = p.body ++ m.body } else m).body ≡ []
    go true = ap₂ (λ xs ys. xs ++ ys) first second
    go false = second

cut_none : (m : Content) (from count : ℕ) → m.body ≡ [] → (parts.cut m from count).body ≡ []
cut_none m from count none = ap (λ body. take count (drop from body)) none ∙ ap (take count) (drop_none from) ∙
    take_none count

tail_none : (m : Content) (from : ℕ) → m.body ≡ [] → (parts.tail m from).body ≡ []
tail_none m from none = ap (drop from) none ∙ drop_none from

module _ (me n ltime : ℕ) where
  no_bytes : (m : MessageTree) → (mval m (bare_state me n ltime) no_scope).body ≡ []
  no_bytes (message k) = refl
  no_bytes nothing = refl
  no_bytes (held c i row carried) = missing_none carried
  no_bytes (cut m from some) = cut_none (mval m (bare_state me n ltime) no_scope) _ _ (no_bytes m)
  no_bytes (tail m from) = tail_none (mval m (bare_state me n ltime) no_scope) _ (no_bytes m)
  no_bytes (join p m) =
      joined_none (mval p (bare_state me n ltime) no_scope) (mval m (bare_state me n ltime) no_scope) (no_bytes p)
      (no_bytes m)

pub no_size : (me n ltime : ℕ) (m : MessageTree) → 0 ≡ length (mval m (bare_state me n ltime) no_scope).body
no_size me n ltime m = sym (ap length (no_bytes me n ltime m))
