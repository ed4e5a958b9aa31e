-- A number that is read within bounds is within them.
use Rattle.std.proofs.Common.{◌≡◌, sym, subst, ℕ, ◌≤◌, Bool, true, false, Option, Some, None, refl}
use Rattle.std.specs.Prelude.{IfSome, ◌&&◌, nat_le, if◌then◌else◌}
use Rattle.std.specs.Str.Parse.{digits_value}
use Rattle.std.proofs.lemmas.Bool.{leb-true}
use Rattle.script_mean.specs.Words.{Word, is_plain, within, number_within}

-- what bounds a number has
abbrev Bounded : ℕ → ℕ → Option ℕ → Type 0
Bounded low high o = IfSome o (λ number. (low ≤ number) × (number ≤ high))

checked : (low high value : ℕ) → Bounded low high (within low high value)
checked low high value = go (nat_le low value) (nat_le value high) refl refl where
  go : (a b : Bool) → nat_le low value ≡ a → nat_le value high ≡ b →
      Bounded low high (if a && b then Some value else None)
  go false b p q = tt
  go true false p q = tt
  go true true p q = (leb-true low value p, leb-true value high q)

bounded : (low high : ℕ) (word : Word) → Bounded low high (number_within low high word)
bounded low high word = go (is_plain word) where
  go : (b : Bool) → Bounded low high (if b then within low high (digits_value 10 word) else None)
  go true = checked low high (digits_value 10 word)
  go false = tt

pub within_bounds : (low high : ℕ) (word : Word) (o : Option ℕ) → o ≡ number_within low high word →
    IfSome o (λ number. (low ≤ number) × (number ≤ high))
within_bounds low high word o is = subst (Bounded low high) (sym is) (bounded low high word)
