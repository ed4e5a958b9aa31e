-- Where two lists differ first, if they do.
use Rattle.std.specs.Prelude.{◌≡◌, ℕ, Bool, true, false, List, Option, Some, None}
use Rattle.std.specs.List.{slice_get}
use Rattle.pack_mean.specs.Accepted.{DifferAt}

abbrev pub Differs : {X : Type 0} → List X → List X → Option ℕ → Type 0
Differs xs ys None = xs ≡ ys
Differs xs ys (Some k) = DifferAt xs ys k

-- Whether two lists have the same at a place.
abbrev pub SameAt : {X : Type 0} → List X → List X → ℕ → Bool → Type 0
SameAt xs ys k true = slice_get xs k ≡ slice_get ys k
SameAt xs ys k false = slice_get xs k ≡ slice_get ys k → ⊥

-- Whether two are the same.
abbrev pub IsSame : {X : Type 0} → X → X → Bool → Type 0
IsSame x y true = x ≡ y
IsSame x y false = x ≡ y → ⊥
