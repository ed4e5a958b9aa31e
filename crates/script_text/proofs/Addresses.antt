-- Addresses of too many parts.
use Rattle.std.proofs.Common.{◌≡◌, ℕ, ◌<◌, List, [], ◌∷◌, length, Option, Some, None, refl, true, arith}
use Rattle.std.specs.Prelude.{◌==◌, is_some}
use Rattle.std.proofs.lemmas.List.Splits.{length-slice_split}
use Rattle.script_mean.specs.Words.{Word}
use Rattle.script_mean.specs.Address.{octets_of, reached_at}
use Rattle.script_text.specs.Parts.{parts_after}
use denote.Ref.{Bor}

-- a rest has at least one part
some_part : (at : ℕ) (rest : Option (Bor (List ℕ))) → is_some rest ≡ true → 0 < length (parts_after at rest)
some_part at None e = absurd cc
some_part at (Some rest) e = let parts = length-slice_split (λ byte. byte == at) rest.now in omega arith

-- more than two parts of an address
pub three : (host port : Word) (at : ℕ) (rest : Option (Bor (List ℕ))) → is_some rest ≡ true →
    None ≡ reached_at (host ∷ port ∷ parts_after at rest)
three host port at rest e = more (parts_after at rest) (some_part at rest e)
  where
    more : (parts : List Word) → 0 < length parts → None ≡ reached_at (host ∷ port ∷ parts)
    more [] some = absurd (omega (arith, some))
    more (part ∷ parts) some = refl

-- more than four octets
pub five : (a b c d : Word) (at : ℕ) (rest : Option (Bor (List ℕ))) → is_some rest ≡ true →
    None ≡ octets_of (a ∷ b ∷ c ∷ d ∷ parts_after at rest)
five a b c d at rest e = more (parts_after at rest) (some_part at rest e)
  where
    more : (parts : List Word) → 0 < length parts → None ≡ octets_of (a ∷ b ∷ c ∷ d ∷ parts)
    more [] some = absurd (omega (arith, some))
    more (part ∷ parts) some = refl
