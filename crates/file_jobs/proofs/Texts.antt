-- Lines, as they are made and as the definitions have them.
use Rattle.std.proofs.Common.{rules, ◌≡◌, sym, ◌∙◌, ℕ, List, [], ◌∷◌, ◌++◌, codes, append_assoc}
use Rattle.std.specs.Fmt.{decimal}
use Rattle.run_mean.specs.Lines.{line}

-- texts joined from the left, and from the right
pub four_joined : (a x b y : List ℕ) → a ++ (x ++ (b ++ y)) ≡ a ++ x ++ b ++ y
four_joined a x b y = sym (append_assoc (a ++ x) b y ∙ append_assoc a x (b ++ y))

-- the line of an accepted stack
pub accepted_as : (n : ℕ) → (codes "accepted " ++ decimal n ++ codes "\n") ∷ [] ≡
    line (codes "accepted" ∷ decimal n ∷ []) ∷ []
accepted_as n = search rules
