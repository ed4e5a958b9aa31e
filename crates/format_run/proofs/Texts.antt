-- Lines, as they are made and as the definitions have them.
use Rattle.std.proofs.Common.{◌≡◌, sym, ◌∙◌, ℕ, List, ◌++◌, append_assoc}

-- texts joined from the left, and from the right
pub five_joined : (a x b y c : List ℕ) → a ++ (x ++ (b ++ (y ++ c))) ≡ a ++ x ++ b ++ y ++ c
five_joined a x b y c =
    sym (append_assoc (a ++ x ++ b) y c ∙ (append_assoc (a ++ x) b (y ++ c) ∙ append_assoc a x (b ++ (y ++ c))))
