-- Sentences, as they are made and as the definitions have them.
use Rattle.std.proofs.Common.{◌≡◌, sym, ◌∙◌, ℕ, List, ◌++◌, append_assoc}

-- texts joined from the right, and from the left
pub three_joined : (a x b : List ℕ) → a ++ (x ++ b) ≡ a ++ x ++ b
three_joined a x b = sym (append_assoc a x b)

pub five_joined : (a x b y c : List ℕ) → a ++ (x ++ (b ++ (y ++ c))) ≡ a ++ x ++ b ++ y ++ c
five_joined a x b y c = three_joined a x (b ++ (y ++ c)) ∙ three_joined (a ++ x) b (y ++ c) ∙
    three_joined (a ++ x ++ b) y c
