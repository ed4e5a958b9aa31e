-- What is made of each of some things, one thing further.
use Rattle.std.proofs.Common.{◌≡◌, ℕ, ◌+◌, ◌<◌, List, [], ◌∷◌, ◌++◌, map, take, length, get_or, sym, ap, ap₂, ◌∙◌}
use Rattle.std.proofs.lemmas.List.{map-append}
use Rattle.file_scope.proofs.Lists.{trees_more}

-- what is made of one more thing, after what was made before
pub made_more : {X A B : Type 0} (tree : X → A) (make : A → B) (xs : List X) (i : ℕ) (x : X) (before after : List B)
    (y : B) →
    i < length xs → x ≡ get_or xs i x → y ≡ make (tree x) → before ≡ map make (map tree (take i xs)) →
    after ≡ before ++ y ∷ [] →
    after ≡ map make (map tree (take (i + 1) xs))
made_more tree make xs i x before after y within is made so_far pushed =
    pushed
    ∙ (ap₂ (λ l z. l ++ z ∷ []) so_far made
    ∙ (sym (map-append make (map tree (take i xs)) (tree x ∷ [])) ∙
    ap (map make) (sym (trees_more tree xs i x within is))))
