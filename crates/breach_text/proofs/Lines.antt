-- The line of a text by its number.
use Rattle.std.proofs.Common.{◌≡◌, refl, ap, ◌∙◌, ℕ, zero, suc, ◌+◌, List, [], ◌∷◌, drop, slice_index_or}
use Rattle.std.proofs.lemmas.List.{drop-drop}

-- the first of what is left after k parts is part number k
pub first_after : {A : Type 0} (parts : List A) (k : ℕ) (d : A) → slice_index_or (drop k parts) 0 d ≡
    slice_index_or parts k d
first_after [] zero d = refl
first_after [] (suc k) d = refl
first_after (x ∷ parts) zero d = refl
first_after (x ∷ parts) (suc k) d = first_after parts k d

-- one more part is left out
pub one_more : {A : Type 0} (parts left more : List A) (k : ℕ) → left ≡ drop k parts → more ≡ drop 1 left →
    more ≡ drop (k + 1) parts
one_more parts left more k is next = next ∙ ap (drop 1) is ∙ drop-drop 1 k parts
