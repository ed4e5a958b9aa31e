-- Numbers of handlers.
use Rattle.std.proofs.Common.{◌≡◌, ℕ, ◌+◌, ◌≤◌, Bool, not, if◌then◌else◌, nat_lt, List, [], ◌∷◌, map, length, Some}
use Rattle.std.proofs.Common.{None, refl, ap, ap₂}
use Rattle.std.proofs.lemmas.List.{length-map, get_or_past}
use Rattle.layer_mean.specs.Visit.{is_for}
use Rattle.std.specs.List.{position, position_or_len}
use Rattle.std.specs.Prelude.{slice_index_or}
use Rattle.layer_mean.specs.Tree.{LayerTree, no_layer}
use Rattle.miss_mean.specs.Spots.{handler_number, popped_tag}
use Rattle.stack_mean.specs.Shape.{ShapeVisit}

-- a place among what is made of each
or_len_map : {X A : Type 0} (tree : X → A) (test : A → Bool) (xs : List X) →
    position_or_len test (map tree xs) ≡ position_or_len (λ x. test (tree x)) xs
or_len_map tree test [] = refl
or_len_map tree test (x ∷ xs) = ap (λ k. if not (test (tree x)) then 1 + k else 0) (or_len_map tree test xs)

pub position_map : {X A : Type 0} (tree : X → A) (test : A → Bool) (xs : List X) →
    position test (map tree xs) ≡ position (λ x. test (tree x)) xs
position_map tree test xs = ap₂ (λ k n. if nat_lt k n then Some k else None) (or_len_map tree test xs)
    (length-map xs tree)

-- past the last place no handler is met
pub no_number : (stack : List LayerTree) (v : ShapeVisit) → length stack ≤ v.place → handler_number stack v ≡ None
no_number stack v past =
    ap (λ layer. position (is_for v.dir v.kind (popped_tag v.dir v.tag)) layer.handlers)
    (get_or_past stack v.place no_layer past)

-- nor is there a name
pub no_name : (stack : List LayerTree) (place : ℕ) → length stack ≤ place → (slice_index_or stack place no_layer).name ≡
    []
no_name stack place past = ap (λ layer. layer.name) (get_or_past stack place no_layer past)
