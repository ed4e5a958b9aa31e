-- Layers by name.
use Rattle.std.proofs.Common.{Bor, ◌≡◌, ℕ, Bool, true, false, if◌then◌else◌, List, [], ◌∷◌, map, bytes_eq, find, Option}
use Rattle.std.proofs.Common.{Some, None, option_map, refl, ap, sym, ◌∙◌}
use Rattle.layer_ast.specs.View.{layer_tree}
use Rattle.layer_ast.specs.declared.syntax.Layer.{Layer}
use Rattle.fault_mean.specs.Places.{layer_among}

-- what is found among what is made of each
find_map : {X A : Type 0} (tree : X → A) (test : A → Bool) (xs : List X) →
    find test (map tree xs) ≡ option_map tree (find (λ x. test (tree x)) xs)
find_map tree test [] = refl
find_map {X = X} {A = A} tree test (x ∷ xs) = go (test (tree x)) _ _ (find_map tree test xs) where
  go : (b : Bool) (o : Option A) (p : Option X) → o ≡ option_map tree p → (if b then Some (tree x) else o) ≡
      option_map tree (if b then Some x else p)
  go true o p same = refl
  go false o p same = same

shown : (o : Option (Bor Layer)) → option_map (λ (l : Bor Layer). layer_tree l.now) o ≡
    option_map layer_tree (option_map (λ (l : Bor Layer). l.now) o)
shown None = refl
shown (Some l) = refl

pub among : (layers : List Layer) (word : List ℕ) (o : Option (Bor Layer)) →
    option_map (λ (l : Bor Layer). l.now) o ≡ find (λ (l : Layer). bytes_eq l.name.word word) layers →
    option_map (λ (l : Bor Layer). layer_tree l.now) o ≡ layer_among (map layer_tree layers) word
among layers word o is =
    shown o ∙ (ap (option_map layer_tree) is ∙ sym (find_map layer_tree (λ l. bytes_eq l.name.word word) layers))
