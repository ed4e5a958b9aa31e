-- Layers that are found by their names, and what is made of each.
use Rattle.std.proofs.Common.{◌≡◌, ℕ, ◌+◌, ◌<◌, List, [], ◌∷◌, ◌++◌, map, flat_map, take, length, get_or, slice_get}
use Rattle.std.proofs.Common.{Some, None, option_map, refl, sym, ap, ap₂, ◌∙◌, arith}
use Rattle.std.proofs.lemmas.List.{length-map, map-append}
use Rattle.std.proofs.lemmas.Option.{slice_get-map}
use Rattle.layer_ast.specs.Tree.{LayerTree}
use Rattle.layer_ast.specs.View.{layer_tree}
use Rattle.layer_ast.specs.declared.syntax.Layer.{Layer}
use Rattle.fault_mean.specs.Places.{layer_among}
use Rattle.file_scope.proofs.Lists.{there, trees_more}
use Rattle.file_scope.proofs.Lookups.{first_at, first_nowhere, place_within}
use Rattle.file_scope.specs.Words.{place_of}

-- what is made of each layer, and of one of them
pub made_within : {B : Type 0} (f : LayerTree → B) (layers : List Layer) (things : List B) (k : ℕ) →
    things ≡ map f (map layer_tree layers) → k < length layers → k < length things
made_within f layers things k are within =
    let e : length things ≡ length layers = ap length are ∙
    (length-map (map layer_tree layers) f ∙ length-map layers layer_tree) in
    omega (arith, e, within)

pub made_at : {B : Type 0} (f : LayerTree → B) (layers : List Layer) (things : List B) (k : ℕ) (layer : Layer) (x : B) →
    things ≡ map f (map layer_tree layers) → k < length layers → layer ≡ get_or layers k layer → x ≡ get_or things k x →
    x ≡ f (layer_tree layer)
made_at f layers things k layer x are within is made =
    let one : Some layer ≡ slice_get layers k = there layers k layer within is in
    let two : Some x ≡ slice_get things k = there things k x (made_within f layers things k are within) made in
    let same : Some x ≡ Some (f (layer_tree layer)) =
    two ∙ (ap (λ t. slice_get t k) are
    ∙ (slice_get-map f (map layer_tree layers) k
    ∙ (ap (option_map f) (slice_get-map layer_tree layers k) ∙
    ap (λ o. option_map f (option_map layer_tree o)) (sym one)))) in
    cc same

pub thing_more : {B : Type 0} (f : LayerTree → B) (layers : List Layer) (before after : List B) (k : ℕ) (layer : Layer)
    (x : B) →
    k < length layers → layer ≡ get_or layers k layer → before ≡ map f (map layer_tree (take k layers)) →
    x ≡ f (layer_tree layer) →
    after ≡ before ++ x ∷ [] → after ≡ map f (map layer_tree (take (k + 1) layers))
thing_more f layers before after k layer x within is so_far made pushed =
    pushed ∙ (ap₂ (λ l y. l ++ y ∷ []) so_far made
    ∙ sym (ap (map f) (trees_more layer_tree layers k layer within is) ∙
    map-append f (map layer_tree (take k layers)) (layer_tree layer ∷ [])))

pub within_file : (layers : List Layer) (names : List (List ℕ)) (word : List ℕ) (k : ℕ) →
    names ≡ map (λ (l : LayerTree). l.name.word) (map layer_tree layers) → Some k ≡ place_of word names →
    k < length layers
within_file layers names word k are at =
    let e : length names ≡ length layers =
    ap length are ∙ (length-map (map layer_tree layers) (λ (l : LayerTree). l.name.word) ∙ length-map layers layer_tree)
    in
    let r = place_within word names k (sym at) in omega (arith, e, r)

pub within_made : {B : Type 0} (f : LayerTree → B) (layers : List Layer) (names : List (List ℕ)) (things : List B)
    (word : List ℕ) (k : ℕ) →
    names ≡ map (λ (l : LayerTree). l.name.word) (map layer_tree layers) → things ≡ map f (map layer_tree layers) →
    Some k ≡ place_of word names → k < length things
within_made f layers names things word k are made at =
    made_within f layers things k made (within_file layers names word k are at)

-- the layer that a word names
pub found_at : (layers : List Layer) (names : List (List ℕ)) (word : List ℕ) (k : ℕ) (layer : Layer) →
    names ≡ map (λ (l : LayerTree). l.name.word) (map layer_tree layers) → Some k ≡ place_of word names →
    layer ≡ get_or layers k layer →
    layer_among (map layer_tree layers) word ≡ Some (layer_tree layer)
found_at layers names word k layer are at is =
    sym (first_at (λ (l : LayerTree). l.name.word) word (map layer_tree layers) k
    (ap (place_of word) (sym are) ∙ sym at))
    ∙ (slice_get-map layer_tree layers k
    ∙ ap (option_map layer_tree) (sym (there layers k layer (within_file layers names word k are at) is)))

pub found_nowhere : (layers : List Layer) (names : List (List ℕ)) (word : List ℕ) →
    names ≡ map (λ (l : LayerTree). l.name.word) (map layer_tree layers) → None ≡ place_of word names →
    layer_among (map layer_tree layers) word ≡ None
found_nowhere layers names word are at =
    first_nowhere (λ (l : LayerTree). l.name.word) word (map layer_tree layers) (ap (place_of word) (sym are) ∙ sym at)

-- what all things have that are made of others
pub mapped : {A B C : Type 0} (f : B → List C) (g : A → B) (xs : List A) →
    flat_map f (map g xs) ≡ flat_map (λ x. f (g x)) xs
mapped f g [] = refl
mapped f g (x ∷ xs) = ap (λ l. f (g x) ++ l) (mapped f g xs)
