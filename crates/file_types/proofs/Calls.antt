-- The layers of the library that places name.
use Rattle.std.proofs.Common.{◌≡◌, ℕ, ◌+◌, ◌<◌, List, [], ◌∷◌, ◌++◌, map, flat_map, filter_map, take, length, get_or}
use Rattle.std.proofs.Common.{slice_get, Option, Some, None, option_map, is_some, true, if◌then◌else◌, refl, sym, ap}
use Rattle.std.proofs.Common.{ap₂, ◌∙◌, subst, append-nil}
use Rattle.std.specs.List.{cons_option}
use Rattle.std.specs.Option.{option_map_or}
use Rattle.std.proofs.lemmas.List.Elements.{filter_map-append}
use Rattle.std.proofs.lemmas.Grind.{flat_map-append}
use Rattle.std.proofs.lemmas.Option.{slice_get-map}
use Rattle.layer_ast.specs.Tree.{FileTree, LayerTree, PlaceTree}
use Rattle.layer_ast.specs.View.{layer_tree, place_tree}
use Rattle.layer_words.specs.declared.places.At.{At}
use Rattle.layer_ast.specs.declared.syntax.Layer.{Layer}
use Rattle.layer_ast.specs.declared.syntax.Place.{Place}
use Rattle.fault_mean.specs.Faults.{TypeFault, kind, arity, direction, header, initial, type_fault_at}
use Rattle.fault_mean.specs.TypeFaults.{layer_type_faults}
use Rattle.fault_mean.specs.Places.{Judged, called, called_at, faults_of_judged, layer_among}
use Rattle.file_scope.specs.Found as generic
use Rattle.file_scope.specs.Found.{anywhere, first_rank, moved_to}
use Rattle.file_scope.specs.declared.found.Fault.{Fault}
use Rattle.file_scope.specs.declared.found.Found.{Found}
use Rattle.file_scope.proofs.Finds.{finds_both, finds_none}
use Rattle.file_scope.proofs.Firsts.{rank_is}
use Rattle.file_scope.proofs.Moved.{moved_by}
use Rattle.file_scope.proofs.Lists.{there, trees_more}
use Rattle.file_scope.specs.Words.{place_of}
use Rattle.file_expressions.specs.Found.{Finds, type_shown}
use Rattle.file_scope.proofs.Layers.{found_nowhere, within_made}
use Rattle.file_scope.proofs.Lookups.{first_at, first_there}
use Rattle.file_types.specs.Files.{called_faults, rank_of}

-- a layer that is judged once for all places
pub rank_once : (layer : LayerTree) (start judged : Found) (rank : Option ℕ) → start.first ≡ None →
    start.moved ≡ Some anywhere →
    Finds start (layer_type_faults layer) judged → rank ≡ option_map (λ (f : Fault). f.rank) judged.first →
    rank ≡ rank_of layer
rank_once layer start judged rank first moved finds is =
    is ∙ rank_is type_shown start judged (layer_type_faults layer) first moved finds

-- a layer of the library that a place names
abbrev calls_if : (place : PlaceTree) (other : Option LayerTree) (own : Option LayerTree) → List TypeFault
calls_if place other own = option_map_or (faults_of_judged type_fault_at layer_type_faults)
    (if is_some own then None else option_map (called place.name.at) other) []

pub hidden : (layers library : List Layer) (places : List PlaceTree) (place : PlaceTree) (names : List (List ℕ)) (k : ℕ)
    (a : Found) →
    names ≡ map (λ (l : LayerTree). l.name.word) (map layer_tree layers) → Some k ≡ place_of place.name.word names →
    Finds a (called_faults
    (record { layers = map layer_tree layers; places = places; library = map layer_tree library }) place) a
hidden layers library places place names k a are at =
    go (layer_among (map layer_tree layers) place.name.word)
    (first_there (λ (l : LayerTree). l.name.word) place.name.word (map layer_tree layers) k
    (ap (place_of place.name.word) (sym are) ∙ sym at)) where
      go : (o : Option LayerTree) → is_some o ≡ true →
          Finds a (calls_if place (layer_among (map layer_tree library) place.name.word) o) a
      go (Some l) e = finds_none type_shown a
      go None e = absurd (cc e)

pub uncalled : (layers library : List Layer) (places : List PlaceTree) (place : PlaceTree) (names more : List (List ℕ))
    (a : Found) →
    names ≡ map (λ (l : LayerTree). l.name.word) (map layer_tree layers) → None ≡ place_of place.name.word names →
    more ≡ map (λ (l : LayerTree). l.name.word) (map layer_tree library) → None ≡ place_of place.name.word more →
    Finds a (called_faults
    (record { layers = map layer_tree layers; places = places; library = map layer_tree library }) place) a
uncalled layers library places place names more a are lacks mores lacks_too =
    subst (λ f. Finds a f a)
    (sym (ap₂ (calls_if place) (found_nowhere library more place.name.word mores lacks_too)
    (found_nowhere layers names place.name.word are lacks)))
    (finds_none type_shown a)

shown_moved : (at : At) (f : TypeFault) → type_shown (type_fault_at at f) ≡ moved_to (Some at) (type_shown f)
shown_moved at (kind _) = refl
shown_moved at (arity _) = refl
shown_moved at (direction _) = refl
shown_moved at (header _) = refl
shown_moved at (initial _) = refl

pub called_once : (layers library : List Layer) (places : List PlaceTree) (place : PlaceTree)
    (names more : List (List ℕ)) (all : List (Option ℕ))
    (k : ℕ) (one : Option ℕ) (a b : Found) →
    names ≡ map (λ (l : LayerTree). l.name.word) (map layer_tree layers) → None ≡ place_of place.name.word names →
    more ≡ map (λ (l : LayerTree). l.name.word) (map layer_tree library) → Some k ≡ place_of place.name.word more →
    all ≡ map rank_of (map layer_tree library) → one ≡ get_or all k one →
    ((faults : List Fault) → one ≡ first_rank faults → generic.Finds a (map (moved_to (Some place.name.at)) faults) b) →
    Finds a (called_faults
    (record { layers = map layer_tree layers; places = places; library = map layer_tree library }) place) b
called_once layers library places place names more all k one a b are lacks mores at made is finds =
    let got : option_map rank_of (layer_among (map layer_tree library) place.name.word) ≡ Some one =
    ap (option_map rank_of) (sym (first_at (λ (l : LayerTree). l.name.word) place.name.word (map layer_tree library) k
    (ap (place_of place.name.word) (sym mores) ∙ sym at)))
    ∙ (sym (slice_get-map rank_of (map layer_tree library) k)
    ∙ (ap (λ l. slice_get l k) (sym made)
    ∙ sym (there all k one (within_made rank_of library more all place.name.word k mores made at) is))) in
    subst (λ (o : Option LayerTree). Finds a (calls_if place (layer_among (map layer_tree library) place.name.word) o)
    b)
    (sym (found_nowhere layers names place.name.word are lacks))
    (go (layer_among (map layer_tree library) place.name.word) got) where
      go : (o : Option LayerTree) → option_map rank_of o ≡ Some one → Finds a (calls_if place o None) b
      go None e = absurd (cc e)
      go (Some l) e =
          let same : rank_of l ≡ one = cc e in
          moved_by type_shown type_fault_at a b place.name.at (layer_type_faults l) (shown_moved place.name.at)
          (finds (map type_shown (layer_type_faults l)) (sym same))

-- the layers of the library, one place further
pub called_more : (file : FileTree) (a b c : Found) (xs : List Place) (i : ℕ) (x : Place) → i < length xs →
    x ≡ get_or xs i x →
    Finds a (flat_map (faults_of_judged type_fault_at layer_type_faults)
    (filter_map (called_at file) (map place_tree (take i xs)))) b →
    Finds b (called_faults file (place_tree x)) c →
    Finds a (flat_map (faults_of_judged type_fault_at layer_type_faults)
    (filter_map (called_at file) (map place_tree (take (i + 1) xs)))) c
called_more file a b c xs i x within is so_far now =
    let f : Judged → List TypeFault = faults_of_judged type_fault_at layer_type_faults in
    let before = filter_map (called_at file) (map place_tree (take i xs)) in
    subst (λ l. Finds a l c)
    (sym (ap (λ l. flat_map f (filter_map (called_at file) l)) (trees_more place_tree xs i x within is)
    ∙ (ap (flat_map f) (filter_map-append (called_at file) (map place_tree (take i xs)) (place_tree x ∷ []))
    ∙ (flat_map-append f before (filter_map (called_at file) (place_tree x ∷ []))
    ∙ ap (λ l. flat_map f before ++ l) (go (called_at file (place_tree x)))))))
    (finds_both type_shown a b c (flat_map f before) (called_faults file (place_tree x)) so_far now) where
      go : (o : Option Judged) → flat_map (faults_of_judged type_fault_at layer_type_faults) (cons_option o [])
          ≡ option_map_or (faults_of_judged type_fault_at layer_type_faults) o []
      go None = refl
      go (Some j) = append-nil (faults_of_judged type_fault_at layer_type_faults j)
