-- The layers at the places of a file.
use Rattle.std.proofs.Common.{◌≡◌, ℕ, zero, suc, ◌+◌, ◌<◌, ◌≤◌, List, [], ◌∷◌, ◌++◌, map, take, length, get_or, find}
use Rattle.std.proofs.Common.{bytes_eq, Option, Some, None, option_map, Bor, refl, sym, ap, ◌∙◌, subst, arith}
use Rattle.std.specs.List.{AllByRecursion, enumerate_from}
use Rattle.std.specs.Option.{option_map_or, option_or}
use Rattle.std.specs.declared.alloc.Global.{Global}
use Rattle.std.specs.declared.rc.Rc.{Rc}
use Rattle.std.proofs.lemmas.List.{length-map, map-append}
use Rattle.std.proofs.lemmas.List.FromFn.{length-enumerate_from}
use Rattle.layer_ast.specs.Tree.{FileTree, LayerTree, PlaceTree}
use Rattle.layer_ast.specs.View.{file_tree, given_tree, layer_tree, place_tree}
use Rattle.layer_ast.specs.declared.syntax.File.{File}
use Rattle.layer_ast.specs.declared.syntax.Given.{Given}
use Rattle.layer_ast.specs.declared.syntax.Layer.{Layer}
use Rattle.layer_ast.specs.declared.syntax.Place.{Place}
use Rattle.layer_mean.specs.Tree as tree
use Rattle.fault_mean.specs.Places.{layer_among, layer_at}
use Rattle.file_mean.specs.Layers.{layer_of}
use Rattle.file_mean.specs.Names.{Placed}
use Rattle.file_mean.specs.Stack.{blank_above, placed_layer, stack_of}
use Rattle.typed_layer.specs.Places.{rc_tree}
use Rattle.typed_layer.specs.View.{blank_headers}
use Rattle.typed_layer.specs.declared.tree.Blank.{Blank}
use Rattle.typed_layer.specs.declared.tree.TypedLayer.{TypedLayer}
use Rattle.file_laws.specs.Bounds.{HoldsFile, HoldsLayer, HoldsPlaced, placed_at}
use Rattle.file_slots.specs.Placed.{placement}
use Rattle.file_slots.proofs.Finds.{find_map}
use Rattle.file_slots.proofs.Lists.{trees_more}

among : (layers : List Layer) (word : List ℕ) (o : Option (Bor Layer)) →
    option_map (λ (l : Bor Layer). l.now) o ≡ find (λ (l : Layer). bytes_eq l.name.word word) layers →
    option_map (λ (l : Bor Layer). layer_tree l.now) o ≡ layer_among (map layer_tree layers) word
among layers word o is =
    shown o ∙ (ap (option_map layer_tree) is ∙ sym (find_map layer_tree (λ l. bytes_eq l.name.word word) layers))
  where
    shown : (p : Option (Bor Layer)) → option_map (λ (l : Bor Layer). layer_tree l.now) p ≡
        option_map layer_tree (option_map (λ (l : Bor Layer). l.now) p)
    shown None = refl
    shown (Some l) = refl

-- the layer that a place names, in the file and in the library
pub layer_found : (file : File) (place : Place) (o : Option (Bor Layer)) (l : Bor Layer) → o ≡ Some l →
    option_map (λ (x : Bor Layer). x.now) o ≡ find (λ (x : Layer). bytes_eq x.name.word place.name.word)
    file.layers.items →
    Some (layer_tree l.now) ≡ layer_at (file_tree file) (place_tree place)
layer_found file place o l some is =
    ap (λ x. option_or x (layer_among (map layer_tree file.library.items) place.name.word))
    (ap (option_map (λ (x : Bor Layer). layer_tree x.now)) (sym some) ∙ among file.layers.items place.name.word o is)

pub layer_called : (file : File) (place : Place) (o called : Option (Bor Layer)) → o ≡ None →
    option_map (λ (x : Bor Layer). x.now) o ≡ find (λ (x : Layer). bytes_eq x.name.word place.name.word)
    file.layers.items →
    option_map (λ (x : Bor Layer). x.now) called ≡ find (λ (x : Layer). bytes_eq x.name.word place.name.word)
    file.library.items →
    option_map (λ (x : Bor Layer). layer_tree x.now) called ≡ layer_at (file_tree file) (place_tree place)
layer_called file place o called none is library =
    among file.library.items place.name.word called library
    ∙ ap (λ x. option_or x (layer_among (map layer_tree file.library.items) place.name.word))
    (ap (option_map (λ (x : Bor Layer). layer_tree x.now)) (sym none) ∙ among file.layers.items place.name.word o is)

placed_same : (file : FileTree) (number : ℕ) (place : PlaceTree) (layer : LayerTree) (given : List Given)
    (blank : Blank) →
    map given_tree given ≡ place.given → blank_headers blank ≡ blank_above number (length file.places) →
    placement layer given blank ≡
    record { layer = layer; given = place.given; blank = blank_above number (length file.places) }
placed_same file number place layer given blank gives above = λ i.
    record { layer = layer; given = gives i; blank = above i }

-- a layer at its place is one that members can keep, and the one that the file means
pub holds_layer : (file : FileTree) (number : ℕ) (place : PlaceTree) (layer : LayerTree) (given : List Given)
    (blank : Blank) →
    Some layer ≡ layer_at file place → map given_tree given ≡ place.given →
    blank_headers blank ≡ blank_above number (length file.places) → HoldsPlaced (placed_at file number place) →
    HoldsLayer (placement layer given blank)
holds_layer file number place layer given blank named gives above holds =
    let at : LayerTree → Placed = λ l.
    record { layer = l; given = place.given; blank = blank_above number (length file.places) } in
    subst HoldsLayer (sym (placed_same file number place layer given blank gives above))
    (subst (λ o. HoldsPlaced (option_map at o)) (sym named) holds)

pub placed_is : (file : FileTree) (number : ℕ) (place : PlaceTree) (layer : LayerTree) (given : List Given)
    (blank : Blank) →
    Some layer ≡ layer_at file place → map given_tree given ≡ place.given →
    blank_headers blank ≡ blank_above number (length file.places) → layer_of (placement layer given blank) ≡
    placed_layer file number place
placed_is file number place layer given blank named gives above =
    let at : LayerTree → Placed = λ l.
    record { layer = l; given = place.given; blank = blank_above number (length file.places) } in
    ap layer_of (placed_same file number place layer given blank gives above)
    ∙ ap (λ o. option_map_or (λ l. layer_of (at l)) o tree.no_layer) named

-- a place names a layer
pub named_there : (file : FileTree) (number : ℕ) (place : PlaceTree) → None ≡ layer_at file place →
    HoldsPlaced (placed_at file number place) → ⊥
named_there file number place none holds =
    let at : LayerTree → Placed = λ l.
    record { layer = l; given = place.given; blank = blank_above number (length file.places) } in
    subst (λ o. HoldsPlaced (option_map at o)) (sym none) holds

all_numbered : {X A : Type 0} (P : ℕ × A → Type 0) (tree : X → A) (n : ℕ) (xs : List X) (i : ℕ) (x : X) →
    i < length xs →
    x ≡ get_or xs i x → AllByRecursion P (enumerate_from n (map tree xs)) → P (n + i, tree x)
all_numbered P tree n [] i x within is all = absurd (omega (arith, within))
all_numbered P tree n (y ∷ xs) zero x within is all =
    let e : n ≡ n + 0 = omega arith in
    subst (λ k. P (k, tree x)) e (subst (λ z. P (n, tree z)) (sym is) all.0)
all_numbered P tree n (y ∷ xs) (suc i) x within is all =
    let e : (n + 1) + i ≡ n + suc i = omega arith in
    subst (λ k. P (k, tree x)) e (all_numbered P tree (n + 1) xs i x (omega (arith, within)) is all.1)

pub place_holds : (file : File) (i number : ℕ) (place : Place) → i < length file.places.items →
    place ≡ get_or file.places.items i place →
    number ≡ i → HoldsFile (file_tree file) → HoldsPlaced (placed_at (file_tree file) number (place_tree place))
place_holds file i number place within is same holds =
    let e : 0 + i ≡ number = omega (arith, same) in
    subst (λ k. HoldsPlaced (placed_at (file_tree file) k (place_tree place))) e
    (all_numbered (λ x. HoldsPlaced (placed_at (file_tree file) x.0 x.1)) place_tree 0 file.places.items i place within
    is holds.layers_are)

numbered_more : {A : Type 0} (n : ℕ) (xs : List A) (x : A) → enumerate_from n (xs ++ x ∷ []) ≡ enumerate_from n xs ++
    (n + length xs, x) ∷ []
numbered_more n [] x = let e : n ≡ n + 0 = omega arith in ap (λ k. (k, x) ∷ []) e
numbered_more n (y ∷ xs) x =
    let e : (n + 1) + length xs ≡ n + suc (length xs) = omega arith in
    ap (λ l. (n, y) ∷ l) (numbered_more (n + 1) xs x ∙ ap (λ k. enumerate_from (n + 1) xs ++ (k, x) ∷ []) e)

count_taken : {X : Type 0} (xs : List X) (i : ℕ) → i < length xs → length (take i xs) ≡ i
count_taken [] i within = absurd (omega (arith, within))
count_taken (x ∷ xs) zero within = refl
count_taken (x ∷ xs) (suc i) within = ap (λ k. suc k) (count_taken xs i (omega (arith, within)))

-- the layer at one place more
pub places_more : (file : FileTree) (places : List Place) (i number : ℕ) (place : Place)
    (layers pushed : List (Rc TypedLayer Global))
    (layer : Rc TypedLayer Global) → i < length places → place ≡ get_or places i place → number ≡ i →
    rc_tree layer ≡ placed_layer file number (place_tree place) →
    map rc_tree layers ≡ map (λ x. placed_layer file x.0 x.1) (enumerate_from 0 (map place_tree (take i places))) →
    pushed ≡ layers ++ layer ∷ [] →
    map rc_tree pushed ≡ map (λ x. placed_layer file x.0 x.1) (enumerate_from 0 (map place_tree (take (i + 1) places)))
places_more file places i number place layers pushed layer within is same made so_far push =
    let at : ℕ × PlaceTree → tree.LayerTree = λ x. placed_layer file x.0 x.1 in
    let before = map place_tree (take i places) in
    let count : 0 + length before ≡ number =
    omega (arith, length-map (take i places) place_tree, count_taken places i within, same) in
    ap (map rc_tree) push
    ∙ (map-append rc_tree layers (layer ∷ [])
    ∙ (ap (λ l. l ++ rc_tree layer ∷ []) so_far
    ∙ (ap (λ t. map at (enumerate_from 0 before) ++ t ∷ []) (made ∙ ap (λ k. at (k, place_tree place)) (sym count))
    ∙ (sym (map-append at (enumerate_from 0 before) ((0 + length before, place_tree place) ∷ []))
    ∙ (ap (map at) (sym (numbered_more 0 before (place_tree place)))
    ∙ ap (λ l. map at (enumerate_from 0 l)) (sym (trees_more place_tree places i place within is)))))))

-- a stack has a layer for each place
pub stack_count : (file : FileTree) (layers : List (Rc TypedLayer Global)) → map rc_tree layers ≡ stack_of file →
    length layers ≡ length file.places
unfolding stack_of
stack_count file layers is =
    sym (length-map layers rc_tree)
    ∙ (ap length is ∙ (length-map (enumerate_from 0 file.places) (λ x. placed_layer file x.0 x.1) ∙
    length-enumerate_from 0 file.places))

take_past : {X : Type 0} (i : ℕ) (xs : List X) → length xs ≤ i → take i xs ≡ xs
take_past zero [] few = refl
take_past zero (x ∷ xs) few = absurd (omega (arith, few))
take_past (suc i) [] few = refl
take_past (suc i) (x ∷ xs) few = ap (λ l. x ∷ l) (take_past i xs (omega (arith, few)))

-- the layers at all places are the stack
pub stack_made : (file : File) (i : ℕ) (layers : List (Rc TypedLayer Global)) → length file.places.items ≤ i →
    map rc_tree layers ≡ map (λ x. placed_layer (file_tree file) x.0 x.1)
    (enumerate_from 0 (map place_tree (take i file.places.items))) →
    map rc_tree layers ≡ stack_of (file_tree file)
unfolding stack_of
stack_made file i layers all made =
    made ∙ ap (λ l. map (λ x. placed_layer (file_tree file) x.0 x.1) (enumerate_from 0 (map place_tree l)))
    (take_past i file.places.items all)
