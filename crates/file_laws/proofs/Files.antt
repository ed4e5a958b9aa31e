-- Files without faults mean typed stacks.
use Rattle.std.proofs.Common.{◌≡◌, ◌∙◌, ℕ, suc, ◌+◌, ◌-◌, List, [], ◌∷◌, ◌++◌, length, map, Option, Some, None, refl}
use Rattle.std.proofs.Common.{sym, ap, subst, arith, true}
use Rattle.std.specs.Prelude.{bytes_eq, flat_map, is_some, option_map, if◌then◌else◌}
use Rattle.std.specs.List.{AllByRecursion, cons_option, enumerate_from, filter_map, range_with_len}
use Rattle.std.specs.Option.{option_or, option_map_or}
use Rattle.std.proofs.lemmas.List.{length-map}
use Rattle.std.proofs.lemmas.List.FromFn.{length-enumerate_from}
use Rattle.layer_words.specs.declared.places.At.{At}
use Rattle.layer_ast.specs.Tree as ast
use Rattle.layer_mean.specs.Tree.{LayerTree}
use Rattle.layer_mean.specs.Visit.{none_header}
use Rattle.fault_mean.specs.Faults.{unknown, of_names, of_types, name_key, type_key, name_fault_at, type_fault_at}
use Rattle.fault_mean.specs.Faults.{too_many}
use Rattle.fault_mean.specs.FileFault.{file_fault}
use Rattle.fault_mean.specs.NameFaults.{twice_among, too_many_of, layer_name_faults, place_faults, name_faults}
use Rattle.fault_mean.specs.NameFaults.{name_fault, place_faults_in}
use Rattle.fault_mean.specs.Places.{layer_among, layer_at, written, called, called_at, judged_layers, faults_of_judged}
use Rattle.fault_mean.specs.Places.{faults_of_layers, param_value}
use Rattle.fault_mean.specs.TypeFaults.{layer_type_faults, type_fault}
use Rattle.fault_mean.proofs.Earliest as earliest
use Rattle.file_mean.specs.Names.{Placed}
use Rattle.file_mean.specs.Stack.{blank_above, placed_layer, stack_of}
use Rattle.chain_laws.specs.Typed.{TypedLayer}
use Rattle.chain_laws.specs.Runs.{blanks, TypedLayers}
use Rattle.chain_laws.proofs.Lists.{Where, each_so, where_is}
use Rattle.file_laws.specs.Literals.{LiteralLayer, LiteralPlace, LiteralFile}
use Rattle.file_laws.specs.Files.{FilesAreTyped}
use Rattle.file_laws.proofs.Lists.{nils, each_nil, map_nil, each_parts, find_where, unless_nil}
use Rattle.fault_mean.specs.Limits.{LimitedSize, is_within, is_within_at, sizes_in}
use Rattle.fault_mean.specs.Earliest.{unless}
use Rattle.fault_mean.specs.Declared.{is_param}
use Rattle.fault_mean.specs.Forms.{declared_as}
use Rattle.chain_laws.specs.Named.{NamedStack}
use Rattle.file_laws.specs.Named.{FilesAreNamed}
use Rattle.file_laws.proofs.Handlers.{layer_typed}
use Rattle.file_laws.proofs.NamedLayers.{layer_named, given_within}

-- no fault of a file is none of its names and none of its types
both_none : {A B C : Type 0} (f : A → C) (g : B → C) (o : Option A) (p : Option B) →
    option_or (option_map f o) (option_map g p) ≡ None →
    (o ≡ None) × (p ≡ None)
both_none f g None None h = (refl, refl)
both_none f g None (Some y) h = absurd (cc h)
both_none f g (Some x) p h = absurd (cc h)

-- the judged layers have no faults: those of the file, and those of the library that a place names

each_written : {F : Type 0} (moved : At → F → F) (faults : ast.LayerTree → List F) (layers : List ast.LayerTree) →
    AllByRecursion (λ j. faults_of_judged moved faults j ≡ []) (map written layers) →
    AllByRecursion (λ layer. faults layer ≡ []) layers
each_written moved faults [] h = tt
each_written moved faults (layer ∷ layers) h = (h.0, each_written moved faults layers h.1)

cons_parts : {A : Type 0} (P : A → Type 0) (o : Option A) (xs : List A) → AllByRecursion P (cons_option o xs) →
    Where P o × AllByRecursion P xs
cons_parts P None xs h = (tt, h)
cons_parts P (Some x) xs h = (h.0, h.1)

each_called : {A B : Type 0} (P : B → Type 0) (f : A → Option B) (xs : List A) → AllByRecursion P (filter_map f xs) →
    AllByRecursion (λ x. Where P (f x)) xs
each_called P f [] h = tt
each_called P f (x ∷ xs) h = let parts = cons_parts P (f x) (filter_map f xs) h in (parts.0, each_called P f xs parts.1)

record Judges {F : Type 0} (moved : At → F → F) (faults : ast.LayerTree → List F) (file : ast.FileTree) : Type 0 where
  layers_are : AllByRecursion (λ layer. faults layer ≡ []) file.layers
  places_are : AllByRecursion (λ place. Where (λ j. faults_of_judged moved faults j ≡ []) (called_at file place))
      file.places

judges : {F : Type 0} (moved : At → F → F) (faults : ast.LayerTree → List F) (file : ast.FileTree) →
    faults_of_layers moved faults file ≡ [] →
    Judges moved faults file
judges moved faults file h =
    let parts = each_parts (λ j. faults_of_judged moved faults j ≡ []) (map written file.layers)
    (filter_map (called_at file) file.places)
    (each_nil (faults_of_judged moved faults) (judged_layers file) h) in
    record {
      layers_are = each_written moved faults file.layers parts.0;
      places_are = each_called (λ j. faults_of_judged moved faults j ≡ []) (called_at file) file.places parts.1;
    }

-- a place names a layer without faults

pub record NamesLayer (file : ast.FileTree) (place : ast.PlaceTree) : Type 0 where
  pub layer : ast.LayerTree
  pub listed : layer_at file place ≡ Some layer
  pub types : layer_type_faults layer ≡ []
  pub named : layer_name_faults layer ≡ []
  pub faultless : place_faults file place ≡ []

-- what is known of a place
record Known (file : ast.FileTree) (place : ast.PlaceTree) : Type 0 where
  names_one : place_faults file place ≡ []
  types : Where (λ j. faults_of_judged type_fault_at layer_type_faults j ≡ []) (called_at file place)
  named : Where (λ j. faults_of_judged name_fault_at layer_name_faults j ≡ []) (called_at file place)

called_is : {F : Type 0} (moved : At → F → F) (faults : ast.LayerTree → List F) (at : At)
    (own library : Option ast.LayerTree) (layer : ast.LayerTree) →
    own ≡ None → library ≡ Some layer →
    Where (λ j. faults_of_judged moved faults j ≡ []) (if is_some own then None else option_map (called at) library) →
    faults layer ≡ []
called_is moved faults at (Some x) library layer none is h = absurd (cc none)
called_is moved faults at None None layer none is h = absurd (cc is)
called_is moved faults at None (Some x) layer none is h =
    subst (λ l. faults l ≡ []) (same is) (map_nil (moved at) (faults x) h) where
      same : {x y : ast.LayerTree} → Some x ≡ Some y → x ≡ y
      same e = cc e

nothing : (file : ast.FileTree) (place : ast.PlaceTree) → layer_among file.layers place.name.word ≡ None →
    layer_among file.library place.name.word ≡ None → place_faults file place ≡ unknown place.name.at ∷ []
nothing file place own_is library_is = rw (own_is, library_is) refl

names_layer : (file : ast.FileTree) (place : ast.PlaceTree) → Judges type_fault_at layer_type_faults file →
    Judges name_fault_at layer_name_faults file → Known file place → NamesLayer file place
names_layer file place types named known =
    go (layer_among file.layers place.name.word) (layer_among file.library place.name.word) refl refl
    (find_where (λ layer. layer_type_faults layer ≡ []) (λ layer. bytes_eq layer.name.word place.name.word) file.layers
    types.layers_are)
    (find_where (λ layer. layer_name_faults layer ≡ []) (λ layer. bytes_eq layer.name.word place.name.word) file.layers
    named.layers_are) where
      go : (own library : Option ast.LayerTree) → layer_among file.layers place.name.word ≡ own →
          layer_among file.library place.name.word ≡ library →
          Where (λ layer. layer_type_faults layer ≡ []) (layer_among file.layers place.name.word) →
          Where (λ layer. layer_name_faults layer ≡ []) (layer_among file.layers place.name.word) →
          NamesLayer file place
      go (Some layer) library own_is library_is a b = record {
        layer = layer;
        listed = rw own_is refl;
        faultless = known.names_one;
        types = subst (Where (λ layer. layer_type_faults layer ≡ [])) own_is a;
        named = subst (Where (λ layer. layer_name_faults layer ≡ [])) own_is b;
      }
      go None (Some layer) own_is library_is a b = record {
        layer = layer;
        listed = rw (own_is, library_is) refl;
        faultless = known.names_one;
        types = called_is type_fault_at layer_type_faults place.name.at (layer_among file.layers place.name.word)
            (layer_among file.library place.name.word) layer own_is library_is known.types;
        named = called_is name_fault_at layer_name_faults place.name.at (layer_among file.layers place.name.word)
            (layer_among file.library place.name.word) layer own_is library_is known.named;
      }
      go None None own_is library_is a b = absurd (cc (nothing file place own_is library_is, known.names_one))

-- the numbers of the layer that a place names are below 2^32

or_where : {A : Type 0} (P : A → Type 0) (o p : Option A) → Where P o → Where P p → Where P (option_or o p)
or_where P None p h i = i
or_where P (Some x) p h i = h

literal_at : (file : ast.FileTree) (place : ast.PlaceTree) (layer : ast.LayerTree) → LiteralFile file →
    layer_at file place ≡ Some layer → LiteralLayer layer
literal_at file place layer literal is =
    let named = λ (l : ast.LayerTree). bytes_eq l.name.word place.name.word in
    where_is (layer_at file place) LiteralLayer layer is
    (or_where LiteralLayer (layer_among file.layers place.name.word) (layer_among file.library place.name.word)
    (find_where LiteralLayer named file.layers literal.layers_are)
    (find_where LiteralLayer named file.library literal.library_is))

-- blank headers

blanks_range : (above : List LayerTree) (place : ℕ) →
    blanks place above ≡ map none_header (range_with_len place (length above))
blanks_range [] place = refl
blanks_range (layer ∷ above) place =
    let e : suc place ≡ place + 1 = omega arith in
    ap (λ hs. none_header place ∷ hs)
    (blanks_range above (suc place) ∙ ap (λ k. map none_header (range_with_len k (length above))) e)

placed_typed : (file : ast.FileTree) (n : ℕ) (place : ast.PlaceTree) (above : List LayerTree) → LiteralFile file →
    NamesLayer file place → LiteralPlace place →
    blanks (suc n) above ≡ blank_above n (length file.places) →
    TypedLayer (blanks (suc n) above) (placed_layer file n place)
placed_typed file n place above literal h given same =
    let own = literal_at file place h.layer literal h.listed in
    let p : Placed = record { layer = h.layer; given = place.given; blank = blank_above n (length file.places) } in
    rw (h.listed, same) (layer_typed p (record { declarations_are = own.declarations_are; given_are = given }) own
    h.types h.named)

range_same : {a b m n : ℕ} → a ≡ b → m ≡ n → map none_header (range_with_len a m) ≡ map none_header (range_with_len b n)
range_same e f = λ i. map none_header (range_with_len (e i) (f i))

stack_typed : (file : ast.FileTree) (n : ℕ) (places : List ast.PlaceTree) → LiteralFile file →
    n + length places ≡ length file.places →
    AllByRecursion (NamesLayer file) places → AllByRecursion LiteralPlace places →
    TypedLayers n (map (λ x. placed_layer file x.0 x.1) (enumerate_from n places))
stack_typed file n [] literal count h given = tt
stack_typed file n (place ∷ places) literal count h given =
    let above : List LayerTree = map (λ (x : ℕ × ast.PlaceTree). placed_layer file x.0 x.1)
    (enumerate_from (n + 1) places) in
    let long : length above ≡ length places =
    length-map (enumerate_from (n + 1) places) (λ (x : ℕ × ast.PlaceTree). placed_layer file x.0 x.1) ∙
    length-enumerate_from (n + 1) places in
    let next : n + 1 ≡ suc n = omega arith in
    let left : length above ≡ length file.places - (n + 1) = omega (arith, long, count) in
    let same : blanks (suc n) above ≡ blank_above n (length file.places) =
    blanks_range above (suc n) ∙ range_same (sym next) left in (
      placed_typed file n place above literal h.0 given.0 same,
      subst (λ k. TypedLayers k above) next
          (stack_typed file (n + 1) places literal (omega (arith, count)) h.1 given.1),
    )

knowns : (file : ast.FileTree) (places : List ast.PlaceTree) →
    AllByRecursion (λ place. place_faults file place ≡ []) places →
    AllByRecursion (λ place. Where (λ j. faults_of_judged type_fault_at layer_type_faults j ≡ [])
    (called_at file place)) places →
    AllByRecursion (λ place. Where (λ j. faults_of_judged name_fault_at layer_name_faults j ≡ [])
    (called_at file place)) places →
    AllByRecursion (Known file) places
knowns file [] a b c = tt
knowns file (place ∷ places) a b c =
    (record { names_one = a.0; types = b.0; named = c.0 }, knowns file places a.1 b.1 c.1)

-- what a file without faults is made of: at most 24 places, each of which names a layer without faults
pub record Parts (file : ast.FileTree) : Type 0 where
  pub few : too_many_of 24 (map (λ place. place.name) file.places) ≡ []
  pub places_are : AllByRecursion (NamesLayer file) file.places

pub file_parts : (file : ast.FileTree) → file_fault file ≡ None → Parts file
file_parts file none =
    let faults = both_none of_names of_types (name_fault file) (type_fault file) none in
    let named_nil = earliest.there name_key (name_faults file) faults.0 in
    let types_nil = earliest.there type_key (faults_of_layers type_fault_at layer_type_faults file) faults.1 in
    let a = twice_among [] (map (λ (layer : ast.LayerTree). layer.name) file.layers) in
    let b = too_many_of 64 (map (λ (layer : ast.LayerTree). layer.name) file.layers) in
    let c = faults_of_layers name_fault_at layer_name_faults file in
    let d = too_many_of 24 (map (λ (place : ast.PlaceTree). place.name) file.places) in
    let one = nils (a ++ b ++ c ++ d) (flat_map (place_faults file) file.places) named_nil in
    let two = nils (a ++ b ++ c) d one.0 in
    let three = nils (a ++ b) c two.0 in
    let types = judges type_fault_at layer_type_faults file types_nil in
    let named = judges name_fault_at layer_name_faults file three.1 in
    let known = knowns file file.places (each_nil (place_faults file) file.places one.1) types.places_are
    named.places_are in
    record {
      few = two.1;
      places_are = each_so (Known file) (NamesLayer file) (λ place. names_layer file place types named) file.places
          known;
    }

pub files_are_typed : FilesAreTyped
unfolding stack_of
files_are_typed file literal none = stack_typed file 0 file.places literal (omega arith)
    (file_parts file none).places_are literal.places_are

-- what a place gives fits the sizes of its layer
given_same : (p : Placed) (place : ast.PlaceTree) (size : ast.SizeTree) (most : ℕ) → p.given ≡ place.given →
    is_within_at p.layer place size most ≡ true → given_within p size most ≡ true
given_same p place (ast.fixed at n) most same h = refl
given_same p place (ast.sized name) most same h =
    subst (λ given. option_map_or (is_within most) (param_value p.layer given name.word) true ≡ true) (sym same) h

pub sizes_within : (file : ast.FileTree) (place : ast.PlaceTree) (h : NamesLayer file place) (n : ℕ) →
    AllByRecursion (λ l. given_within
    (record { layer = h.layer; given = place.given; blank = blank_above n (length file.places) }) l.size l.most ≡
    true)
    (sizes_in h.layer)
sizes_within file place h n =
    let p : Placed = record { layer = h.layer; given = place.given; blank = blank_above n (length file.places) } in
    let a = twice_among [] (map (λ (g : ast.GivenTree). g.name) place.given) in
    let b = flat_map (λ (g : ast.GivenTree). unless (declared_as is_param h.layer g.name.word) (unknown g.name.at))
    place.given in
    let f = λ (l : LimitedSize). unless (is_within_at h.layer place l.size l.most) (too_many place.name.at) in
    let none = nils (a ++ b) (flat_map f (sizes_in h.layer)) (place_faultless file place h) in
    each_so (λ l. f l ≡ []) (λ l. given_within p l.size l.most ≡ true)
    (λ l is. given_same p place l.size l.most refl
    (unless_nil (is_within_at h.layer place l.size l.most) (too_many place.name.at) is))
    (sizes_in h.layer) (each_nil f (sizes_in h.layer) none.1)
  where
    place_faultless : (file : ast.FileTree) (place : ast.PlaceTree) (h : NamesLayer file place) →
        place_faults_in place h.layer ≡ []
    place_faultless file place h =
        subst (λ o. option_map_or (place_faults_in place) o (unknown place.name.at ∷ []) ≡ []) h.listed h.faultless

-- what the layers of a file without faults name is there
stack_named : (file : ast.FileTree) (n : ℕ) (places : List ast.PlaceTree) →
    AllByRecursion (NamesLayer file) places →
    NamedStack (map (λ x. placed_layer file x.0 x.1) (enumerate_from n places))
stack_named file n [] h = tt
stack_named file n (place ∷ places) h = (
  rw h.0.listed (layer_named
      (record { layer = h.0.layer; given = place.given; blank = blank_above n (length file.places) }) h.0.types
      h.0.named (sizes_within file place h.0 n)),
  stack_named file (n + 1) places h.1,
)

pub files_are_named : FilesAreNamed
unfolding stack_of
files_are_named file none = stack_named file 0 file.places (file_parts file none).places_are
