-- The stack of a file without faults fits, and its names can be told apart.
use Rattle.std.proofs.Common.{◌≡◌, ℕ, suc, ◌+◌, List, [], ◌∷◌, ◌++◌, map, length, Option, Some, None, refl, sym, ap}
use Rattle.std.proofs.Common.{subst}
use Rattle.std.specs.Prelude.{◌==◌, bytes_eq, flat_map, option_map}
use Rattle.std.specs.List.{AllByRecursion, enumerate_from}
use Rattle.std.specs.Option.{option_or, option_map_or}
use Rattle.msg_core.specs.declared.message.Header.{Header}
use Rattle.layer_ast.specs.Tree as ast
use Rattle.layer_mean.specs.Tree.{no_layer}
use Rattle.fault_mean.specs.Declared.{names_in}
use Rattle.fault_mean.specs.Earliest.{unless}
use Rattle.fault_mean.specs.Faults.{arity}
use Rattle.fault_mean.specs.Kinds.{arguments_of}
use Rattle.fault_mean.specs.Places.{layer_among, layer_at}
use Rattle.fault_mean.specs.Scope.{head_scope, handler_statements, popped_names, Local}
use Rattle.fault_mean.specs.TypeFaults.{with_faults, takes_off, expected_type_faults, statement_type_faults}
use Rattle.file_mean.specs.Layers.{expected_of, handler_names, handler_of, layer_of}
use Rattle.file_mean.specs.Names.{Names, Placed}
use Rattle.file_mean.specs.Stack.{blank_above, placed_layer}
use Rattle.file_laws.specs.Bounds.{HoldsHandler, HoldsLayer, HoldsPlaced, placed_at}
use Rattle.file_laws.specs.Literals.{LiteralExpected, LiteralHandler, LiteralLayer, LiteralPlace, LiteralFile}
use Rattle.file_laws.proofs.Files.{NamesLayer, sizes_within}
use Rattle.file_laws.proofs.Lists.{nils, find_where}
use Rattle.file_laws.proofs.Messages.{LastMessages}
use Rattle.file_laws.proofs.NamedLayers.{Handled, handler_clean, Parts, layer_parts}
use Rattle.file_laws.proofs.Small.{LiteralPlaced}
use Rattle.chain_laws.specs.Runs.{TypedLayers}
use Rattle.chain_laws.specs.Typed.{TypedForm, TypedHandler, TypedLayer}
use Rattle.chain_laws.proofs.Lists.{Where, where_is}
use Rattle.pack_round_laws.proofs.Layers.{HandlerFits, LayerFits, LayersFit}
use Rattle.pack_round_laws.specs.Told.{IsTold, AreToldApart}
use Rattle.pack_round_laws.proofs.Apart.{layer_told}
use Rattle.pack_round_laws.proofs.Library.{WalkedFile}
use Rattle.pack_round_laws.proofs.Values.{number_fits, block_fits}
use Rattle.pack_round_laws.proofs.Walked.{DeepExpected, DeepHandler, WalkedLayer, deepest}
use Rattle.pack_round_laws.proofs.Ways.{FitsExpected, handler_fits}

-- a layer of which a place has the name
or_where : {A : Type 0} (P : A → Type 0) (o q : Option A) → Where P o → Where P q → Where P (option_or o q)
or_where P None q h i = i
or_where P (Some x) q h i = h

at_place : (P : ast.LayerTree → Type 0) (file : ast.FileTree) (place : ast.PlaceTree) (layer : ast.LayerTree) →
    AllByRecursion P file.layers →
    AllByRecursion P file.library → layer_at file place ≡ Some layer → P layer
at_place P file place layer own library is =
    let named = λ (l : ast.LayerTree). bytes_eq l.name.word place.name.word in
    where_is (layer_at file place) P layer is
    (or_where P (layer_among file.layers place.name.word) (layer_among file.library place.name.word)
    (find_where P named file.layers own)
    (find_where P named file.library library))

-- handlers
expected_fits : (names : Names) (locals : List Local) → LiteralPlaced names.place → LastMessages names.place.layer →
    (x : ast.Expected) → DeepExpected x →
    LiteralExpected x → expected_type_faults (record { layer = names.place.layer; locals = locals }) x ≡ [] →
    FitsExpected (layer_of names.place) (expected_of names x)
expected_fits names locals placed last ast.always deep literal h = tt
expected_fits names locals placed last (ast.common e) deep literal h =
    number_fits names locals placed last e deepest deep literal h
expected_fits names locals placed last ast.rare deep literal h = tt

file_handler_fits : (p : Placed) (blank : List Header) (h : ast.HandlerTree) → LiteralPlaced p → LastMessages p.layer →
    AllByRecursion (λ cell. TypedForm cell.form) (layer_of p).cells → Handled p h → DeepHandler p.layer h →
    LiteralHandler p.layer h → HoldsHandler p h →
    TypedHandler (layer_of p) blank (handler_of p h) → HandlerFits (layer_of p) (handler_of p h)
unfolding handler_of
file_handler_fits p blank h placed last cells handled deep literal holds typed =
    let entry = handler_names p h in
    let locals = (head_scope p.layer h).locals in
    let a = unless (length (names_in (Some h.names)) == length (arguments_of h.kind)) (arity h.at) in
    let b = option_map_or (λ x. with_faults p.layer h.at x.name (length (popped_names (Some x))) (takes_off h)) h.popped
    [] in
    let c = expected_type_faults (head_scope p.layer h) h.expected in
    let one = nils (a ++ b ++ c)
    (flat_map (λ s. statement_type_faults s.scope s.statement) (handler_statements p.layer h)) handled.0 in
    let two = nils (a ++ b) c one.0 in
    handler_fits (layer_of p) blank cells (handler_of p h) typed holds.block
    (expected_fits entry locals placed last h.expected deep.0 literal.0 two.1)
    (block_fits h.block entry locals placed last (handler_clean p h handled) deep.1 literal.1)

handlers_fit : (p : Placed) (blank : List Header) (hs : List ast.HandlerTree) → LiteralPlaced p → LastMessages p.layer →
    AllByRecursion (λ cell. TypedForm cell.form) (layer_of p).cells → AllByRecursion (Handled p) hs →
    AllByRecursion (DeepHandler p.layer) hs →
    AllByRecursion (LiteralHandler p.layer) hs → AllByRecursion (HoldsHandler p) hs →
    AllByRecursion (TypedHandler (layer_of p) blank)
    (map (handler_of p) hs) →
    AllByRecursion (HandlerFits (layer_of p)) (map (handler_of p) hs)
handlers_fit p blank [] placed last cells handled deep literal holds typed = tt
handlers_fit p blank (h ∷ hs) placed last cells handled deep literal holds typed = (
  file_handler_fits p blank h placed last cells handled.0 deep.0 literal.0 holds.0 typed.0,
  handlers_fit p blank hs placed last cells handled.1 deep.1 literal.1 holds.1 typed.1,
)

handlers_are : (p : Placed) → (layer_of p).handlers ≡ map (handler_of p) p.layer.handlers
unfolding layer_of
handlers_are p = refl

-- layers
file_layer_fits : (p : Placed) (blank : List Header) → Parts p → LiteralPlaced p → LiteralLayer p.layer →
    WalkedLayer p.layer → HoldsLayer p →
    TypedLayer blank (layer_of p) → LayerFits (layer_of p)
file_layer_fits p blank parts placed literal walked holds typed =
    subst (AllByRecursion (HandlerFits (layer_of p))) (sym (handlers_are p))
    (handlers_fit p blank p.layer.handlers placed parts.last typed.cells parts.handlers_are walked.handlers_are
    literal.handlers_are holds.handlers_are
    (subst (AllByRecursion (TypedHandler (layer_of p) blank)) (handlers_are p) typed.handlers))

-- stacks
module _ (file : ast.FileTree) (literal : LiteralFile file) (walked : WalkedFile file) where
  abbrev placed_of : ℕ → ast.PlaceTree → ast.LayerTree → Placed
  placed_of n place layer = record { layer = layer; given = place.given; blank = blank_above n (length file.places) }

  place_fits : (n : ℕ) (place : ast.PlaceTree) (blank : List Header) → NamesLayer file place → LiteralPlace place →
      HoldsPlaced (placed_at file n place) →
      TypedLayer blank (placed_layer file n place) → LayerFits (placed_layer file n place)
  place_fits n place blank h given holds typed =
      let p = placed_of n place h.layer in
      let own = at_place LiteralLayer file place h.layer literal.layers_are literal.library_is h.listed in
      let is : placed_layer file n place ≡ layer_of p =
      ap (λ o. option_map_or (λ layer. layer_of (placed_of n place layer)) o no_layer) h.listed in
      subst LayerFits (sym is) (file_layer_fits p blank (layer_parts p h.types h.named (sizes_within file place h n))
      (record { declarations_are = own.declarations_are; given_are = given }) own
      (at_place WalkedLayer file place h.layer walked.layers_are walked.library_is h.listed)
      (subst (λ o. HoldsPlaced (option_map (placed_of n place) o)) h.listed holds) (subst (TypedLayer blank) is typed))

  place_told : (n : ℕ) (place : ast.PlaceTree) → NamesLayer file place → IsTold (placed_layer file n place)
  place_told n place h =
      let p = placed_of n place h.layer in
      let is : placed_layer file n place ≡ layer_of p =
      ap (λ o. option_map_or (λ layer. layer_of (placed_of n place layer)) o no_layer) h.listed in
      subst IsTold (sym is)
      (layer_told p (at_place WalkedLayer file place h.layer walked.layers_are walked.library_is h.listed) h.named)

  pub stack_fits : (n m : ℕ) (places : List ast.PlaceTree) → AllByRecursion (NamesLayer file) places →
      AllByRecursion LiteralPlace places →
      AllByRecursion (λ x. HoldsPlaced (placed_at file x.0 x.1)) (enumerate_from n places) →
      TypedLayers m (map (λ x. placed_layer file x.0 x.1) (enumerate_from n places)) →
      LayersFit (map (λ x. placed_layer file x.0 x.1) (enumerate_from n places))
  stack_fits n m [] names given holds typed = tt
  stack_fits n m (place ∷ places) names given holds typed = (
    place_fits n place _ names.0 given.0 holds.0 typed.0,
    stack_fits (n + 1) (suc m) places names.1 given.1 holds.1 typed.1,
  )

  pub stack_told : (n : ℕ) (places : List ast.PlaceTree) → AllByRecursion (NamesLayer file) places →
      AreToldApart (map (λ x. placed_layer file x.0 x.1) (enumerate_from n places))
  stack_told n [] names = tt
  stack_told n (place ∷ places) names = (place_told n place names.0, stack_told (n + 1) places names.1)
