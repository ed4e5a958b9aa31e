-- What was packed of a stack that a file means is accepted.
use Rattle.std.proofs.Common.{◌≡◌, ◌∙◌, ℕ, ◌+◌, ◌≤◌, List, [], ◌∷◌, length, map, Option, Some, None}
use Rattle.std.proofs.Common.{refl, subst, arith}
use Rattle.std.specs.List.{AllByRecursion, enumerate_from}
use Rattle.std.specs.Option.{option_map_or}
use Rattle.std.proofs.lemmas.List.{length-map}
use Rattle.std.proofs.lemmas.List.FromFn.{length-enumerate_from}
use Rattle.layer_ast.specs.Tree as ast
use Rattle.layer_mean.specs.Tree.{HeaderTree, LayerTree, no_layer}
use Rattle.fault_mean.specs.FileFault.{file_fault}
use Rattle.file_mean.specs.Layers.{header_in, layer_of}
use Rattle.file_mean.specs.Names.{Placed}
use Rattle.file_mean.specs.Stack.{placed_layer, stack_of}
use Rattle.msg_core.specs.Headers.{most_fields}
use Rattle.chain_laws.specs.Runs.{TypedStack}
use Rattle.chain_laws.proofs.Lists.{Where}
use Rattle.file_laws.specs.Bounds.{HoldsDeclaration, HoldsLayer, HoldsPlaced, placed_at}
use Rattle.chain_laws.specs.Named.{NamedStack}
use Rattle.file_laws.proofs.Files.{NamesLayer, file_parts, files_are_typed, files_are_named}
use Rattle.file_laws.proofs.HeldLayers.{files_are_held}
use Rattle.file_laws.proofs.Lists.{filter_map_each}
use Rattle.file_laws.proofs.Texts.{texts_are_literal}
use Rattle.output_mean.specs.Judged.{Means}
use Rattle.output_mean.proofs.Judged.{IsOwn, own_stack}
use Rattle.pack_round_laws.specs.Told.{AreToldApart, StacksAreToldApart}
use Rattle.pack_round_laws.proofs.Layers.{LayersFit}
use Rattle.pack_round_laws.proofs.Packable.{CanBePacked}
use Rattle.pack_round_laws.specs.Packed.{WhatWasPackedIsRead, WhatWasPackedIsAccepted}
use Rattle.pack_round_laws.proofs.Entries.{HasFewFields, entries_fit}
use Rattle.pack_round_laws.proofs.Library.{file_walked}
use Rattle.pack_round_laws.proofs.Packed.{packed_is_read, packed_is_accepted}
use Rattle.pack_round_laws.proofs.Stacks.{stack_fits, stack_told}

-- the headers of a layer that members hold have few fields
few_in : (p : Placed) (d : ast.DeclarationTree) → HoldsDeclaration p d →
    Where (λ (h : HeaderTree). h.fields ≤ most_fields) (header_in d)
few_in p (ast.param at name value) h = tt
few_in p (ast.int at name shape initial) h = tt
few_in p (ast.rows_cell at name capacity items) h = tt
few_in p (ast.rows_array at name capacity items) h = tt
few_in p (ast.header at name fields ending) h = h

layer_few : (p : Placed) → HoldsLayer p → HasFewFields (layer_of p)
unfolding layer_of
layer_few p holds = filter_map_each (HoldsDeclaration p) (λ (h : HeaderTree). h.fields ≤ most_fields) header_in
    (λ d h. few_in p d h) p.layer.declarations
    holds.declarations_are

place_few : (file : ast.FileTree) (n : ℕ) (place : ast.PlaceTree) (o : Option Placed) → HoldsPlaced o →
    HasFewFields (option_map_or layer_of o no_layer)
place_few file n place None holds = absurd holds
place_few file n place (Some p) holds = layer_few p holds

stack_few : (file : ast.FileTree) (n : ℕ) (places : List ast.PlaceTree) → AllByRecursion (NamesLayer file) places →
    AllByRecursion (λ x. HoldsPlaced (placed_at file x.0 x.1)) (enumerate_from n places) →
    AllByRecursion HasFewFields (map (λ x. placed_layer file x.0 x.1) (enumerate_from n places))
stack_few file n [] names holds = tt
stack_few file n (place ∷ places) names holds = (
  subst HasFewFields (listed names.0) (place_few file n place (placed_at file n place) holds.0),
  stack_few file (n + 1) places names.1 holds.1,
) where
  listed : NamesLayer file place → option_map_or layer_of (placed_at file n place) no_layer ≡ placed_layer file n place
  listed h = rw h.listed refl

-- a file without faults
record Fits (stack : List LayerTree) : Type 0 where
  typed : TypedStack stack
  named : NamedStack stack
  told : AreToldApart stack
  layers_fit : LayersFit stack
  few : AllByRecursion HasFewFields stack
  high : length stack ≤ 24

places_counted : (file : ast.FileTree) → length (stack_of file) ≡ length file.places
unfolding stack_of
places_counted file = length-map (enumerate_from 0 file.places) (λ (x : ℕ × ast.PlaceTree). placed_layer file x.0 x.1) ∙
    length-enumerate_from 0 file.places

file_fits : (text : List ℕ) (stack : List LayerTree) (m : Means text stack) → IsOwn m.file stack →
    Fits (stack_of m.file)
unfolding stack_of
file_fits text stack m own =
    let file = m.file in
    let literal = texts_are_literal text file m.is_file in
    let walked = file_walked text file m.is_file in
    let parts = file_parts file own.faultless in
    let holds = files_are_held file m.is_file.spelled.placed own.faultless in
    let typed = files_are_typed file literal own.faultless in
    let count = places_counted file in
    let most = holds.few in
    record {
      typed = typed;
      named = files_are_named file own.faultless;
      told = stack_told file literal walked 0 file.places parts.places_are;
      layers_fit = stack_fits file literal walked 0 0 file.places parts.places_are literal.places_are holds.layers_are
          typed;
      few = stack_few file 0 file.places parts.places_are holds.layers_are;
      high = omega (arith, count, most);
    }

pub stacks_are_told_apart : StacksAreToldApart
stacks_are_told_apart text stack m =
    let own = own_stack m.file stack (file_fault m.file) refl m.accepted in
    subst AreToldApart own.is (file_fits text stack m own).told

stacks_can_be_packed : (text : List ℕ) (stack : List LayerTree) → Means text stack → CanBePacked stack
stacks_can_be_packed text stack m =
    let own = own_stack m.file stack (file_fault m.file) refl m.accepted in
    let fits = file_fits text stack m own in
    let high = fits.high in
    subst CanBePacked own.is record {
      sound = record { typed = fits.typed; named = fits.named; accepts = own.accepts };
      told = fits.told;
      few = omega (arith, high);
      layers_fit = fits.layers_fit;
      entries_fit = entries_fit (stack_of m.file) fits.typed fits.high fits.few fits.layers_fit;
    }

pub what_was_packed_is_read : WhatWasPackedIsRead
what_was_packed_is_read text stack m = packed_is_read stack (stacks_can_be_packed text stack m)

pub what_was_packed_is_accepted : WhatWasPackedIsAccepted
what_was_packed_is_accepted text stack m short = packed_is_accepted stack (stacks_can_be_packed text stack m) short
