-- The layers of a stack within the bounds have few headers.
use Rattle.std.proofs.Common.{◌≡◌, ℕ, ◌+◌, ◌≤◌, List, [], ◌∷◌, length, map, Option, Some, None, refl, sym, subst, arith}
use Rattle.std.specs.Prelude.{All, option_map}
use Rattle.std.specs.List.{AllByRecursion, enumerate_from, filter, filter_map}
use Rattle.std.specs.Option.{option_map_or}
use Rattle.std.specs.declared.alloc.Global.{Global}
use Rattle.std.specs.declared.rc.Rc.{Rc}
use Rattle.std.specs.Rc.{rc_value}
use Rattle.std.proofs.lemmas.List.Elements.{All-cons, All-nil}
use Rattle.std.proofs.lemmas.List.{length-map}
use Rattle.layer_ast.specs.Tree as ast
use Rattle.layer_mean.specs.Tree.{no_layer}
use Rattle.fault_mean.specs.Declared.{is_header}
use Rattle.fault_mean.specs.Places.{layer_at}
use Rattle.file_mean.specs.Layers.{header_in, layer_of}
use Rattle.file_mean.specs.Names.{Placed}
use Rattle.file_mean.specs.Stack.{blank_above, placed_layer, stack_of}
use Rattle.typed_layer.specs.declared.tree.TypedLayer.{TypedLayer}
use Rattle.typed_layer.specs.Headers.{HasFewHeaders}
use Rattle.typed_layer.specs.Places.{rc_tree}
use Rattle.typed_layer.specs.View.{header_tree}
use Rattle.file_laws.specs.Bounds.{HoldsLayer, HoldsPlaced, placed_at}
use Rattle.file_laws.specs.Headers.{StacksHaveFewHeaders, TypedHaveFewHeaders}

headers_counted : (ds : List ast.DeclarationTree) → length (filter_map header_in ds) ≡ length (filter is_header ds)
headers_counted [] = refl
headers_counted (ast.param at name n ∷ ds) = headers_counted ds
headers_counted (ast.int at name shape e ∷ ds) = headers_counted ds
headers_counted (ast.rows_cell at name capacity items ∷ ds) = headers_counted ds
headers_counted (ast.rows_array at name capacity items ∷ ds) = headers_counted ds
headers_counted (ast.header at name fields end ∷ ds) = let rest = headers_counted ds in omega (arith, rest)

layer_few : (p : Placed) → HoldsLayer p → length (layer_of p).headers ≤ 7
unfolding layer_of
layer_few p h = let same = headers_counted p.layer.declarations in omega (arith, same, h.headers)

option_few : (make : ast.LayerTree → Placed) (o : Option ast.LayerTree) → HoldsPlaced (option_map make o) →
    length (option_map_or (λ layer. layer_of (make layer)) o no_layer).headers ≤ 7
option_few make None h = absurd h
option_few make (Some layer) h = layer_few (make layer) h

stack_few : (file : ast.FileTree) (n : ℕ) (places : List ast.PlaceTree) →
    AllByRecursion (λ x. HoldsPlaced (placed_at file x.0 x.1)) (enumerate_from n places) →
    AllByRecursion (λ layer. length layer.headers ≤ 7) (map (λ x. placed_layer file x.0 x.1) (enumerate_from n places))
stack_few file n [] h = tt
stack_few file n (place ∷ places) h = (
  option_few (λ layer. record { layer = layer; given = place.given; blank = blank_above n (length file.places) })
      (layer_at file place) h.0,
  stack_few file (n + 1) places h.1,
)

pub stacks_have_few_headers : StacksHaveFewHeaders
unfolding stack_of
stacks_have_few_headers file h = stack_few file 0 file.places h.layers_are

typed_few : (layers : List (Rc TypedLayer Global)) →
    AllByRecursion (λ layer. length layer.headers ≤ 7) (map rc_tree layers) → All HasFewHeaders layers
typed_few [] h = All-nil HasFewHeaders
typed_few (x ∷ xs) h =
    let same = length-map (rc_value x).headers.items header_tree in
    All-cons HasFewHeaders x xs (omega (arith, same, h.0)) (typed_few xs h.1)

pub typed_have_few_headers : TypedHaveFewHeaders
typed_have_few_headers file layers h is =
    typed_few layers (subst (λ stack. AllByRecursion (λ layer. length layer.headers ≤ 7) stack) (sym is)
    (stacks_have_few_headers file h))
