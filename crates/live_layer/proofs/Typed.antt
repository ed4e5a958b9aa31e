-- A layer of a typed stack fits the desk that is made for it.
use Rattle.std.proofs.Common.{◌≡◌, ℕ, zero, suc, ◌+◌, ◌<◌, ◌≤◌, Bool, true, ◌&&◌, nat_le, nat_lt, List, [], ◌∷◌, length}
use Rattle.std.proofs.Common.{slice_index_or, refl, sym, subst, arith}
use Rattle.std.specs.List.{list_all}
use Rattle.std.proofs.lemmas.Bool.{lt-ltb, le-leb}
use Rattle.msg_core.specs.declared.message.Header.{Header}
use Rattle.layer_mean.specs.Tree.{LayerTree, no_layer}
use Rattle.chain_laws.specs.Runs.{blanks, TypedLayers, TypedStack}
use Rattle.chain_laws.specs.Typed.{TypedLayer}
use Rattle.layer_desk.specs.Need.{are_above}
use Rattle.desk_needs.specs.Layouts.{layout_of}
use Rattle.desk_needs.proofs.Fits.{typed_layers_fit}
use Rattle.live_layer.specs.Rest.{IsMadeFor}

both : (a b : Bool) → a ≡ true → b ≡ true → (a && b) ≡ true
both a b one two = λ j. (one j && two j)

blanks_long : (place : ℕ) (above : List LayerTree) → length (blanks place above) ≡ length above
blanks_long place [] = refl
blanks_long place (layer ∷ above) = let rest = blanks_long (suc place) above in omega arith

blanks_low : (place : ℕ) (above : List LayerTree) → place + length above ≤ 24 →
    list_all (λ (h : Header). nat_lt h.layer 24) (blanks place above) ≡ true
blanks_low place [] few = refl
blanks_low place (layer ∷ above) few =
    both (nat_lt place 24) (list_all (λ (h : Header). nat_lt h.layer 24) (blanks (suc place) above))
    (lt-ltb place 24 (omega arith))
    (blanks_low (suc place) above (omega arith))

blanks_above : (place : ℕ) (above : List LayerTree) → suc place + length above ≤ 24 →
    are_above (blanks (suc place) above) ≡ true
blanks_above place above few =
    let long = blanks_long (suc place) above in
    both (nat_le (length (blanks (suc place) above)) 23)
    (list_all (λ (h : Header). nat_lt h.layer 24) (blanks (suc place) above))
    (le-leb (length (blanks (suc place) above)) 23 (omega arith)) (blanks_low (suc place) above few)

made_for : (blank : List Header) (layer : LayerTree) → are_above blank ≡ true → TypedLayer blank layer →
    IsMadeFor layer (layout_of layer 0)
made_for blank layer above typed = record {
  misfits = λ places dir kind m. (typed_layers_fit blank layer places dir kind m above typed).misfits;
  hand = λ places dir kind m. (typed_layers_fit blank layer places dir kind m above typed).hand;
}

made_from : (first k : ℕ) (stack : List LayerTree) → first + length stack ≤ 24 → TypedLayers first stack →
    k < length stack →
    IsMadeFor (slice_index_or stack k no_layer) (layout_of (slice_index_or stack k no_layer) 0)
made_from first k [] few typed within = absurd (omega arith)
made_from first zero (layer ∷ above) few typed within =
    made_for (blanks (suc first) above) layer (blanks_above first above (omega arith)) typed.0
made_from first (suc k) (layer ∷ above) few typed within = made_from (suc first) k above (omega arith) typed.1
    (omega arith)

-- So it is with the layer at each place.
pub made_at : (k : ℕ) (stack : List LayerTree) (layer : LayerTree) → length stack ≤ 24 → TypedStack stack →
    k < length stack →
    layer ≡ slice_index_or stack k no_layer → IsMadeFor layer (layout_of layer 0)
made_at k stack layer few typed within is =
    subst (λ (layer : LayerTree). IsMadeFor layer (layout_of layer 0)) (sym is)
    (made_from 0 k stack (omega arith) typed within)
