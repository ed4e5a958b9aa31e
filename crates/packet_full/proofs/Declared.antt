-- What a tag of a layer stands for.
use Rattle.std.proofs.Common.{◌≡◌, ℕ, zero, suc, ◌-◌, ◌<◌, ◌≢◌, List, [], ◌∷◌, Some, refl, sym, ap, ◌∙◌, subst, arith}
use Rattle.std.proofs.Common.{length, get_or}
use Rattle.std.specs.Prelude.{slice_get, option_map}
use Rattle.std.proofs.lemmas.Option.{slice_get-map}
use Rattle.layer_mean.specs.Headers.{header_of_tag}
use Rattle.typed_layer.specs.View.{header_tree, layer_tree}
use Rattle.typed_layer.specs.declared.tree.HeaderForm.{HeaderForm}
use Rattle.typed_layer.specs.declared.tree.TypedLayer.{TypedLayer}
use Rattle.packet_full.specs.Form.{form_of}

-- the element of a list at a place that it has
there : {A : Type 0} (xs : List A) (k : ℕ) (x : A) → k < length xs → x ≡ get_or xs k x → slice_get xs k ≡ Some x
there [] k x below is = absurd (omega arith)
there (y ∷ ys) zero x below is = ap Some (sym is)
there (y ∷ ys) (suc k) x below is = there ys k x (omega arith) is

-- a tag from 1 on stands for a header of the layer
pub declared_header : (layer : TypedLayer) (tag : ℕ) (h : HeaderForm) → tag ≢ 0 → tag - 1 < length layer.headers.items →
    h ≡ get_or layer.headers.items (tag - 1) h → Some (form_of (header_tree h)) ≡
    option_map form_of (header_of_tag (layer_tree layer) tag)
declared_header layer zero h other below is = absurd (other refl)
declared_header layer (suc k) h other below is =
    let at : suc k - 1 ≡ k = omega arith in
    sym (ap (option_map form_of) (slice_get-map header_tree layer.headers.items k
    ∙ ap (option_map header_tree)
    (there layer.headers.items k h (omega arith) (subst (λ n. h ≡ get_or layer.headers.items n h) at is))))
