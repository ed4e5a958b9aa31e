use Rattle.std.specs.Prelude.{◌≤◌, All, slice_index_or}
use Rattle.std.specs.declared.alloc.Global.{Global}
use Rattle.std.specs.declared.rc.Rc.{Rc}
use Rattle.std.specs.Rc.{rc_value}
use Rattle.std.proofs.lemmas.List.Elements.{All-map}
use Rattle.layer_mean.specs.Tree.{LayerTree, HeaderTree}
use Rattle.typed_layer.specs.declared.tree.TypedLayer.{TypedLayer}
use Rattle.typed_layer.specs.View.{header_tree}
use Rattle.typed_layer.specs.Places.{rc_tree}
use Rattle.stack_judge.proofs.stack.Stack.law_within_limits.Goals as goal

abbrev few : HeaderTree → Type 0
few header = header.fields ≤ 4

layer_few : (layer : Rc TypedLayer Global) → All few (rc_tree layer).headers
layer_few layer =
    All-map few header_tree (rc_value layer).headers.items
    (λ k d below. (slice_index_or (rc_value layer).headers.items k d).few)

pub returns-clause-fields : goal.returns-clause-fields
returns-clause-fields c =
    let layers = c.args.self.now.typed.layers.items in
    All-map (λ (layer : LayerTree). All few layer.headers) rc_tree layers
    (λ k d below. layer_few (slice_index_or layers k d))
