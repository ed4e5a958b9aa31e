-- The plain stack that the layers at their places are.
use Rattle.std.specs.Prelude.{◌≡◌, ℕ, true, false, List, map, length, Option, Some, None}
use Rattle.std.specs.declared.alloc.Global.{Global}
use Rattle.std.specs.declared.rc.Rc.{Rc}
use Rattle.std.specs.Rc.{rc_value}
use Rattle.typed_layer.specs.declared.tree.TypedLayer.{TypedLayer}
use Rattle.layer_mean.specs.Tree.{LayerTree}
use Rattle.layer_mean.specs.Queue.{is_place, layer_at}
use Rattle.typed_layer.specs.View.{layer_tree}
use Rattle.typed_layer.specs.declared.typed.Typed.{Typed}

-- A layer that is shared.
abbrev pub rc_tree : Rc TypedLayer Global → LayerTree
rc_tree layer = layer_tree (rc_value layer)

-- The layers at their places, lowest first.
abbrev pub typed_tree : Typed → List LayerTree
typed_tree typed = map rc_tree typed.layers.items

-- The layer that is visited at a place of the queue: the one that stands there, or none at an edge.
abbrev pub IsVisited : List LayerTree → ℕ → Option LayerTree → Type 0
IsVisited stack at None = is_place (length stack) at ≡ false
IsVisited stack at (Some layer) = (is_place (length stack) at ≡ true) × (layer_at stack at ≡ layer)
