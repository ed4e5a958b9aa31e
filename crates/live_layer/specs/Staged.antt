-- A layer between visits: it stays as it is while other references move, and refers to few slots.
use Rattle.std.specs.Prelude.{◌≡◌, ℕ, ◌≤◌, List, ◌++◌, length}
use Rattle.std.specs.Rc.{rc_value}
use Rattle.slot_pool.specs.Held.{Held}
use Rattle.slot_pool.specs.References.{Moved, Covers}
use Rattle.typed_layer.specs.View.{layer_tree}
use Rattle.layer_stage.specs.Kept.{messages_kept}
use Rattle.live_layer.specs.AtRest.{at_rest_stays, keeps_few}
use Rattle.live_layer.specs.Keeps.{cells_keep}
use Rattle.live_layer.specs.Layer.{refs_of, state_in, IsInOrder}
use Rattle.live_layer.specs.declared.layer.FileLayer.{FileLayer}

pub layer_stays : (p q : List Held) (a b : List ℕ) (s : FileLayer) → Moved p q a b → Covers p (a ++ refs_of s) →
    IsInOrder p s →
    IsInOrder q s × (state_in q s ≡ state_in p s)
unfolding refs_of state_in IsInOrder
layer_stays p q a b s moved covers is = at_rest_stays (layer_tree (rc_value s.layer)) p q a b s.desk moved covers is

pub layer_keeps_few : (p : List Held) (s : FileLayer) → IsInOrder p s → length (refs_of s) ≤ 32768
unfolding refs_of IsInOrder
layer_keeps_few p s is = keeps_few (layer_tree (rc_value s.layer)) p s.desk is

pub layer_keeps : (p : List Held) (s : FileLayer) → IsInOrder p s → length (refs_of s) ≤ messages_kept (state_in p s)
unfolding refs_of state_in
layer_keeps p s is = cells_keep p s.desk.cells.cells
