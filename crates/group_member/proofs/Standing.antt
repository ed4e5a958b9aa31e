-- Layers in order stay so while other references move.
use Rattle.std.proofs.Common.{◌≡◌, ℕ, List, ◌++◌, map, flat_map}
use Rattle.slot_pool.specs.Held.{Held}
use Rattle.slot_pool.specs.References.{Moved, Covers}
use Rattle.layer_mean.specs.Tree.{LayerTree}
use Rattle.pool_message.proofs.Lists.{each_stays}
use Rattle.stack_queue.specs.Stages.{Stand}
use Rattle.live_layer.specs.Layer.{place_of, tree_of, refs_of, IsInOrder, state_in}
use Rattle.live_layer.specs.Staged.{layer_stays}
use Rattle.live_layer.specs.declared.layer.FileLayer.{FileLayer}

pub stand_stays : (stack : List LayerTree) (p q : List Held) (a b : List ℕ) (layers : List FileLayer) → Moved p q a b →
    Covers p (a ++ flat_map refs_of layers) → Stand place_of tree_of IsInOrder stack p layers →
    Stand place_of tree_of IsInOrder stack q layers × (map (state_in q) layers ≡ map (state_in p) layers)
stand_stays stack p q a b layers moved covers stand =
    let stays = each_stays refs_of (IsInOrder p) (IsInOrder q) (state_in p) (state_in q) p a
    (λ s. layer_stays p q a b s moved) layers covers
    stand.ready in
    (record { places = stand.places; layers = stand.layers; ready = stays.0 }, stays.1)
