-- A layer at its place, as the crates above see it.
use Rattle.std.specs.Prelude.{◌≡◌, ℕ, ⊤, List, [], slice_index_or}
use Rattle.std.specs.Rc.{rc_value}
use Rattle.slot_pool.specs.Held.{Held}
use Rattle.layer_mean.specs.State.{State}
use Rattle.layer_mean.specs.Tree.{LayerTree, no_layer}
use Rattle.layer_mean.specs.Visit.{fresh}
use Rattle.typed_layer.specs.View.{layer_tree}
use Rattle.cell_store.specs.Kept.{state_of}
use Rattle.pool_message.specs.Seen.{row_seen}
use Rattle.live_layer.specs.Rest.{IsAtRest}
use Rattle.live_layer.specs.Stock.{kept_refs}
use Rattle.live_layer.specs.declared.layer.FileLayer.{FileLayer}

-- Its place in the stack, the lowest being 0, and its layer.
unfoldable pub place_of : FileLayer → ℕ
place_of s = s.place

unfoldable pub tree_of : FileLayer → LayerTree
tree_of s = layer_tree (rc_value s.layer)

-- The slots to which its rows refer.
unfoldable pub refs_of : FileLayer → List ℕ
refs_of s = kept_refs s.desk.cells

-- Rows alone lie on its desk, which is made for the layer, and the rows lie in the pool.
unfoldable pub IsInOrder : List Held → FileLayer → Type 0
IsInOrder p s = IsAtRest (layer_tree (rc_value s.layer)) p s.desk

-- Its state, with the bodies that the pool holds.
unfoldable pub state_in : List Held → FileLayer → State
state_in p s = state_of (row_seen p) s.desk.cells

-- The most members that it has room for, and how many events it took.
unfoldable pub most_of : FileLayer → ℕ
most_of s = s.desk.cells.most

unfoldable pub taken_by : FileLayer → ℕ
taken_by s = s.taken

-- All that is read of a layer, which proofs of its methods unfold at once.
unfoldable pub layer_parts : ⊤
unfolding place_of tree_of refs_of IsInOrder state_in most_of taken_by
layer_parts = tt

-- The layer at a place of a stack has seen no event, at the member of rank `me` of `count`: it is in order in any pool,
-- refers to nothing, and its state is that of the layer at first.
pub record IsBegun (stack : List LayerTree) (at me count ltime : ℕ) (s : FileLayer) : Type 0 where
  pub place : place_of s ≡ at
  pub tree : tree_of s ≡ slice_index_or stack at no_layer
  pub order : (p : List Held) → IsInOrder p s
  pub refs : refs_of s ≡ []
  pub state : (p : List Held) → state_in p s ≡ fresh (slice_index_or stack at no_layer) me count ltime

-- A layer has begun again, with as much room as before, and has taken as many events as before.
pub record BeginsAgain (me count ltime : ℕ) (old new : FileLayer) : Type 0 where
  pub place : place_of new ≡ place_of old
  pub tree : tree_of new ≡ tree_of old
  pub order : (p : List Held) → IsInOrder p new
  pub refs : refs_of new ≡ []
  pub state : (p : List Held) → state_in p new ≡ fresh (tree_of old) me count ltime
  pub most : most_of new ≡ most_of old
  pub taken : taken_by new ≡ taken_by old
