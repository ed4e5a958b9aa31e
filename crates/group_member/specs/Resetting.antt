-- Layers that begin again, one by one.
use Rattle.std.specs.Prelude.{◌≡◌, ℕ, ◌≤◌, List, [], ◌∷◌, map, length, take, drop}
use Rattle.std.specs.List.{flat_map, AllByRecursion}
use Rattle.slot_pool.specs.Held.{Held}
use Rattle.slot_pool.specs.References.{Moved, Covers}
use Rattle.live_layer.specs.Layer.{refs_of, IsInOrder, state_in, BeginsAgain}
use Rattle.live_layer.specs.declared.layer.FileLayer.{FileLayer}

-- Each of these layers is the one before, begun again.
abbrev pub AreAgain : (me count ltime : ℕ) → List FileLayer → List FileLayer → Type 0
AreAgain me count ltime [] [] = Unit {0}
AreAgain me count ltime (old ∷ olds) (new ∷ news) = BeginsAgain me count ltime old new × AreAgain
    me count ltime olds news
AreAgain me count ltime _ _ = ⊥

-- The first `k` layers have begun again; the others are as they were in the first pool, and of all references only
-- theirs are left.
pub record IsResetting (me count ltime k : ℕ) (start : List Held) (olds : List FileLayer) (p : List Held)
    (news : List FileLayer) : Type 0 where
  pub again : AreAgain me count ltime (take k olds) (take k news)
  pub following : drop k news ≡ drop k olds
  pub size : length news ≡ length olds
  pub order : AllByRecursion (IsInOrder p) (drop k olds)
  pub room : AllByRecursion (λ s. count ≤ s.count) (map (state_in p) (drop k olds))
  pub covers : Covers p (flat_map refs_of (drop k olds))
  pub moved : Moved start p (flat_map refs_of olds) (flat_map refs_of (drop k olds))
