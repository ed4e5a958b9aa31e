-- What makes the layers of a stack.
use Rattle.std.specs.Prelude.{◌≡◌, ℕ, ◌+◌, List, Result, Ok, Err}
use Rattle.std.specs.declared.alloc.AllocError.{AllocError}
use Rattle.std.specs.Rc.{rc_value}
use Rattle.stack_judge.specs.Answer.{stack_tree}
use Rattle.layer_mean.specs.Tree.{LayerTree}
use Rattle.live_layer.specs.Layer.{most_of, taken_by, IsBegun}
use Rattle.live_layer.specs.declared.layer.FileLayer.{FileLayer}
use Rattle.live_layer.specs.declared.maker.Maker.{Maker}

-- The stack, and how many layers were made of it.
pub record Making : Type 0 where
  pub stack : List LayerTree
  pub made : ℕ

-- What a maker has.
unfoldable pub making : Maker → Making
making m = record { stack = stack_tree (rc_value m.stack); made = m.made }

-- One more layer was made: the layer at a place, before its first event.
pub record MakesOne (place me count ltime : ℕ) (old new : Making) (s : FileLayer) : Type 0 where
  pub maker : new ≡ record old { made = old.made + 1 }
  pub begun : IsBegun old.stack place me count ltime s
  pub most : most_of s ≡ count
  pub taken : taken_by s ≡ 0

-- What making a layer yields; where there is no memory nothing was made.
abbrev pub Makes : ℕ → ℕ → ℕ → ℕ → Making → Making → Result FileLayer AllocError → Type 0
Makes place me count ltime old new (Ok s) = MakesOne place me count ltime old new s
Makes place me count ltime old new (Err e) = new ≡ old
