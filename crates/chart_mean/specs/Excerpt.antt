-- What is asked of a picture.
use Rattle.std.specs.Prelude.{ℕ, Option}
use Rattle.script_mean.specs.Words.{Word}
use Rattle.chart_mean.specs.declared.types.Breach.{Breach}

-- the lines from the first to the last, by their numbers, counted from 1; the breach that is shown, if one is; and the
-- name of the layer whose headers are left out, empty where all are shown
pub record Excerpt : Type 0 where
  pub first : ℕ
  pub last : ℕ
  pub breach : Option Breach
  pub hide : Word
