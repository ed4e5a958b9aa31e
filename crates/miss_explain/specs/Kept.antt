-- The decisions of an entry by its shapes, as they are kept.
use Rattle.std.specs.Prelude.{List, [], Option, Result}
use Rattle.std.specs.Option.{option_map_or}
use Rattle.layer_ast.specs.Tree.{FileTree}
use Rattle.layer_mean.specs.Tree.{LayerTree}
use Rattle.layer_mean.specs.declared.run.Case.{Case}
use Rattle.layer_mean.specs.declared.run.Case.TheVariants.{First, Second}
use Rattle.miss_mean.specs.Spots.{Spot}
use Rattle.miss_mean.specs.Text.{drawn_spots}
use Rattle.shape_core.specs.Cases.{CaseShapes}
use Rattle.stack_mean.specs.NoShape.{NoShape}
use Rattle.stack_mean.specs.Shape.{Shape}

-- The shape in a case, or why there is none.
abbrev pub drawn_in : Case → CaseShapes → Result Shape NoShape
drawn_in First shapes = shapes.first
drawn_in Second shapes = shapes.second

abbrev pub kept_spots : Case → FileTree → List LayerTree → Option CaseShapes → List Spot
kept_spots case file stack shapes = option_map_or (λ s. drawn_spots case file stack (drawn_in case s)) shapes []
