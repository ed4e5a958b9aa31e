-- The shapes of an entry in each case.
use Rattle.std.specs.Prelude.{List, Result, Ok, Err}
use Rattle.layer_mean.specs.declared.run.Case.TheVariants.{First, Second}
use Rattle.layer_mean.specs.Tree.{LayerTree}
use Rattle.stack_mean.specs.NoShape as no_shape
use Rattle.stack_mean.specs.Shape.{Known, Shape, shape}
use Rattle.shape_core.specs.declared.absent.Absent.{Absent}
use Rattle.shape_core.specs.declared.absent.Absent.TheVariants.{Loop, Rare, Stored, Long, Same}
use Rattle.shape_core.specs.declared.types.Shape as code
use Rattle.shape_core.specs.declared.types.CaseShapes as code_cases
use Rattle.shape_core.specs.Answer.{held_answer}
use Rattle.shape_core.specs.Sketch.{shape_tree}

abbrev pub reason_tree : Absent → no_shape.NoShape
reason_tree (Loop place) = no_shape.loop place
reason_tree (Rare place) = no_shape.rare place
reason_tree (Stored place) = no_shape.stored place
reason_tree Long = no_shape.long
reason_tree Same = no_shape.same

abbrev pub drawn_tree : Result code.Shape Absent → Result Shape no_shape.NoShape
drawn_tree (Ok s) = Ok (shape_tree s)
drawn_tree (Err reason) = Err (reason_tree reason)

-- The shape in each case, or the first reason for which there is none.
pub record CaseShapes : Type 0 where
  pub first : Result Shape no_shape.NoShape
  pub second : Result Shape no_shape.NoShape

abbrev pub case_trees : code_cases.CaseShapes → CaseShapes
case_trees shapes = record { first = drawn_tree shapes.first; second = drawn_tree shapes.second }

-- Those of an entry, their lengths held within 32 bits.
abbrev pub shapes_of : List LayerTree → Known → CaseShapes
shapes_of stack known =
    record { first = held_answer (shape stack known First); second = held_answer (shape stack known Second) }
