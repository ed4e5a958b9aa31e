-- The shapes of a stack's entries that aren't too long to be common.
use Rattle.std.specs.Prelude.{List, map, nat_le, if◌then◌else◌, Result, Ok, Err}
use Rattle.layer_mean.specs.Tree.{LayerTree}
use Rattle.stack_mean.specs.NoShape.{NoShape}
use Rattle.stack_mean.specs.NoShape as no_shape
use Rattle.stack_mean.specs.Plan.{Plan}
use Rattle.stack_mean.specs.Shape.{Known, Shape, app_cast, app_send, shape}
use Rattle.layer_mean.specs.declared.run.Case.TheVariants.{First, Second}
use Rattle.run_mean.specs.Common.{plan_entry, longest_shape}
use Rattle.shape_core.specs.Cases.{CaseShapes}

-- A shape that is too long counts as none.
abbrev pub limited : Result Shape NoShape → Result Shape NoShape
limited (Ok s) = if nat_le s.length longest_shape then Ok s else Err no_shape.long
limited (Err reason) = Err reason

abbrev pub limited_cases : CaseShapes → CaseShapes
limited_cases shapes = record { first = limited shapes.first; second = limited shapes.second }

-- The shapes of an entry that aren't too long, in each case, or why there is none.
abbrev pub kept_shapes : List LayerTree → Known → CaseShapes
kept_shapes stack known =
    record { first = limited (shape stack known First); second = limited (shape stack known Second) }

-- The shapes of an application's cast, of its send, and of the packets of each plan.
pub record ShortShapes : Type 0 where
  pub cast : CaseShapes
  pub send : CaseShapes
  pub plans : List CaseShapes

abbrev pub plan_shapes : List LayerTree → Plan → CaseShapes
plan_shapes stack plan = kept_shapes stack (plan_entry plan)

abbrev pub short_shapes : List LayerTree → List Plan → ShortShapes
short_shapes stack plans =
    record {
      cast = kept_shapes stack app_cast;
      send = kept_shapes stack app_send;
      plans =
          map (plan_shapes stack) plans;
    }
