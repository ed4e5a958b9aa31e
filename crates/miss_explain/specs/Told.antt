-- What may be told of a step: what it lacked, as its entry has it.
use Rattle.std.specs.Prelude.{◌≡◌, true, List, Option, Some, None}
use Rattle.layer_mean.specs.Tree.{LayerTree}
use Rattle.layer_mean.specs.declared.run.Case.{Case}
use Rattle.layer_mean.specs.declared.run.Case.TheVariants.{First, Second}
use Rattle.lack_mean.specs.Lacks.{Lack, missed, Miss}
use Rattle.miss_mean.specs.Text.{known_at}
use Rattle.run_mean.specs.Common.{is_short}
use Rattle.stack_mean.specs.Plan.{Plan}
use Rattle.stack_mean.specs.Shape.{Known, shape}

-- A case that is told to lack a decision has a shape that isn't too long.
abbrev pub HasShape : List LayerTree → Case → Option Known → Lack → Type 0
HasShape stack case (Some known) (missed decision) = is_short (shape stack known case) ≡ true
HasShape stack case _ _ = Unit {0}

-- A case that may not be made has a shape that isn't too long, if it is told to lack a decision.
abbrev pub HaveShape : List LayerTree → Case → Option Known → Option Lack → Type 0
HaveShape stack case known (Some lack) = HasShape stack case known lack
HaveShape stack case known None = Unit {0}

pub record IsTold (stack : List LayerTree) (plans : List Plan) (m : Miss) : Type 0 where
  pub first : HasShape stack First (known_at plans m.entry) m.first
  pub second : HaveShape stack Second (known_at plans m.entry) m.second
