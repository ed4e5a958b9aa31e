-- Where the plans of an application's own events begin.
use Rattle.std.specs.Prelude.{ℕ, ◌≤◌, List, [], ◌∷◌, map, length, Option, Some, None}
use Rattle.layer_mean.specs.declared.run.Case.{Case}
use Rattle.layer_mean.specs.declared.run.Case.TheVariants.{First, Second}
use Rattle.layer_mean.specs.Tree.{LayerTree}
use Rattle.stack_mean.specs.Acceptance.{weight_limit}
use Rattle.stack_mean.specs.Plans.{outs_of, plans_before}
use Rattle.shape_core.specs.Cases.{CaseShapes}
use Rattle.stack_shapes.specs.declared.entry.EntryOf.{EntryOf}
use Rattle.stack_shapes.specs.declared.entry.EntryOf.TheVariants as entry
use Rattle.stack_shapes.specs.declared.starts.PlanStarts.{PlanStarts}

-- The number of the first plan of each group: of a cast and a send in the first case, then of both in the second.
abbrev pub starts_of : List LayerTree → List ℕ
starts_of stack = map (plans_before stack) (0 ∷ 1 ∷ 2 ∷ 3 ∷ [])

abbrev pub starts_tree : PlanStarts → List ℕ
starts_tree s = 0 ∷ s.first_send ∷ s.second_cast ∷ s.second_send ∷ []

-- How many groups stand before the group of an entry in a case; only an application's own events have a group.
abbrev pub groups_for : EntryOf → Case → Option ℕ
groups_for entry.Cast First = Some 0
groups_for entry.Send First = Some 1
groups_for entry.Cast Second = Some 2
groups_for entry.Send Second = Some 3
groups_for _ case = None

-- Shapes have no more outputs than a run of an accepted stack has turns.
abbrev pub HaveFewOuts : CaseShapes → Type 0
HaveFewOuts shapes = (length (outs_of shapes.first) ≤ weight_limit) × (length (outs_of shapes.second) ≤ weight_limit)
