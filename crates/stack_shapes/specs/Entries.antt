-- Whether a step is common, told by its entry and by how its run went.
use Rattle.std.specs.Prelude.{◌≡◌, ℕ, Bool, false, ◌&&◌, ◌||◌, List, slice_get, Option, Some, None}
use Rattle.std.specs.Option.{option_map_or}
use Rattle.std.specs.Result.{is_ok}
use Rattle.layer_mean.specs.declared.run.Case.TheVariants.{First, Second}
use Rattle.layer_mean.specs.Queue.{is_predicted}
use Rattle.layer_mean.specs.Tree.{LayerTree}
use Rattle.packet_mean.specs.Plan.{least_fit}
use Rattle.stack_mean.specs.Plan.{Plan}
use Rattle.run_mean.specs.Common.{is_common}
use Rattle.run_mean.specs.Member.{Entered, app_cast, app_send, app_leave, clock_tick, from_peer, Step}
use Rattle.shape_core.specs.Cases.{CaseShapes}
use Rattle.stack_shapes.specs.Shapes.{ShortShapes, short_shapes}
use Rattle.stack_shapes.specs.declared.entry.EntryOf.{EntryOf}
use Rattle.stack_shapes.specs.declared.entry.EntryOf.TheVariants as entry

-- The entry of a step, by what it entered as: for a packet the least plan that it fits, if there is one.
abbrev pub planned_entry : Option ℕ → EntryOf
planned_entry (Some number) = entry.Plan number
planned_entry None = entry.None

abbrev pub entry_for : List Plan → Entered → EntryOf
entry_for plans (app_cast body) = entry.Cast
entry_for plans (app_send to body) = entry.Send
entry_for plans (from_peer packet) = planned_entry (least_fit plans packet)
entry_for plans app_leave = entry.None
entry_for plans (clock_tick moment) = entry.None

-- The shapes of an entry, if there is such an entry.
abbrev pub shapes_at : ShortShapes → EntryOf → Option CaseShapes
shapes_at shapes entry.Cast = Some shapes.cast
shapes_at shapes entry.Send = Some shapes.send
shapes_at shapes (entry.Plan number) = slice_get shapes.plans number
shapes_at shapes entry.None = None

-- Whether there is a case in which an entry has a shape and all went as predicted.
abbrev pub has_case : CaseShapes → (first second : Bool) → Bool
has_case shapes first second = (first && is_ok shapes.first) || (second && is_ok shapes.second)

abbrev pub common_by : Option CaseShapes → (first second : Bool) → Bool
common_by shapes first second = option_map_or (λ s. has_case s first second) shapes false

-- A step is common where its entry has such a case.
abbrev pub EntriesTellCommon : Type 0
EntriesTellCommon = (stack : List LayerTree) (plans : List Plan) (s : Step) →
    common_by (shapes_at (short_shapes stack plans) (entry_for plans s.entered)) (is_predicted First s.work)
    (is_predicted Second s.work) ≡ is_common stack plans s
