-- The shapes of a step's entry tell in which cases it may be common.
use Rattle.std.proofs.Common.{◌≡◌, ◌∙◌, ℕ, zero, suc, Bool, true, false, List, [], ◌∷◌, map, Option, Some, None, refl}
use Rattle.std.proofs.Common.{ap, ap₂}
use Rattle.std.specs.Prelude.{◌&&◌, ◌||◌, nat_le, if◌then◌else◌, is_some, option_map, option_and_then, slice_get}
use Rattle.std.specs.Prelude.{Result, Ok, Err}
use Rattle.std.specs.Option.{option_map_or}
use Rattle.std.specs.Result.{is_ok}
use Rattle.layer_mean.specs.declared.run.Case.{Case}
use Rattle.layer_mean.specs.declared.run.Case.TheVariants.{First, Second}
use Rattle.layer_mean.specs.Tree.{LayerTree}
use Rattle.layer_mean.specs.Queue.{is_predicted}
use Rattle.packet_mean.specs.Plan.{least_fit}
use Rattle.stack_mean.specs.NoShape.{NoShape}
use Rattle.stack_mean.specs.NoShape as no_shape
use Rattle.stack_mean.specs.Plan.{Plan}
use Rattle.stack_mean.specs.Shape.{Known, Shape, shape}
use Rattle.stack_mean.specs.Shape as entry
use Rattle.run_mean.specs.Common.{plan_entry, entry_of, is_short, is_common_in, is_common}
use Rattle.run_mean.specs.Member.{Entered, app_cast, app_send, app_leave, clock_tick, from_peer, Step}
use Rattle.stack_shapes.specs.declared.entry.EntryOf.{EntryOf}
use Rattle.shape_core.specs.Cases.{CaseShapes}
use Rattle.stack_shapes.specs.Shapes.{ShortShapes, limited, kept_shapes, plan_shapes, short_shapes}
use Rattle.stack_shapes.specs.Entries.{planned_entry, entry_for, shapes_at, common_by, EntriesTellCommon}

-- a shape is kept exactly where it is short enough
short_is_kept : (drawn : Result Shape NoShape) → is_ok (limited drawn) ≡ is_short drawn
short_is_kept (Ok s) = go (nat_le s.length 4096) where
  go : (b : Bool) → is_ok (if b then Ok s else Err no_shape.long) ≡ b
  go true = refl
  go false = refl
short_is_kept (Err reason) = refl

-- whether there is a shape in a case
abbrev in_case : Case → CaseShapes → Bool
in_case First shapes = is_ok shapes.first
in_case Second shapes = is_ok shapes.second

abbrev there_in : Case → Option CaseShapes → Bool
there_in case shapes = option_map_or (in_case case) shapes false

kept_in : (stack : List LayerTree) (known : Known) (case : Case) → in_case case (kept_shapes stack known) ≡
    is_short (shape stack known case)
kept_in stack known First = short_is_kept (shape stack known First)
kept_in stack known Second = short_is_kept (shape stack known Second)

both_in : (shapes : Option CaseShapes) (a b : Bool) →
    common_by shapes a b ≡ ((a && there_in First shapes) || (b && there_in Second shapes))
both_in (Some shapes) a b = refl
both_in None true true = refl
both_in None true false = refl
both_in None false true = refl
both_in None false false = refl

-- some case is the first or the second
some_case : (a b : Bool) → (a || b) ≡ is_some (if a then Some First else if b then Some Second else None)
some_case true b = refl
some_case false true = refl
some_case false false = refl

and_turned : (a b : Bool) → (a && b) ≡ (b && a)
and_turned true true = refl
and_turned true false = refl
and_turned false true = refl
and_turned false false = refl

module _ (stack : List LayerTree) (case : Case) where
  -- the plan of a number
  plan_told : (plans : List Plan) (k : ℕ) → there_in case (slice_get (map (plan_shapes stack) plans) k)
      ≡ option_map_or (λ known. is_short (shape stack known case)) (option_map plan_entry (slice_get plans k)) false
  plan_told [] k = refl
  plan_told (plan ∷ plans) zero = kept_in stack (plan_entry plan) case
  plan_told (plan ∷ plans) (suc k) = plan_told plans k

module _ (stack : List LayerTree) (plans : List Plan) where
  fit_told : (case : Case) (fit : Option ℕ) → there_in case (shapes_at (short_shapes stack plans) (planned_entry fit))
      ≡ option_map_or (λ known. is_short (shape stack known case))
      (option_and_then (λ k. option_map plan_entry (slice_get plans k)) fit) false
  fit_told case None = refl
  fit_told case (Some k) = plan_told stack case plans k

  entry_told : (case : Case) (what : Entered) →
      there_in case (shapes_at (short_shapes stack plans) (entry_for plans what))
      ≡ option_map_or (λ known. is_short (shape stack known case)) (entry_of plans what) false
  entry_told case (app_cast body) = kept_in stack entry.app_cast case
  entry_told case (app_send to body) = kept_in stack entry.app_send case
  entry_told case (from_peer p) = fit_told case (least_fit plans p)
  entry_told case app_leave = refl
  entry_told case (clock_tick moment) = refl

pub entries_tell_common : EntriesTellCommon
entries_tell_common stack plans s =
    both_in (shapes_at (short_shapes stack plans) (entry_for plans s.entered)) (is_predicted First s.work)
    (is_predicted Second s.work)
    ∙ ap₂ (λ a b. a || b)
    (and_turned (is_predicted First s.work) _ ∙
    ap (λ a. a && is_predicted First s.work) (entry_told stack plans First s.entered))
    (and_turned (is_predicted Second s.work) _ ∙
    ap (λ a. a && is_predicted Second s.work) (entry_told stack plans Second s.entered))
    ∙ some_case (is_common_in stack plans s First) (is_common_in stack plans s Second)

-- and so where the shapes, the entry and how the run went are given by equations
pub common_at : (shapes : ShortShapes) (e : EntryOf) (first second b : Bool) →
    b ≡ common_by (shapes_at shapes e) first second →
    (stack : List LayerTree) (plans : List Plan) (s : Step) → shapes ≡ short_shapes stack plans →
    e ≡ entry_for plans s.entered →
    first ≡ is_predicted First s.work → second ≡ is_predicted Second s.work → b ≡ is_common stack plans s
common_at shapes e first second b is stack plans s of_stack entered in_first in_second =
    is ∙ ap (λ x. common_by (shapes_at x e) first second) of_stack ∙
    ap (λ x. common_by (shapes_at (short_shapes stack plans) x) first second) entered
    ∙ ap₂ (common_by (shapes_at (short_shapes stack plans) (entry_for plans s.entered))) in_first in_second ∙
    entries_tell_common stack plans s
