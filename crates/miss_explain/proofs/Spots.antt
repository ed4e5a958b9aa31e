-- The shapes that are kept of an entry tell where a decision stands that is told.
use Rattle.std.proofs.Common.{◌≡◌, ℕ, true, if◌then◌else◌, List, [], slice_get, Option, Some, None, option_map, refl}
use Rattle.std.proofs.Common.{sym, ap, subst, ◌∙◌}
use Rattle.std.proofs.lemmas.Option.{slice_get-map}
use Rattle.std.specs.Option.{option_map_or}
use Rattle.std.specs.Prelude.{Result, Ok, Err}
use Rattle.layer_ast.specs.Tree.{FileTree}
use Rattle.layer_mean.specs.Tree.{LayerTree}
use Rattle.layer_mean.specs.declared.run.Case.{Case}
use Rattle.layer_mean.specs.declared.run.Case.TheVariants.{First, Second}
use Rattle.lack_mean.specs.Lacks.{missed}
use Rattle.miss_mean.specs.Text.{drawn_spots, entry_spots, known_at, lack_text, spot_text}
use Rattle.run_mean.specs.Common.{is_short, plan_entry}
use Rattle.stack_mean.specs.NoShape as no_shape
use Rattle.stack_mean.specs.NoShape.{NoShape}
use Rattle.stack_mean.specs.Plan.{Plan}
use Rattle.stack_mean.specs.Shape.{Known, Shape, app_cast, app_send, shape}
use Rattle.stack_shapes.specs.Entries.{shapes_at}
use Rattle.stack_shapes.specs.Shapes.{ShortShapes, kept_shapes, limited, plan_shapes, short_shapes}
use Rattle.stack_shapes.specs.declared.entry.EntryOf.{EntryOf}
use Rattle.stack_shapes.specs.declared.entry.EntryOf.TheVariants as entry
use Rattle.step_misses.specs.Misses.{entry_meant, lack_meant}
use Rattle.step_misses.specs.declared.miss.Lack.{Lack}
use Rattle.step_misses.specs.declared.miss.Lack.TheVariants.{Check}
use Rattle.miss_explain.specs.Kept.{drawn_in, kept_spots}
use Rattle.miss_explain.specs.Spot.{spot_tree}
use Rattle.miss_explain.specs.Told.{HasShape}
use Rattle.miss_explain.specs.declared.spot.Spot.{Spot}

-- a shape that isn't too long is kept
limited_short : (s : Result Shape NoShape) → is_short s ≡ true → limited s ≡ s
limited_short (Ok s) short = ap (λ b. if b then Ok s else Err no_shape.long) short
limited_short (Err reason) short = refl

kept_in : (case : Case) (stack : List LayerTree) (known : Known) → drawn_in case (kept_shapes stack known) ≡
    limited (shape stack known case)
kept_in First stack known = refl
kept_in Second stack known = refl

module _ (case : Case) (file : FileTree) (stack : List LayerTree) where
  spots_of : (known : Known) → is_short (shape stack known case) ≡ true →
      drawn_spots case file stack (drawn_in case (kept_shapes stack known)) ≡
      drawn_spots case file stack (shape stack known case)
  spots_of known short =
      ap (drawn_spots case file stack) (kept_in case stack known ∙ limited_short (shape stack known case) short)

  planned : (o : Option Plan) (k : ℕ) → HasShape stack case (option_map plan_entry o) (missed k) →
      kept_spots case file stack (option_map (plan_shapes stack) o) ≡
      entry_spots case file stack (option_map plan_entry o)
  planned None k short = refl
  planned (Some plan) k short = spots_of (plan_entry plan) short

  spots_kept : (plans : List Plan) (e : EntryOf) (k : ℕ) →
      HasShape stack case (known_at plans (entry_meant e)) (missed k) →
      kept_spots case file stack (shapes_at (short_shapes stack plans) e) ≡
      entry_spots case file stack (known_at plans (entry_meant e))
  spots_kept plans entry.Cast k short = spots_of app_cast short
  spots_kept plans entry.Send k short = spots_of app_send short
  spots_kept plans (entry.Plan n) k short =
      ap (kept_spots case file stack) (slice_get-map (plan_shapes stack) plans n) ∙ planned (slice_get plans n) k short
  spots_kept plans entry.None k short = refl

  -- the words of a decision that is found
  pub told_text : (plans : List Plan) (entries : ShortShapes) (e : EntryOf) (lack : Lack) (k : ℕ) (o : Option Spot) →
      entries ≡ short_shapes stack plans →
      lack ≡ Check k → HasShape stack case (known_at plans (entry_meant e)) (lack_meant lack) →
      option_map spot_tree o ≡ slice_get (kept_spots case file stack (shapes_at entries e)) k →
      option_map_or (spot_text stack) (option_map spot_tree o) [] ≡
      lack_text stack (entry_spots case file stack (known_at plans (entry_meant e))) (lack_meant lack)
  told_text plans entries e lack k o same is told found =
      let short : HasShape stack case (known_at plans (entry_meant e)) (missed k) =
      subst (λ l. HasShape stack case (known_at plans (entry_meant e)) (lack_meant l)) is told in
      ap (λ x. option_map_or (spot_text stack) x [])
      (found ∙ ap (λ x. slice_get (kept_spots case file stack (shapes_at x e)) k) same ∙
      ap (λ spots. slice_get spots k) (spots_kept plans e k short))
      ∙ ap (λ l. lack_text stack (entry_spots case file stack (known_at plans (entry_meant e))) (lack_meant l)) (sym is)
