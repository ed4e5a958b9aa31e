-- What a step lacked may be told.
use Rattle.std.proofs.Common.{◌≡◌, ℕ, Bool, true, false, nat_le, if◌then◌else◌, List, slice_get, Option, Some, None}
use Rattle.std.proofs.Common.{option_map, unwrap_or, refl, ap, subst, ◌∙◌}
use Rattle.std.specs.Option.{option_and_then, option_map_or}
use Rattle.std.specs.Prelude.{Result, Ok, Err}
use Rattle.layer_mean.specs.Tree.{LayerTree}
use Rattle.layer_mean.specs.declared.run.Case.{Case}
use Rattle.layer_mean.specs.declared.run.Case.TheVariants.{First, Second}
use Rattle.lack_mean.specs.Lacks as lacks
use Rattle.lack_mean.specs.Lacks.{absent, missed, Entry, Miss, entry_named, lack_of, first_lack, second_lack}
use Rattle.lack_mean.specs.Lacks.{miss_by, miss_of}
use Rattle.miss_mean.specs.Text.{known_at}
use Rattle.packet_mean.specs.Plan.{least_fit}
use Rattle.run_mean.specs.Common.{entry_of, is_common, is_short, longest_shape, plan_entry}
use Rattle.run_mean.specs.Member.{Entered, app_cast, app_send, app_leave, clock_tick, from_peer, Step}
use Rattle.stack_mean.specs.NoShape as no_shape
use Rattle.stack_mean.specs.NoShape.{NoShape}
use Rattle.stack_mean.specs.Plan.{Plan}
use Rattle.stack_mean.specs.Shape.{Known, Shape, has_second_case, shape}
use Rattle.miss_explain.specs.Told.{HasShape, HaveShape, IsTold}

module _ (stack : List LayerTree) (plans : List Plan) (s : Step) where
  -- a case in which a step lacked a decision has a shape that isn't too long
  case_told : (case : Case) (known : Known) → HasShape stack case (Some known) (lack_of case s (shape stack known case))
  case_told case known = go (shape stack known case) refl where
    within : (b : Bool) (k : ℕ) → (b ≡ true → is_short (shape stack known case) ≡ true) →
        HasShape stack case (Some known) (if b then missed k else absent no_shape.long)
    within true k short = short refl
    within false k short = tt

    go : (r : Result Shape NoShape) → shape stack known case ≡ r → HasShape stack case (Some known) (lack_of case s r)
    go (Err reason) is = tt
    go (Ok x) is = within (nat_le x.length longest_shape) _ (λ short. ap is_short is ∙ short)

  first_told : (known : Option Known) → HasShape stack First known (first_lack stack s known)
  first_told None = tt
  first_told (Some known) = case_told First known

  second_told : (known : Option Known) → HaveShape stack Second known (option_and_then (second_lack stack s) known)
  second_told None = tt
  second_told (Some known) = go (has_second_case stack known) where
    go : (b : Bool) → HaveShape stack Second (Some known)
        (if b then Some (lack_of Second s (shape stack known Second)) else None)
    go true = case_told Second known
    go false = tt

  made_told : (e : Entry) → IsTold stack plans (miss_by stack s (known_at plans e) e)
  made_told e = record { first = first_told (known_at plans e); second = second_told (known_at plans e) }

  -- what is made of an entry, and of what entered
  entry_told : (m : Miss) (e : Entry) → Some (miss_by stack s (known_at plans e) e) ≡ Some m → IsTold stack plans m
  entry_told m e is = subst (IsTold stack plans) (ap (λ o. unwrap_or o m) is) (made_told e)

  entered_told : (m : Miss) (what : Entered) →
      option_map (miss_by stack s (entry_of plans what)) (entry_named plans what) ≡ Some m → IsTold stack plans m
  entered_told m (app_cast body) is = entry_told m lacks.cast is
  entered_told m (app_send to body) is = entry_told m lacks.send is
  entered_told m (from_peer p) is = go (least_fit plans p) is where
    go : (o : Option ℕ) →
        option_map (miss_by stack s (option_and_then (λ k. option_map plan_entry (slice_get plans k)) o))
        (Some (option_map_or lacks.plan o lacks.none)) ≡ Some m → IsTold stack plans m
    go None is = entry_told m lacks.none is
    go (Some k) is = entry_told m (lacks.plan k) is
  entered_told m app_leave is = absurd (cc is)
  entered_told m (clock_tick moment) is = absurd (cc is)

  pub told : (m : Miss) → miss_of stack plans s ≡ Some m → IsTold stack plans m
  unfolding miss_of
  told m is = go (is_common stack plans s) is where
    go : (b : Bool) → (if b then None else option_map (miss_by stack s (entry_of plans s.entered))
        (entry_named plans s.entered)) ≡ Some m →
        IsTold stack plans m
    go true none = absurd (cc none)
    go false some = entered_told m s.entered some
