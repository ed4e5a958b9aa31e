-- What is asked of the entries of a stack to tell what a step lacked: the checks of their traces.
use Rattle.std.specs.Prelude.{ℕ, suc, List, map, slice_get, Option, Some, None, option_map}
use Rattle.std.specs.Option.{option_flatten, option_map_or}
use Rattle.layer_mean.specs.State.{State}
use Rattle.stack_mean.specs.NoShape.{NoShape}
use Rattle.trace_mean.specs.Worth.{Input}
use Rattle.guard_mean.specs.Hoist.{hoisted}
use Rattle.bypass_mean.specs.Bypasses.{Made, fused, absent, Bypasses}
use Rattle.guard_mean.specs.Checks.{Checks, checks_of, first_failing}
use Rattle.guard_laws.specs.LastCheck.{to_last_check}
use Rattle.lack_mean.specs.Lacks as lack
use Rattle.lack_mean.specs.Lacks.{Lack, Entry, cast, send, plan, none, Miss}

-- Of an entry in a case: the checks of its trace, for which it is hoisted up to the last of them, or why it has none.
pub data Asked : Type 0 where
  checks : Checks → Asked
  nothing : NoShape → Asked

abbrev pub asked_of : Made → Asked
asked_of (fused trace guarded) = checks (checks_of (hoisted (to_last_check trace)))
asked_of (absent reason) = nothing reason

-- What is asked of the entries, in their order: of each in its first case, and in its second, where that is made.
pub record AllAsked : Type 0 where
  pub made : List Asked
  pub second : List (Option Asked)

abbrev pub all_asked : Bypasses → AllAsked
all_asked b = record { made = map asked_of b.made; second = map (option_map asked_of) b.second }

-- What a case lacks if its checks aren't all passed.
abbrev pub lack_at : Input → List State → Asked → Lack
lack_at i states (checks c) = lack.missed (option_map_or (λ k. k) (first_failing i c states) 0)
lack_at i states (nothing reason) = lack.absent reason

-- The place of an entry among all.
abbrev pub entry_place : Entry → Option ℕ
entry_place cast = Some 0
entry_place send = Some 1
entry_place (plan k) = Some (suc (suc k))
entry_place none = None

-- What both cases of an entry lack; without an entry a plan is lacking.
abbrev pub lacks_at : AllAsked → Input → List State → Entry → Option ℕ → Miss
lacks_at all i states e None = record { entry = e; first = lack.no_plan; second = None }
lacks_at all i states e (Some place) = record {
  entry = e;
  first = option_map_or (lack_at i states) (slice_get all.made place) lack.no_plan;
  second = option_map (lack_at i states) (option_flatten (slice_get all.second place));
}

abbrev pub miss_asked : AllAsked → Entry → Input → List State → Miss
miss_asked all e i states = lacks_at all i states e (entry_place e)
