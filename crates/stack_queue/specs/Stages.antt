-- The stages of a stack.
use Rattle.std.specs.Prelude.{◌≡◌, ℕ, List, map, length}
use Rattle.std.specs.List.{AllByRecursion, range_with_len}
use Rattle.slot_pool.specs.Held.{Held}
use Rattle.layer_mean.specs.declared.run.Event.{Event}
use Rattle.layer_mean.specs.State.{State}
use Rattle.layer_mean.specs.Tree.{LayerTree}
use Rattle.layer_mean.specs.Queue.{Task, Line, Work, run}
use Rattle.stack_mean.specs.Acceptance.{weight_limit}

-- These stages are a stack's layers, each at its place, and in order in a pool.
pub record Stand {S : Type 0} (place : S → ℕ) (layer : S → LayerTree) (Ready : List Held → S → Type 0)
    (stack : List LayerTree) (p : List Held) (stages : List S) : Type 0 where
  pub places : map place stages ≡ range_with_len 0 (length stack)
  pub layers : map layer stages ≡ stack
  pub ready : AllByRecursion (Ready p) stages

-- The most references to one slot with which a run may begin.
abbrev pub most_at_first : ℕ
most_at_first = 1073741824

-- The run of a stack from one task, with as many turns as an accepted stack takes at most.
abbrev pub run_of : List LayerTree → List State → Task Event → Line Work Event
run_of stack states first = run weight_limit stack states first
