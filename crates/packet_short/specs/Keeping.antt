-- Fields that are kept of a packet, of those that its plan leaves variable.
use Rattle.std.specs.Prelude.{◌≡◌, ℕ, ◌≤◌, Bool, true, false, List, [], length, slice_get, Option, option_and_then}
use Rattle.std.specs.Option.{option_map_or}
use Rattle.packet_mean.specs.Plan.{variable}
use Rattle.stack_mean.specs.Plan.{Plan}

-- The fields of a packet that the plan of a number leaves variable; none where there is no plan.
abbrev pub kept_by : List Plan → (number : Option ℕ) → (fields : List ℕ) → List ℕ
kept_by plans number fields =
    variable (option_map_or (λ plan. plan.fields) (option_and_then (λ k. slice_get plans k) number) []) fields

-- A plan has `most` fields at most.
abbrev pub HasAtMost : ℕ → Plan → Type 0
HasAtMost most plan = length plan.fields ≤ most

-- If so, these are kept.
abbrev pub KeepsIf : Bool → (fields kept : List ℕ) → Type 0
KeepsIf true fields kept = kept ≡ fields
KeepsIf false fields kept = Unit {0}
