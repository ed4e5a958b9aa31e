-- The cases that a file has to hold, read off what is made of a stack's entries.
use Rattle.std.specs.Prelude.{ℕ, suc, not, is_some, List, [], ◌∷◌, ◌++◌, map, Option, Some, None}
use Rattle.std.specs.List.{count_by}
use Rattle.std.specs.declared.alloc.Global.{Global}
use Rattle.std.specs.declared.vec.Vec.{Vec}
use Rattle.layer_mean.specs.declared.run.Case.{Case}
use Rattle.layer_mean.specs.declared.run.Case.TheVariants.{First, Second}
use Rattle.bypass_mean.specs.Bypasses.{Entry, Made, fused, absent}
use Rattle.pack_mean.specs.File.{Due}
use Rattle.stack_shapes.specs.declared.types.Plan.{Plan}
use Rattle.synth.specs.Cases.{MadeCases, cases_tree}
use Rattle.trace_core.specs.declared.bypass.Bypasses as code
use Rattle.trace_core.specs.declared.bypass.Cases.{Cases}

-- How many of some fields vary.
abbrev pub count_varying : List (Option ℕ) → ℕ
count_varying fields = count_by (λ field. not (is_some field)) fields

abbrev pub entry_varying : Entry → ℕ
entry_varying e = count_varying e.fields

abbrev pub plan_varying : Plan → ℕ
plan_varying plan = count_varying plan.fields.items

-- The case of an entry of this number, with n variable fields: due where something is made of it.
abbrev pub made_due : ℕ → ℕ → Case → Made → List Due
made_due n fields case (fused own guarded) = record { entry = n; case = case; fields = fields; own = own } ∷ []
made_due n fields case (absent reason) = []

abbrev pub second_due : ℕ → ℕ → Option Made → List Due
second_due n fields None = []
second_due n fields (Some own) = made_due n fields Second own

abbrev pub cases_due : ℕ → ℕ → MadeCases → List Due
cases_due n fields c = made_due n fields First c.first ++ second_due n fields c.second

-- Those of entries from a number on.
abbrev pub all_due : ℕ → List ℕ → List MadeCases → List Due
all_due n (fields ∷ more) (c ∷ cs) = cases_due n fields c ++ all_due (suc n) more cs
all_due n _ _ = []

-- What is made of plans' packets, and of all entries.
abbrev pub plans_cases : Vec Cases Global → List MadeCases
plans_cases plans = map cases_tree plans.items

abbrev pub all_cases : code.Bypasses → List MadeCases
all_cases b = map cases_tree (b.cast ∷ b.send ∷ b.plans.items)
