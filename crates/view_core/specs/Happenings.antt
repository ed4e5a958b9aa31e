-- What an event of a script gave in a mode, and how it is told.
use Rattle.std.specs.Prelude.{◌≡◌, ℕ, ◌+◌, Bool, List, [], Option}
use Rattle.run_mean.specs.Mode.{Mode}
use Rattle.layer_mean.specs.Tree.{LayerTree}
use Rattle.stack_mean.specs.Plan.{Plan}
use Rattle.run_mean.specs.Common.{as_sent, is_common}
use Rattle.run_mean.specs.Member as member
use Rattle.run_mean.specs.Member.{Output, Step}
use Rattle.run_mean.specs.Report.{visit_count}
use Rattle.run_mean.specs.World as world
use Rattle.view_core.specs.Refusals.{refusal_meant}
use Rattle.view_core.specs.Steps.{installed_change}
use Rattle.view_core.specs.declared.refusal.Refusal.{Refusal}
use Rattle.view_core.specs.declared.step.Change.{Change}
use Rattle.view_core.specs.declared.step.Did.{Did}
use Rattle.view_core.specs.declared.step.Did.TheVariants.{Stepped, Absent, Shown}
use Rattle.view_core.specs.declared.step.Stepped.TheVariants.{Taken, Refused}

-- Nothing came out, and no layer was visited.
pub record IsQuiet (outs : List (Output × Option ℕ)) (before after : ℕ) : Type 0 where
  pub outs_are : outs ≡ []
  pub visits_are : after ≡ before

-- A step that was taken in a mode is told: its outputs in order, each with the plan under which it is sent short in
-- this mode, if it is, whether it was common, where the member is then if it installed something, and the visits that
-- it counts for in this mode, on top of those before.
pub record IsTaken (mode : Mode) (stack : List LayerTree) (plans : List Plan) (s : Step)
    (outs : List (Output × Option ℕ)) (before after : ℕ)
    (common : Bool) (change : Option Change) : Type 0 where
  pub outs_are : outs ≡ as_sent mode stack plans s
  pub common_is : common ≡ is_common stack plans s
  pub change_is : change ≡ installed_change s.installs
  pub visits_are : after ≡ before + visit_count mode stack plans s

-- A refusal is told by its cause.
pub record IsRefused (r : member.Refusal) (outs : List (Output × Option ℕ)) (before after : ℕ) (told : Refusal) : Type 0
  where
    pub cause_is : r ≡ refusal_meant told
    pub quiet : IsQuiet outs before after

-- What an event gave in a mode is told so: by an answer, by outputs, and by the number of visits before it and
-- after it.
abbrev pub DidIs : Mode → List LayerTree → List Plan → world.Did → List (Output × Option ℕ) → ℕ → ℕ → Did → Type 0
DidIs mode stack plans (world.taken s) outs before after (Stepped (Taken common change)) =
    IsTaken mode stack plans s outs before after common change
DidIs mode stack plans (world.refused r) outs before after (Stepped (Refused told)) = IsRefused r outs before after told
DidIs mode stack plans world.absent outs before after Absent = IsQuiet outs before after
DidIs mode stack plans world.shown outs before after Shown = IsQuiet outs before after
DidIs mode stack plans _ outs before after _ = ⊥
