-- What trying an input of a member as a common step gives.
use Rattle.std.specs.Prelude.{◌≡◌, ℕ, true, false, List, [], Option, Some, None, option_map, Result, Ok, Err}
use Rattle.layer_mean.specs.Tree.{LayerTree}
use Rattle.stack_mean.specs.Plan.{Plan}
use Rattle.packet_mean.specs.declared.here.Here.{Here}
use Rattle.run_mean.specs.Common.{is_common}
use Rattle.run_mean.specs.Member.{Input, Output, Refusal, Step}
use Rattle.lack_mean.specs.Lacks.{miss_of}
use Rattle.step_misses.specs.Misses.{miss_meant}
use Rattle.step_misses.specs.declared.miss.Miss.{Miss}
use Rattle.step_misses.specs.declared.miss.Probed.{Probed}
use Rattle.step_misses.specs.declared.miss.Probed.TheVariants.{Common, Other, Missed}
use Rattle.view_core.specs.declared.step.Change.{Change}
use Rattle.group_member.specs.Placed.{Placed, step_of, StandsIn, Takes}

-- The input is a common step, which was made: the member is where the step leaves it, and what came out is told. No
-- visit is counted.
pub record IsTakenAsCommon (old : Placed) (input : Input) (new : Placed) (outs : List (Output × Option ℕ)) : Type 0
  where
    pub change : Option Change
    pub takes : Takes old input new outs 0 0 true change

-- A step isn't common, and lacks this, if what it lacks is told.
pub record Lacks (stack : List LayerTree) (plans : List Plan) (s : Step) (miss : Option Miss) : Type 0 where
  pub uncommon : is_common stack plans s ≡ false
  pub lacked : miss_of stack plans s ≡ option_map miss_meant miss

-- What an input lacks to be a common step. A refused input has no step, and nothing is told of it.
abbrev pub InputLacks : List LayerTree → List Plan → Result Step Refusal → Option Miss → Type 0
InputLacks stack plans (Ok s) miss = Lacks stack plans s miss
InputLacks stack plans (Err reason) miss = miss ≡ None

-- The input isn't a common step: nothing changed, and nothing came out.
pub record IsNotTaken (old : Placed) (input : Input) (new : Placed) (outs : List (Output × Option ℕ))
    (miss : Option Miss) : Type 0 where
  pub same : new ≡ old
  pub none : outs ≡ []
  pub lacks : InputLacks old.stack old.plans (step_of old input) miss

abbrev pub ProbesMember : Placed → Input → Placed → List (Output × Option ℕ) → Probed → Type 0
ProbesMember old input new outs Common = IsTakenAsCommon old input new outs
ProbesMember old input new outs Other = IsNotTaken old input new outs None
ProbesMember old input new outs (Missed miss) = IsNotTaken old input new outs (Some miss)

-- The outputs of a common step are told from where the member stood.
abbrev pub StandsWhere : Placed → Here → Probed → Type 0
StandsWhere p here Common = StandsIn p p.member here
StandsWhere p here _ = Unit {0}
