-- What entered is tried as a common step, over what a member works with.
use Rattle.std.specs.Prelude.{◌≡◌, true, [], Option}
use Rattle.run_mean.specs.Member.{Entered}
use Rattle.step_misses.specs.declared.miss.Miss.{Miss}
use Rattle.step_outputs.specs.Gathered.{Gathered}
use Rattle.group_member.specs.Probing.{Lacks}
use Rattle.group_member.specs.Stepping.{stack_of, plans_in, step_over, HasTaken}
use Rattle.group_member.specs.Viewing.{IsIn}
use Rattle.group_member.specs.Working.{states_in, AreSame, IsReady}
use Rattle.group_member.specs.declared.ground.Ground.{Ground}
use Rattle.group_member.specs.declared.probes.Attempt.{Attempt}
use Rattle.group_member.specs.declared.probes.Attempt.TheVariants.{Made, Left}
use Rattle.group_member.specs.declared.works.Works.{Works}

-- The step isn't common: nothing has changed, and nothing came out.
pub record IsNotMade (g : Ground) (old : Works) (what : Entered) (new : Works) (out : Gathered) (miss : Option Miss) :
    Type 0 where
  pub same : AreSame old new
  pub ready : IsReady (stack_of g) g.most new
  pub at : IsIn (stack_of g) g.most g.here.now.view g.id (states_in new)
  pub none : out.outputs ≡ []
  pub lacks : Lacks (stack_of g) (plans_in g) (step_over g (states_in old) what) miss

-- The step was made as a common one, and no visit is counted; or it wasn't.
abbrev pub Attempts : Ground → Works → Entered → Works → Gathered → Attempt → Type 0
Attempts g old what new out (Made change) = HasTaken g old what new out 0 0 (record { common = true; change = change })
Attempts g old what new out (Left miss) = IsNotMade g old what new out miss
