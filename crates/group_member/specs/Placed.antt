-- A member at its place in a group, and what one of its steps gives.
use Rattle.std.specs.Prelude.{◌≡◌, ℕ, ◌+◌, Bool, List, [], Option, Result, Ok, Err}
use Rattle.slot_pool.specs.Held.{Held}
use Rattle.msg_core.specs.declared.packet.View.{View}
use Rattle.layer_mean.specs.State.{State}
use Rattle.layer_mean.specs.Tree.{LayerTree}
use Rattle.stack_mean.specs.Plan.{Plan}
use Rattle.packet_mean.specs.declared.here.Here.{Here}
use Rattle.run_mean.specs.Mode.{Mode}
use Rattle.run_mean.specs.Common.{is_common, as_sent}
use Rattle.run_mean.specs.Report.{visit_count}
use Rattle.run_mean.specs.Member.{Member, inside, out, Input, Refusal, is_out, Entered, entered_input, first_task}
use Rattle.run_mean.specs.Member.{Output}
use Rattle.run_mean.specs.Member.{Step, step_from, member_following}
use Rattle.stack_queue.specs.Taken.{taken_after}
use Rattle.view_core.specs.Refusals.{refusal_meant}
use Rattle.view_core.specs.Steps.{installed_change}
use Rattle.view_core.specs.declared.refusal.Refusal as refusal
use Rattle.view_core.specs.declared.step.Change.{Change}
use Rattle.view_core.specs.declared.step.Stepped.{Stepped}
use Rattle.view_core.specs.declared.step.Stepped.TheVariants.{Taken, Refused}
use Rattle.group_member.specs.After.{rank_of}
use Rattle.group_member.specs.Modes.{IsTakenSo}

-- A member of a group: its stack with the plans of it, the mode in which it runs, its group and stamp, its id, how many
-- members its first view had, and where it is; then the pool of its bodies, the slots to which the states of its layers
-- refer, and how many events each layer took.
pub record Placed : Type 0 where
  pub stack : List LayerTree
  pub plans : List Plan
  pub mode : Mode
  pub group : ℕ
  pub stamp : ℕ
  pub id : ℕ
  pub most : ℕ
  pub member : Member
  pub pool : List Held
  pub refs : List ℕ
  pub taken : List ℕ

-- Where it stands in a view.
abbrev pub here_in : Placed → View → Here
here_in p view = record { group = p.group; stamp = p.stamp; view = view; rank = rank_of view p.id }

-- The step of a member in a view, from what entered.
abbrev pub step_in : Placed → View → List State → Result Entered Refusal → Result Step Refusal
step_in p view states (Ok what) = Ok (step_from p.stack (here_in p view) p.id states what)
step_in p view states (Err reason) = Err reason

-- The step of a placed member on an input, or why there is none.
abbrev pub step_at : Placed → Member → Input → Result Step Refusal
step_at p out input = Err is_out
step_at p (inside view states) input = step_in p view states (entered_input p.stack p.plans (here_in p view) input)

abbrev pub step_of : Placed → Input → Result Step Refusal
step_of p input = step_at p p.member input

-- The member after a step that was taken.
abbrev pub member_after : Member → Step → Member
member_after out s = out
member_after (inside view states) s = member_following view s

-- How many events each layer of a placed member has taken after the run of what entered.
abbrev pub taken_at : Placed → Member → Entered → List ℕ
taken_at p out what = p.taken
taken_at p (inside view states) what = taken_after p.stack states (first_task p.stack (here_in p view).rank what)
    p.taken

-- The stack, the plans, the mode, the group, the stamp, the id and `most` stay. Where the member is, its pool, the
-- slots to which its layers refer and the counts of events that they took may change.
pub record SamePlace (old new : Placed) : Type 0 where
  pub stack : new.stack ≡ old.stack
  pub plans : new.plans ≡ old.plans
  pub mode : new.mode ≡ old.mode
  pub group : new.group ≡ old.group
  pub stamp : new.stamp ≡ old.stamp
  pub id : new.id ≡ old.id
  pub most : new.most ≡ old.most

-- An input was refused for this reason: nothing changed, nothing came out, and no layer was visited.
pub record Refuses (old : Placed) (input : Input) (new : Placed) (outs : List (Output × Option ℕ)) (before after : ℕ)
    (reason : refusal.Refusal) : Type 0 where
  pub why : step_of old input ≡ Err (refusal_meant reason)
  pub same : new ≡ old
  pub none : outs ≡ []
  pub visits : after ≡ before

-- An input was taken: the member is where the step leaves it, the outputs are those that the step sends in the member's
-- mode, and the visits grew by what the step counts for in that mode. The answer tells whether the step was a common
-- one, and where the member is now, if it installed something. In bypass mode a common step was no event to any layer;
-- after any other step each layer has taken what the run of the step gives.
pub record Takes (old : Placed) (input : Input) (new : Placed) (outs : List (Output × Option ℕ)) (before after : ℕ)
    (common : Bool)
    (change : Option Change) : Type 0 where
  pub step : Step
  pub is : step_of old input ≡ Ok step
  pub member : new.member ≡ member_after old.member step
  pub outputs : outs ≡ as_sent old.mode old.stack old.plans step
  pub common_is : common ≡ is_common old.stack old.plans step
  pub change_is : change ≡ installed_change step.installs
  pub visits : after ≡ before + visit_count old.mode old.stack old.plans step
  pub taken_is : IsTakenSo old.mode (is_common old.stack old.plans step) old.taken
      (taken_at old old.member step.entered) new.taken
  pub place : SamePlace old new

-- What a step of a member gives: its outputs, each with the plan under which it is sent short, if any, and the number
-- of visits before and after the step.
abbrev pub Steps : Placed → Input → Placed → List (Output × Option ℕ) → (before after : ℕ) → Stepped → Type 0
Steps old input new outs before after (Taken common change) = Takes old input new outs before after common change
Steps old input new outs before after (Refused reason) = Refuses old input new outs before after reason

-- The outputs of a step that was taken are told from where the member stood.
abbrev pub StandsIn : Placed → Member → Here → Type 0
StandsIn p out here = Unit {0}
StandsIn p (inside view states) here = here ≡ here_in p view

abbrev pub StandsAt : Placed → Here → Stepped → Type 0
StandsAt p here (Taken common change) = StandsIn p p.member here
StandsAt p here (Refused reason) = Unit {0}
