-- A step of a member in a view, over what it works with.
use Rattle.std.specs.Prelude.{◌≡◌, ℕ, ◌+◌, ◌≤◌, Bool, List, [], map, Option, None, option_map}
use Rattle.std.specs.Rc.{rc_value}
use Rattle.msg_core.specs.View.{member_count, most_members}
use Rattle.layer_mean.specs.State.{State}
use Rattle.layer_mean.specs.Tree.{LayerTree}
use Rattle.stack_mean.specs.Plan.{Plan}
use Rattle.stack_mean.specs.Plans.{plans_of}
use Rattle.run_mean.specs.Mode.{Mode}
use Rattle.run_mean.specs.Common.{is_common, as_sent}
use Rattle.run_mean.specs.Report.{visit_count}
use Rattle.run_mean.specs.Member.{Entered, Output, Step, first_task, step_from, member_following}
use Rattle.chain_laws.specs.Runs.{TypedStack}
use Rattle.member_laws.specs.Members.{IsHere}
use Rattle.stack_judge.specs.Answer.{stack_tree}
use Rattle.stack_shapes.specs.Trees.{plans_tree}
use Rattle.stack_shapes.specs.Starts.{starts_of, starts_tree}
use Rattle.stack_shapes.specs.Shapes.{short_shapes}
use Rattle.layer_eval.specs.Did.{as_predicted}
use Rattle.layer_eval.specs.declared.predicted.Predicted.{Predicted}
use Rattle.step_outputs.specs.Gathered.{Gathered}
use Rattle.stack_queue.specs.Taken.{taken_after}
use Rattle.view_core.specs.Steps.{installed_change}
use Rattle.member_reads.specs.Shown.{member_in}
use Rattle.code_table.specs.Codes.{CodesTree}
use Rattle.group_member.specs.After.{rank_of, view_after}
use Rattle.group_member.specs.Modes.{mode_with, IsTakenSo}
use Rattle.group_member.specs.Serving.{AreCodes}
use Rattle.group_member.specs.Viewing.{HasMembers, IsAt}
use Rattle.group_member.specs.Working.{states_in, taken_in, IsReady}
use Rattle.group_member.specs.declared.ground.Ground.{Ground}
use Rattle.group_member.specs.declared.ground.Took.{Took}
use Rattle.group_member.specs.declared.works.Works.{Works}

-- The stack and the plans over which a member works.
abbrev pub stack_of : Ground → List LayerTree
stack_of g = stack_tree g.stack.now

abbrev pub plans_in : Ground → List Plan
plans_in g = plans_tree g.plans.now

-- The code by which it runs, if any, and its mode.
abbrev pub codes_in : Ground → Option CodesTree
codes_in g = option_map (λ codes. codes.now) g.codes

abbrev pub mode_of : Ground → Mode
mode_of g = mode_with (codes_in g)

-- The stack is typed, the plans, the entries, the numbers of their first plans and the code are the stack's, the bare
-- headers are none, and it stands in a view, at its rank and with this count of members.
pub record IsGround (g : Ground) : Type 0 where
  pub typed : TypedStack (stack_of g)
  pub plans : plans_in g ≡ plans_of (stack_of g)
  pub entries : rc_value g.entries.now ≡ short_shapes (stack_of g) (plans_in g)
  pub starts : starts_tree g.starts.now ≡ starts_of (stack_of g)
  pub codes : AreCodes (stack_of g) (codes_in g)
  pub bare : g.bare.now ≡ []
  pub here : IsHere g.here.now
  pub rank : g.here.now.rank ≡ rank_of g.here.now.view g.id
  pub count : g.count ≡ member_count g.here.now.view
  pub few : g.count ≤ most_members

-- The step of a member whose layers have these states, from what entered.
abbrev pub step_over : Ground → List State → Entered → Step
step_over g states what = step_from (stack_of g) g.here.now g.id states what

-- How many events each layer has taken after the run of that step.
abbrev pub taken_over : Ground → List State → Entered → List ℕ → List ℕ
taken_over g states what taken = taken_after (stack_of g) states (first_task (stack_of g) g.here.now.rank what) taken

-- An output that isn't sent short.
abbrev pub in_full : Output → Output × Option ℕ
in_full o = (o, None)

-- The run of a step was made, and what came out of it is gathered: the member is between two steps, with the states
-- that its layers gave.
pub record HasPlayed (g : Ground) (states : List State) (counts : List ℕ) (what : Entered) (new : Works)
    (out : Gathered) (before after : ℕ)
    (result : Predicted) : Type 0 where
  pub ready : IsReady (stack_of g) g.most new
  pub states_are : states_in new ≡ (step_over g states what).work.states
  pub members : HasMembers (stack_of g) g.most g.here.now.view g.id (states_in new)
  pub outputs : out.outputs ≡ map in_full (step_over g states what).outputs
  pub here : out.here ≡ g.here.now
  pub predicted : result ≡ as_predicted (step_over g states what).work.decided
  pub visits : after ≡ before + (step_over g states what).work.visits
  pub taken : taken_in new ≡ taken_over g states what counts

-- The step was made, by code or by its run, and the member is between two steps, in the same view as before.
pub record HasGone (g : Ground) (old : Works) (what : Entered) (new : Works) (out : Gathered) (before after : ℕ)
    (result : Bool) : Type 0 where
  pub ready : IsReady (stack_of g) g.most new
  pub states_are : states_in new ≡ (step_over g (states_in old) what).work.states
  pub members : HasMembers (stack_of g) g.most g.here.now.view g.id (states_in new)
  pub outputs : out.outputs ≡ as_sent (mode_of g) (stack_of g) (plans_in g) (step_over g (states_in old) what)
  pub here : out.here ≡ g.here.now
  pub common : result ≡ is_common (stack_of g) (plans_in g) (step_over g (states_in old) what)
  pub visits : after ≡ before + visit_count (mode_of g) (stack_of g) (plans_in g) (step_over g (states_in old) what)
  pub taken : IsTakenSo (mode_of g) (is_common (stack_of g) (plans_in g) (step_over g (states_in old) what))
      (taken_in old)
      (taken_over g (states_in old) what (taken_in old)) (taken_in new)

-- The step was taken.
pub record HasTaken (g : Ground) (old : Works) (what : Entered) (new : Works) (out : Gathered) (before after : ℕ)
    (result : Took) : Type 0 where
  pub ready : IsReady (stack_of g) g.most new
  pub at : IsAt (stack_of g) g.most g.id (view_after g.here.now.view result.change) (states_in new)
  pub member : member_in (view_after g.here.now.view result.change) (states_in new) ≡
      member_following g.here.now.view (step_over g (states_in old) what)
  pub outputs : out.outputs ≡ as_sent (mode_of g) (stack_of g) (plans_in g) (step_over g (states_in old) what)
  pub here : out.here ≡ g.here.now
  pub common : result.common ≡ is_common (stack_of g) (plans_in g) (step_over g (states_in old) what)
  pub change : result.change ≡ installed_change (step_over g (states_in old) what).installs
  pub visits : after ≡ before + visit_count (mode_of g) (stack_of g) (plans_in g) (step_over g (states_in old) what)
  pub taken : IsTakenSo (mode_of g) (is_common (stack_of g) (plans_in g) (step_over g (states_in old) what))
      (taken_in old)
      (taken_over g (states_in old) what (taken_in old)) (taken_in new)
