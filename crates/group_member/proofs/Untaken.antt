-- A placed member whose input isn't taken as a common step.
use Rattle.std.proofs.Common.{◌≡◌, ◌∙◌, ℕ, List, [], map, flat_map, Option, None, Result, Ok, Err, refl, sym, ap, subst}
use Rattle.std.specs.Rc.{rc_value}
use Rattle.msg_core.specs.declared.packet.View.{View}
use Rattle.stack_judge.specs.Answer.{stack_tree}
use Rattle.layer_mean.specs.State.{State}
use Rattle.layer_mean.specs.Tree.{LayerTree}
use Rattle.stack_mean.specs.Plan.{Plan}
use Rattle.live_layer.specs.Layer.{refs_of, taken_by, state_in}
use Rattle.stack_shapes.specs.Trees.{plans_tree}
use Rattle.run_mean.specs.Member.{inside, Input, Refusal, Entered, entered_input, Output, Step, step_from}
use Rattle.step_misses.specs.declared.miss.Miss.{Miss}
use Rattle.step_outputs.specs.Gathered.{Gathered}
use Rattle.member_reads.specs.Shown.{member_in}
use Rattle.group_member.specs.Attempting.{IsNotMade}
use Rattle.group_member.specs.Modes.{mode_with}
use Rattle.group_member.specs.Placed.{Placed, here_in, step_of}
use Rattle.group_member.specs.Placing.{codes_kept, placed_member}
use Rattle.group_member.specs.Probing.{InputLacks, IsNotTaken, Lacks}
use Rattle.group_member.specs.Stepping.{stack_of, plans_in, step_over}
use Rattle.group_member.specs.Working.{states_in, AreSame}
use Rattle.group_member.specs.declared.ground.Ground.{Ground}
use Rattle.group_member.specs.declared.member.Member.TheInside.{Inside}
use Rattle.group_member.specs.declared.works.Works.{Works}
use Rattle.group_member.proofs.Placing.{steps_in}

-- nothing is told of one that is refused
pub refused_is_not : (p : Placed) (input : Input) (new : Placed) (outs : List (Output × Option ℕ)) (reason : Refusal) →
    step_of p input ≡ Err reason → new ≡ p → outs ≡ [] → IsNotTaken p input new outs None
refused_is_not p input new outs reason why same none = record {
  same = same;
  none = none;
  lacks = subst (λ (r : Result Step Refusal). InputLacks p.stack p.plans r None) (sym why) refl;
}

-- a member whose layers and pool are the same is placed the same
pub same_placed : (m m' : Inside) → m' ≡ record m { scan = m'.scan; kit = m'.kit } →
    AreSame m.kit.works m'.kit.works →
    placed_member m' ≡ placed_member m
same_placed m m' is same = ap placed_member is ∙ (λ i. record {
  stack = stack_tree (rc_value m.stack);
  plans = plans_tree (rc_value m.plans);
  mode = mode_with (codes_kept m);
  group = m.group;
  stamp = m.stamp;
  id = m.id;
  most = m.most;
  member = member_in m.view (map (state_in (same.pool i)) (same.layers i));
  pool = same.pool i;
  refs = flat_map refs_of (same.layers i);
  taken = map taken_by (same.layers i);
})

module _ (p : Placed) (view : View) (states : List State) (input : Input) (is : p.member ≡ inside view states) where
  pub left : (g : Ground) (what : Entered) (old works : Works) (gathered : Gathered) (miss : Option Miss)
      (new : Placed) →
      stack_of g ≡ p.stack → plans_in g ≡ p.plans → g.here.now ≡ here_in p view → g.id ≡ p.id →
      entered_input p.stack p.plans (here_in p view) input ≡ Ok what → states_in old ≡ states →
      IsNotMade g old what works gathered miss → new ≡ p →
      IsNotTaken p input new gathered.outputs miss
  left g what old works gathered miss new stack plans here id enters are not same =
      let its : step_over g (states_in old) what ≡ step_from p.stack (here_in p view) p.id states what =
      λ i. step_from (stack i) (here i) (id i) (are i) what in
      let lacks : Lacks p.stack p.plans (step_from p.stack (here_in p view) p.id states what) miss =
      subst (λ (s : Step). Lacks p.stack p.plans s miss) its
      (subst (λ (plans : List Plan). Lacks p.stack plans (step_over g (states_in old) what) miss) plans
      (subst (λ (stack : List LayerTree). Lacks stack (plans_in g) (step_over g (states_in old) what) miss) stack
      not.lacks)) in record {
        same = same;
        none = not.none;
        lacks = subst (λ (r : Result Step Refusal). InputLacks p.stack p.plans r miss)
            (sym (steps_in p view states input is what enters)) lacks;
      }
