-- A step leaves a member as it is to be between two calls.
use Rattle.std.proofs.Common.{◌≡◌, ℕ, ◌<◌, ◌≤◌, List, [], Option, Result, Ok, Err, refl, ap, sym, subst, ◌∙◌, arith}
use Rattle.std.specs.Prelude.{◌^◌}
use Rattle.std.specs.List.{AllByRecursion}
use Rattle.msg_core.specs.declared.packet.View.{View}
use Rattle.layer_mean.specs.State.{State}
use Rattle.layer_mean.specs.Tree.{LayerTree}
use Rattle.packet_laws.specs.Lengths.{IsWithinLimits}
use Rattle.packet_mean.specs.ChainedState.{IsNumber}
use Rattle.stack_mean.specs.Acceptance.{largest_weight}
use Rattle.stack_mean.specs.Plan.{Plan}
use Rattle.stack_mean.specs.Plans.{plans_of}
use Rattle.run_mean.specs.Common.{as_sent, short_from}
use Rattle.run_mean.specs.Member.{Member, inside, out, Input, Entered, entered_input, Refusal, Step, step_from, Output}
use Rattle.member_laws.specs.Members.{IsHere, IsInside, IsChainedMember}
use Rattle.member_laws.proofs.Members.{here_is, steps_keep_chains}
use Rattle.member_laws.proofs.Numbered.{inputs_are_in_range}
use Rattle.step_outputs.specs.Gathered.{Gathered}
use Rattle.view_core.specs.declared.step.Stepped.{Stepped}
use Rattle.view_core.specs.declared.step.Stepped.TheVariants.{Taken, Refused}
use Rattle.group_member.specs.Placed.{Placed, SamePlace, Steps, here_in, step_at, step_in}
use Rattle.group_world.specs.Given.{IsGiven}
use Rattle.group_world.proofs.Spelled.{steps_spell}
use Rattle.group_peer.specs.Standing.{AreShort, IsFit}
use Rattle.group_peer.specs.Telling.{MakesStep}
use Rattle.group_peer.proofs.Short.{Few, all_few, short_all}

abbrev AllFew : List (Output × Option ℕ) → Type 0
AllFew outs = AllByRecursion (λ o. Few o.0) outs

-- what a step of a member that is given an input delivers isn't too long
module _ (p : Placed) (input : Input) (given : IsGiven p input) (group : IsNumber p.group) (stamp : IsNumber p.stamp)
  where
    place : (view : View) (states : List State) → IsInside p.stack view states → IsHere (here_in p view)
    place view states is = here_is p.stack (record { group = p.group; stamp = p.stamp; members = []; packets = [] })
        view
        p.id (record { group = group; stamp = stamp; members = tt; packets = tt }) is.view_is

    few_from : (view : View) (states : List State) (what : Entered) → IsInside p.stack view states →
        entered_input p.stack p.plans (here_in p view) input ≡ Ok what →
        AllFew (as_sent p.mode p.stack p.plans (step_from p.stack (here_in p view) p.id states what))
    few_from view states what is enters =
        let here = here_in p view in
        let its : entered_input p.stack (plans_of p.stack) here input ≡ Ok what =
        subst (λ (plans : List Plan). entered_input p.stack plans here input ≡ Ok what) given.plans enters in
        let entered = inputs_are_in_range p.stack here input what given.typed given.range its in
        let step = step_from p.stack here p.id states what in
        all_few p.stack p.plans here (short_from p.mode p.stack p.plans step) step.work.outs
        (steps_keep_chains p.stack here p.id states what given.typed (place view states is) is.states_are entered).outs

    few_at : (m : Member) (s : Step) → IsChainedMember p.stack m → step_at p m input ≡ Ok s →
        AllFew (as_sent p.mode p.stack p.plans s)
    few_at out s chained is = absurd (cc is)
    few_at (inside view states) s chained is = go (entered_input p.stack p.plans (here_in p view) input) refl is where
      go : (e : Result Entered Refusal) → entered_input p.stack p.plans (here_in p view) input ≡ e →
          step_in p view states e ≡ Ok s → AllFew (as_sent p.mode p.stack p.plans s)
      go (Err reason) enters is = absurd (cc is)
      go (Ok what) enters is =
          let same : step_from p.stack (here_in p view) p.id states what ≡ s = cc is in
          subst (λ (t : Step). AllFew (as_sent p.mode p.stack p.plans t)) same
          (few_from view states what chained enters)

    pub steps_few : (p' : Placed) (outs : List (Output × Option ℕ)) (before after : ℕ) (st : Stepped) →
        Steps p input p' outs before after st → AllFew outs
    steps_few p' outs before after (Taken common change) is =
        subst AllFew (sym is.outputs) (few_at p.member is.step given.chained is.is)
    steps_few p' outs before after (Refused reason) is = subst AllFew (sym is.none) tt

-- visits count from 0
pub made : (p : Placed) (input : Input) (p' : Placed) (outs : List (Output × Option ℕ)) (visits : ℕ) (st : Stepped) →
    Steps p input p' outs 0 visits st → MakesStep p input p' outs st
made p input p' outs visits st is = record { visits = visits; steps = is }

-- the place of a member stays in a step
pub same_place : (p : Placed) (input : Input) (p' : Placed) (outs : List (Output × Option ℕ)) (before after : ℕ)
    (st : Stepped) →
    Steps p input p' outs before after st → SamePlace p p'
same_place p input p' outs before after (Taken common change) is = is.place
same_place p input p' outs before after (Refused reason) is = subst (SamePlace p) (sym is.same) record {
  stack = refl;
  plans = refl;
  mode = refl;
  group = refl;
  stamp = refl;
  id = refl;
  most = refl;
}

pub still_fit : (p : Placed) (old : Gathered) (input : Input) (p' : Placed) (new : Gathered) (before after : ℕ)
    (st : Stepped) →
    IsFit p old → IsGiven p input → Steps p input p' new.outputs before after st → new.places ≡ old.places →
    IsFit p' new
still_fit p old input p' new before after st was given is places =
    let same = same_place p input p' new.outputs before after st is in
    record {
      limits = subst IsWithinLimits (sym same.stack) was.limits;
      group = subst IsNumber (sym same.group) was.group;
      stamp = subst IsNumber (sym same.stamp) was.stamp;
      places = places ∙ was.places ∙ ap largest_weight (sym same.stack);
      short = subst (λ (ps : List Plan). AreShort ps new.outputs) (sym same.plans)
          (short_all p.stack p.plans was.limits new.outputs
          (steps_spell p input given was.group was.stamp p' new.outputs before after st is)
          (steps_few p input given was.group was.stamp p' new.outputs before after st is));
    }
