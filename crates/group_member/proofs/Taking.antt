-- A step is taken: its run was made, and the first view that was announced is installed.
use Rattle.std.proofs.Common.{◌≡◌, ◌∙◌, ℕ, Bool, List, [], ◌∷◌, map, Option, Some, None, slice_get, refl, sym, ap}
use Rattle.std.proofs.Common.{subst}
use Rattle.std.specs.Prelude.{option_map}
use Rattle.std.specs.List.{filter_map}
use Rattle.std.specs.Option.{option_map_or}
use Rattle.msg_core.specs.declared.packet.View.{View}
use Rattle.stack_mean.specs.Plan.{Plan}
use Rattle.chain_laws.specs.Runs.{AreChainedStates}
use Rattle.run_mean.specs.Common.{is_common, plan_after, short_from, with_plans}
use Rattle.run_mean.specs.Member.{Member, inside, out, Entered, Output, announced_ranks, installed_member, Step}
use Rattle.run_mean.specs.Member.{member_following}
use Rattle.member_laws.specs.Members.{IsEntered, IsChainedMember}
use Rattle.member_laws.proofs.Members.{steps_keep_chains}
use Rattle.step_outputs.specs.Gathered.{Gathered}
use Rattle.view_core.specs.Steps.{installed_change}
use Rattle.view_core.specs.declared.step.Change.{Change}
use Rattle.view_core.specs.declared.step.Change.TheVariants.{Into, Out}
use Rattle.member_reads.specs.Shown.{member_in}
use Rattle.group_member.specs.After.{view_after}
use Rattle.group_member.specs.Modes.{IsTakenSo}
use Rattle.group_member.specs.Stepping.{stack_of, plans_in, mode_of, IsGround, step_over, taken_over, HasGone}
use Rattle.group_member.specs.Stepping.{HasTaken}
use Rattle.group_member.specs.Viewing.{HasMembers, IsAt, Changes}
use Rattle.group_member.specs.Working.{states_in, taken_in, IsReady}
use Rattle.group_member.specs.declared.ground.Ground.{Ground}
use Rattle.group_member.specs.declared.works.Works.{Works}

-- outputs stay what they are, whatever plans they have
told_back : (plans : List Plan) (next : Option ℕ) (os : List Output) →
    map (λ (o : Output × Option ℕ). o.0) (with_plans plans next os) ≡ os
told_back plans next [] = refl
told_back plans next (o ∷ os) = ap (λ (rest : List Output). o ∷ rest) (told_back plans (plan_after next o) os)

module _ (g : Ground) (old : Works) (what : Entered) where
  abbrev its : Step
  its = step_over g (states_in old) what

  -- where the member is after the step, by what was announced
  pub record Moves (mid last : Works) (change : Option Change) : Type 0 where
    pub ready : IsReady (stack_of g) g.most last
    pub members : (view : View) → view_after g.here.now.view change ≡ Some view →
        HasMembers (stack_of g) g.most view g.id (states_in last)
    pub member : member_in (view_after g.here.now.view change) (states_in last) ≡ member_following g.here.now.view its
    pub change_is : change ≡ installed_change its.installs
    pub taken : taken_in last ≡ taken_in mid

  moves : (mid last : Works) (o : Option ℕ) (change : Option Change) →
      slice_get (filter_map announced_ranks its.outputs) 0 ≡
      o →
      IsReady (stack_of g) g.most mid → HasMembers (stack_of g) g.most g.here.now.view g.id (states_in mid) →
      states_in mid ≡ its.work.states →
      Changes (stack_of g) g.most g.here.now.view g.id o mid last change → Moves mid last change
  moves mid last None None first ready members are h =
      let installs : its.installs ≡ None = ap (option_map (installed_member (stack_of g) g.here.now.view g.id)) first in
      record {
        ready = subst (λ (w : Works). IsReady (stack_of g) g.most w) (sym h) ready;
        members = λ view at.
            let same : g.here.now.view ≡ view = cc at in
            subst (λ (v : View). HasMembers (stack_of g) g.most v g.id (states_in last)) same
            (subst (λ (w : Works). HasMembers (stack_of g) g.most g.here.now.view g.id (states_in w)) (sym h) members);
        member =
            ap (λ (w : Works). inside g.here.now.view (states_in w)) h ∙ ap (inside g.here.now.view) are
            ∙ ap (λ (m : Option Member). option_map_or (λ m. m) m (inside g.here.now.view its.work.states))
            (sym installs);
        change_is = ap installed_change (sym installs);
        taken = ap taken_in h;
      }
  moves mid last (Some ranks) (Some (Into next)) first ready members are h =
      let installs : its.installs ≡ Some (inside next (states_in last)) =
      ap (option_map (installed_member (stack_of g) g.here.now.view g.id)) first ∙
      ap (λ (m : Member). Some m) h.member in
      record {
        ready = h.ready;
        members = λ view at. let same : next ≡ view = cc at in
            subst (λ (v : View). HasMembers (stack_of g) g.most v g.id (states_in last)) same h.members;
        member = ap (λ (m : Option Member). option_map_or (λ m. m) m (inside g.here.now.view its.work.states))
            (sym installs);
        change_is = ap installed_change (sym installs);
        taken = h.taken;
      }
  moves mid last (Some ranks) (Some Out) first ready members are h =
      let installs : its.installs ≡ Some out =
      ap (option_map (installed_member (stack_of g) g.here.now.view g.id)) first ∙
      ap (λ (m : Member). Some m) h.member in
      record {
        ready = h.ready;
        members = λ view at. absurd (cc at);
        member = ap (λ (m : Option Member). option_map_or (λ m. m) m (inside g.here.now.view its.work.states))
            (sym installs);
        change_is = ap installed_change (sym installs);
        taken = h.taken;
      }
  moves mid last None (Some change) first ready members are h = absurd h
  moves mid last (Some ranks) None first ready members are h = absurd h

  is_at : (change : Option Change) (last : Works) (view : Option View) → view_after g.here.now.view change ≡ view →
      ((v : View) → view_after g.here.now.view change ≡ Some v →
      HasMembers (stack_of g) g.most v g.id (states_in last)) →
      IsChainedMember (stack_of g) (member_in view (states_in last)) →
      IsAt (stack_of g) g.most g.id view (states_in last)
  is_at change last None at members chained = tt
  is_at change last (Some v) at members chained = record { inside_is = chained; members = members v at }

  pub taken : (mid last : Works) (gathered : Gathered) (before after : ℕ) (common : Bool) (change : Option Change) →
      IsGround g → AreChainedStates (stack_of g) (states_in old) → IsEntered (stack_of g) what →
      HasGone g old what mid gathered before after common →
      Changes (stack_of g) g.most g.here.now.view g.id
      (slice_get (filter_map announced_ranks (map (λ (o : Output × Option ℕ). o.0) gathered.outputs)) 0)
      mid last change →
      HasTaken g old what last gathered before after (record { common = common; change = change })
  taken mid last gathered before after common change ground chained is_entered gone changes =
      let told : map (λ (o : Output × Option ℕ). o.0) gathered.outputs ≡ its.outputs =
      ap (λ (os : List (Output × Option ℕ)). map (λ (o : Output × Option ℕ). o.0) os) gone.outputs
      ∙ told_back (plans_in g) (short_from (mode_of g) (stack_of g) (plans_in g) its) its.outputs in
      let so : Changes (stack_of g) g.most g.here.now.view g.id (slice_get (filter_map announced_ranks its.outputs) 0)
      mid
      last change =
      subst (λ (os : List Output).
      Changes (stack_of g) g.most g.here.now.view g.id (slice_get (filter_map announced_ranks os) 0) mid last change)
      told
      changes in
      let moved = moves mid last (slice_get (filter_map announced_ranks its.outputs) 0) change refl gone.ready
      gone.members
      gone.states_are so in
      let kept = steps_keep_chains (stack_of g) g.here.now g.id (states_in old) what ground.typed ground.here chained
      is_entered in record {
        ready = moved.ready;
        at = is_at change last (view_after g.here.now.view change) refl moved.members
            (subst (λ (m : Member). IsChainedMember (stack_of g) m) (sym moved.member) kept.member);
        member = moved.member;
        outputs = gone.outputs;
        here = gone.here;
        common = gone.common;
        change = moved.change_is;
        visits = gone.visits;
        taken = subst (λ (now : List ℕ). IsTakenSo (mode_of g) (is_common (stack_of g) (plans_in g) its) (taken_in old)
            (taken_over g (states_in old) what (taken_in old)) now)
            (sym moved.taken)
            gone.taken;
      }
