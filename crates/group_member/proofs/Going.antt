-- A step is made, by code or by its run.
use Rattle.std.proofs.Common.{◌≡◌, ◌∙◌, ℕ, ◌+◌, Bool, true, false, List, [], ◌∷◌, map, Option, Some, None, refl, sym}
use Rattle.std.proofs.Common.{ap, subst, arith}
use Rattle.std.specs.Prelude.{if◌then◌else◌, is_some}
use Rattle.std.specs.Option.{option_and_then}
use Rattle.layer_mean.specs.declared.run.Case.{Case}
use Rattle.layer_mean.specs.State.{State}
use Rattle.stack_mean.specs.Plan.{Plan}
use Rattle.run_mean.specs.Mode.{Mode, layered, bypass}
use Rattle.run_mean.specs.Common.{is_common, case_of, first_plan, short_from, is_planned, with_plans, as_sent}
use Rattle.run_mean.specs.Member.{Entered, Output, Step}
use Rattle.run_mean.specs.Report.{visit_count}
use Rattle.layer_eval.specs.declared.predicted.Predicted.{Predicted}
use Rattle.step_outputs.specs.Gathered.{Gathered}
use Rattle.group_member.specs.Modes.{IsTakenSo}
use Rattle.group_member.specs.Stepping.{stack_of, plans_in, mode_of, in_full, step_over, taken_over, HasPlayed}
use Rattle.group_member.specs.Stepping.{HasGone}
use Rattle.group_member.specs.Trying.{IsMadeIn, IsUncommon}
use Rattle.group_member.specs.Viewing.{IsIn}
use Rattle.group_member.specs.Working.{states_in, taken_in, AreSame}
use Rattle.group_member.specs.declared.ground.Ground.{Ground}
use Rattle.group_member.specs.declared.works.Works.{Works}
use Rattle.group_member.proofs.Playing.{members_stay}
use Rattle.group_member.proofs.Same.{same_states, same_taken}

-- where the first packet has no plan, all outputs are in full

no_plan : (b : Bool) → ◌≡◌ {A = Option ℕ} (if b then None else None) None
no_plan true = refl
no_plan false = refl

pub never_short : (plans : List Plan) (os : List Output) → with_plans plans None os ≡ map in_full os
never_short plans [] = refl
never_short plans (o ∷ os) = λ i. (o, no_plan (is_planned o) i) ∷
    (ap (λ (next : Option ℕ). with_plans plans next os) (no_plan (is_planned o)) ∙
    never_short plans os) i

module _ (g : Ground) (old : Works) (what : Entered) where
  abbrev its : Step
  its = step_over g (states_in old) what

  abbrev its_case : Option Case
  its_case = case_of (stack_of g) (plans_in g) its

  -- a step that is common in no case is sent in full, and counts for all its visits
  uncommon_short : (mode : Mode) → IsUncommon mode g (states_in old) what →
      short_from mode (stack_of g) (plans_in g) its ≡ None
  uncommon_short layered un = refl
  uncommon_short bypass un = ap (λ (c : Option Case). option_and_then (first_plan (stack_of g) its.entered) c) un

  uncommon_counted : (mode : Mode) → IsUncommon mode g (states_in old) what →
      visit_count mode (stack_of g) (plans_in g) its ≡ its.work.visits
  uncommon_counted layered un = refl
  uncommon_counted bypass un = ap (λ (c : Option Case). if is_some c then 0 else its.work.visits) un

  uncommon_taken : (mode : Mode) → IsUncommon mode g (states_in old) what → (before ran after : List ℕ) → after ≡ ran →
      IsTakenSo mode (is_common (stack_of g) (plans_in g) its) before ran after
  uncommon_taken layered un before ran after is = is
  uncommon_taken bypass un before ran after is =
      subst (λ (c : Option Case). IsTakenSo bypass (is_some c) before ran after) (sym un) is

  -- what the layers have taken, where the run is made
  abbrev ran_to : List ℕ
  ran_to = taken_over g (states_in old) what (taken_in old)

  module _ (new : Works) (out : Gathered) (before after : ℕ) where
    by_run : (predicted : Predicted) (result : Bool) → IsUncommon (mode_of g) g (states_in old) what →
        HasPlayed g (states_in old) (taken_in old) what new out before after predicted →
        result ≡ is_common (stack_of g) (plans_in g) its →
        HasGone g old what new out before after result
    by_run predicted result un played common_is = record {
      ready = played.ready;
      states_are = played.states_are;
      members = played.members;
      outputs = played.outputs ∙ sym (never_short (plans_in g) its.outputs)
          ∙ ap (λ (next : Option ℕ). with_plans (plans_in g) next its.outputs) (sym (uncommon_short (mode_of g) un));
      here = played.here;
      common = common_is;
      visits = played.visits ∙ ap (λ (n : ℕ). before + n) (sym (uncommon_counted (mode_of g) un));
      taken = uncommon_taken (mode_of g) un (taken_in old) ran_to (taken_in new) played.taken;
    }

    -- where nothing had changed before the run
    pub gone_by_run : (mid : Works) (predicted : Predicted) (result : Bool) → AreSame old mid →
        IsUncommon (mode_of g) g (states_in old) what →
        HasPlayed g (states_in mid) (taken_in mid) what new out before after predicted →
        result ≡ is_common (stack_of g) (plans_in g) (step_over g (states_in mid) what) →
        HasGone g old what new out before after result
    gone_by_run mid predicted result same un played common_is =
        let states = same_states old mid same in
        by_run predicted result un
        (subst (λ (counts : List ℕ). HasPlayed g (states_in old) counts what new out before after predicted)
        (same_taken old mid same)
        (subst (λ (states : List State). HasPlayed g states (taken_in mid) what new out before after predicted) states
        played))
        (subst (λ (states : List State). result ≡ is_common (stack_of g) (plans_in g) (step_over g states what)) states
        common_is)

  -- a step that is made by its code is common, and counts for no visit
  module _ (case : Case) (new : Works) (first out : Gathered) where
    pub gone_by_code : (visits : ℕ) → IsIn (stack_of g) g.most g.here.now.view g.id (states_in old) →
        IsMadeIn case g old what new first →
        out ≡ record first { outputs = with_plans (plans_in g) (first_plan (stack_of g) what case) its.outputs } →
        HasGone g old what new out visits visits true
    gone_by_code visits is_in made short =
        let is : its_case ≡ Some case = made.case_is in record {
          ready = made.made.ready;
          states_are = made.made.states_are;
          members = members_stay g (states_in old) what (states_in new) is_in made.made.states_are;
          outputs =
              ap (λ (o : Gathered). o.outputs) short
              ∙ ap (λ (c : Option Case). with_plans (plans_in g) (option_and_then (first_plan (stack_of g) what) c)
              its.outputs) (sym is)
              ∙ ap (λ (mode : Mode). as_sent mode (stack_of g) (plans_in g) its) (sym made.mode);
          here = ap (λ (o : Gathered). o.here) short ∙ made.made.here;
          common = ap (λ (c : Option Case). is_some c) (sym is);
          visits =
              let none : visits ≡ visits + 0 = omega arith in
              none ∙ ap (λ (c : Option Case). visits + (if is_some c then 0 else its.work.visits)) (sym is)
              ∙ ap (λ (mode : Mode). visits + visit_count mode (stack_of g) (plans_in g) its) (sym made.mode);
          taken = subst (λ (mode : Mode). IsTakenSo mode (is_common (stack_of g) (plans_in g) its) (taken_in old) ran_to
              (taken_in new)) (sym made.mode)
              (subst (λ (c : Option Case). IsTakenSo bypass (is_some c) (taken_in old) ran_to (taken_in new)) (sym is)
              made.made.taken);
        }
