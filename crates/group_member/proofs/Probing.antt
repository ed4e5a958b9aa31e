-- What entered is tried as a common step, and what its step lacks that isn't one.
use Rattle.std.proofs.Common.{◌≡◌, ◌∙◌, ℕ, ◌≤◌, Bool, true, false, List, [], Option, Some, None, is_some, length}
use Rattle.std.proofs.Common.{option_map, refl, sym, ap, subst, arith}
use Rattle.std.specs.Prelude.{if◌then◌else◌}
use Rattle.std.specs.Option.{option_map_or}
use Rattle.run_mean.specs.Mode.{Mode, bypass}
use Rattle.layer_mean.specs.State.{State}
use Rattle.layer_mean.specs.Tree.{LayerTree}
use Rattle.msg_core.specs.Parts.{longest_body}
use Rattle.packet_mean.specs.Plan.{least_fit}
use Rattle.packet_mean.specs.declared.here.Here.{Here}
use Rattle.stack_mean.specs.Plan.{Plan}
use Rattle.run_mean.specs.Common.{entry_of, is_common, case_of}
use Rattle.run_mean.specs.Member.{Entered, app_cast, app_send, app_leave, clock_tick, from_peer, Step}
use Rattle.bypass_laws.specs.Making.{IsSound}
use Rattle.handler_laws.specs.Handled.{step_input}
use Rattle.member_laws.specs.Members.{IsEntered}
use Rattle.miss_laws.specs.Asked.{AllAsked, miss_asked}
use Rattle.miss_laws.specs.Told.{AreChecksOf, MissesAreTold}
use Rattle.lack_mean.specs.Lacks as lack
use Rattle.lack_mean.specs.Lacks.{entry_named, miss_by, miss_of}
use Rattle.stack_shapes.specs.Entries.{entry_for, planned_entry}
use Rattle.stack_shapes.specs.declared.entry.EntryOf.{EntryOf}
use Rattle.step_misses.specs.Misses.{entry_meant, miss_meant}
use Rattle.step_misses.specs.declared.miss.Miss.{Miss}
use Rattle.trace_mean.specs.Worth.{Input}
use Rattle.step_outputs.specs.Gathered.{Gathered}
use Rattle.group_member.specs.Attempting.{IsNotMade}
use Rattle.group_member.specs.Judged.{body_of}
use Rattle.group_member.specs.Judged.{entry_meant as judged_meant}
use Rattle.group_member.specs.Probing.{Lacks}
use Rattle.group_member.specs.Stepping.{stack_of, plans_in, step_over, IsGround}
use Rattle.group_member.specs.Trying.{IsUncommon}
use Rattle.group_member.specs.Viewing.{IsIn}
use Rattle.group_member.specs.Working.{states_in, AreSame, IsReady}
use Rattle.group_member.specs.declared.entry.Entry.{Entry}
use Rattle.group_member.specs.declared.entry.Entry.TheVariants.{Cast, Send, Leave, Tick, Packet}
use Rattle.group_member.specs.declared.ground.Ground.{Ground}
use Rattle.group_member.specs.declared.works.Works.{Works}
use Rattle.group_member.proofs.Same.{same_ready, same_states}
use Rattle.group_member.proofs.Trying.{own}

-- nothing is told of what has no entry
none_of : {A : Type 0} (o : Option A) → is_some o ≡ false → o ≡ None
none_of None is = refl
none_of (Some x) is = absurd (cc is)

module _ (stack : List LayerTree) (plans : List Plan) (s : Step) (un : case_of stack plans s ≡ None) where
  not_common : is_common stack plans s ≡ false
  not_common = ap (λ (c : Option _). is_some c) un

  untold : is_some (entry_named plans s.entered) ≡ false → miss_of stack plans s ≡ None
  unfolding miss_of
  untold none =
      ap (λ (b : Bool). if b then None else option_map (miss_by stack s (entry_of plans s.entered))
      (entry_named plans s.entered)) not_common
      ∙ ap (option_map (miss_by stack s (entry_of plans s.entered))) (none_of (entry_named plans s.entered) none)

-- what has an entry is told by the one that `entry_for` finds
named : (plans : List Plan) (what : Entered) → is_some (entry_named plans what) ≡ true →
    entry_named plans what ≡ Some (entry_meant (entry_for plans what))
named plans (app_cast body) is = refl
named plans (app_send to body) is = refl
named plans app_leave is = absurd (cc is)
named plans (clock_tick moment) is = absurd (cc is)
named plans (from_peer p) is = ap (λ (e : lack.Entry). Some e) (go (least_fit plans p)) where
  go : (number : Option ℕ) → option_map_or lack.plan number lack.none ≡ entry_meant (planned_entry number)
  go None = refl
  go (Some number) = refl

-- in bypass mode a step that isn't made by code is common in no case
pub in_no_case : (mode : Mode) (g : Ground) (states : List State) (what : Entered) → mode ≡ bypass →
    IsUncommon mode g states what →
    case_of (stack_of g) (plans_in g) (step_over g states what) ≡ None
in_no_case mode g states what is un = subst (λ (m : Mode). IsUncommon m g states what) is un

module _ (g : Ground) (w : Works) (what : Entered)
    (un : case_of (stack_of g) (plans_in g) (step_over g (states_in w) what) ≡ None) where
  pub lacks_none : is_some (entry_named (plans_in g) what) ≡ false →
      Lacks (stack_of g) (plans_in g) (step_over g (states_in w) what) None
  lacks_none none = record {
    uncommon = not_common (stack_of g) (plans_in g) (step_over g (states_in w) what) un;
    lacked = untold (stack_of g) (plans_in g) (step_over g (states_in w) what) un none;
  }

  pub lacks_some : IsGround g → IsIn (stack_of g) g.most g.here.now.view g.id (states_in w) → IsSound (stack_of g) →
      (all : AllAsked) →
      AreChecksOf (stack_of g) all → IsEntered (stack_of g) what → MissesAreTold →
      is_some (entry_named (plans_in g) what) ≡ true → (e : EntryOf) →
      e ≡ entry_for (plans_in g) what → (i : Input) → i ≡ step_input (plans_in g) g.here.now what →
      (states : List State) → states ≡ states_in w →
      (miss : Miss) → miss_meant miss ≡ miss_asked all (entry_meant e) i states →
      Lacks (stack_of g) (plans_in g) (step_over g (states_in w) what) (Some miss)
  lacks_some ground is_in sound all checks is_entered law some e entry i input states are miss told = record {
    uncommon = not_common (stack_of g) (plans_in g) (step_over g (states_in w) what) un;
    lacked =
        law (stack_of g) (plans_in g) all g.here.now g.id (states_in w) what sound ground.plans checks
        (record { typed = ground.typed; at = ground.here; states_are = is_in.inside_is.states_are; input = is_entered })
        (own g w what ground is_in) un
        ∙ ap (option_map (λ (x : lack.Entry). miss_asked all x (step_input (plans_in g) g.here.now what) (states_in w)))
        (named (plans_in g) what some)
        ∙ (λ k. Some (miss_asked all (entry_meant (sym entry k)) (sym input k) (sym are k)))
        ∙ ap (λ (m : lack.Miss). Some m) (sym told);
  }

-- where nothing had changed before it was asked what the step lacks
module _ (g : Ground) (old new : Works) (what : Entered) (same : AreSame old new) where
  at_same : IsIn (stack_of g) g.most g.here.now.view g.id (states_in old) →
      IsIn (stack_of g) g.most g.here.now.view g.id (states_in new)
  at_same is_in = subst (IsIn (stack_of g) g.most g.here.now.view g.id) (sym (same_states old new same)) is_in

  pub not_made : IsReady (stack_of g) g.most old → IsIn (stack_of g) g.most g.here.now.view g.id (states_in old) →
      (out : Gathered) → out.outputs ≡ [] →
      (miss : Option Miss) → Lacks (stack_of g) (plans_in g) (step_over g (states_in new) what) miss →
      IsNotMade g old what new out miss
  not_made ready is_in out none miss lacks = record {
    same = same;
    ready = same_ready (stack_of g) g.most old new same ready;
    at = at_same is_in;
    none = none;
    lacks = subst (λ (states : List State). Lacks (stack_of g) (plans_in g) (step_over g states what) miss)
        (same_states old new same) lacks;
  }

-- what entered has no longer body than one may be
pub body_short : (stack : List LayerTree) (here : Here) (entry : Entry) → IsEntered stack (judged_meant here entry) →
    length (body_of entry) ≤ longest_body
body_short stack here (Cast body) is = is.within
body_short stack here (Send to body) is = is.1.within
body_short stack here Leave is = omega arith
body_short stack here (Tick moment) is = omega arith
body_short stack here (Packet scan bytes known) is = is.chained.body
