-- Steps of a placed member, taken or refused.
use Rattle.std.proofs.Common.{◌≡◌, ◌∙◌, ℕ, ◌+◌, ◌<◌, ◌≤◌, Bool, List, Option, Some, Result, Ok, Err, sym, ap, subst}
use Rattle.std.specs.Prelude.{◌^◌}
use Rattle.std.specs.List.{AllByRecursion}
use Rattle.std.specs.Rc.{rc_value}
use Rattle.msg_core.specs.View.{member_count, most_members}
use Rattle.layer_mean.specs.Tree.{LayerTree}
use Rattle.stack_mean.specs.Plans.{plans_of}
use Rattle.chain_laws.specs.Runs.{TypedStack}
use Rattle.stack_judge.specs.Answer.{stack_tree}
use Rattle.stack_judge.specs.declared.stack.Stack.{Stack}
use Rattle.stack_shapes.specs.Trees.{plans_tree}
use Rattle.stack_shapes.specs.declared.kept.Plans.{Plans}
use Rattle.stack_shapes.specs.Shapes.{short_shapes}
use Rattle.stack_shapes.specs.Starts.{starts_of, starts_tree}
use Rattle.member_laws.specs.Members.{IsView, IsInput, IsEntered, IsChainedMember}
use Rattle.member_laws.proofs.Members.{opened_is_chained}
use Rattle.member_laws.proofs.Numbered.{inputs_are_in_range}
use Rattle.live_layer.specs.Making.{Making}
use Rattle.packet_short.specs.Keeping.{HasAtMost}
use Rattle.packet_short.specs.Layouts.{AreLaidOut}
use Rattle.packet_short.specs.declared.layouts.Layouts.{Layouts}
use Rattle.group_member.specs.Judged.{entry_meant, IsKnown}
use Rattle.group_member.specs.Making.{IsOpening}
use Rattle.code_table.specs.Codes.{CodesTree}
use Rattle.group_member.specs.Modes.{IsTakenSo}
use Rattle.group_member.specs.Placing.{codes_kept, placed_member, IsMember, IsCountIn, IsRankIn}
use Rattle.group_member.specs.Serving.{AreCodes, IsSpare}
use Rattle.group_member.specs.Viewing.{HasMembers, IsIn, IsAt}
use Rattle.group_member.specs.declared.entry.Entry.{Entry}
use Rattle.group_member.specs.declared.member.Member.TheInside.{Inside}
use Rattle.msg_core.specs.declared.packet.View.{View}
use Rattle.layer_mean.specs.State.{State}
use Rattle.packet_mean.specs.declared.here.Here.{Here}
use Rattle.run_mean.specs.Mode.{Mode}
use Rattle.run_mean.specs.Common.{is_common, as_sent}
use Rattle.run_mean.specs.Report.{visit_count}
use Rattle.run_mean.specs.Member.{Member, inside, out, Input, Refusal, Entered, entered_input, first_task, Step}
use Rattle.run_mean.specs.Member.{step_from}
use Rattle.run_mean.specs.Member.{member_following}
use Rattle.stack_queue.specs.Taken.{taken_after}
use Rattle.step_outputs.specs.Gathered.{Gathered}
use Rattle.view_core.specs.Refusals.{refusal_meant}
use Rattle.view_core.specs.Steps.{installed_change}
use Rattle.view_core.specs.declared.refusal.Refusal as refusal
use Rattle.view_core.specs.declared.refusal.Refusal.TheVariants as reasons
use Rattle.member_reads.specs.Shown.{member_in}
use Rattle.group_member.specs.After.{rank_of, view_after}
use Rattle.group_member.specs.Placed.{Placed, here_in, step_in, step_at, step_of, member_after, taken_at, SamePlace}
use Rattle.group_member.specs.Placed.{Takes}
use Rattle.group_member.specs.Stepping.{stack_of, plans_in, codes_in, mode_of, IsGround, step_over, taken_over}
use Rattle.group_member.specs.Stepping.{HasTaken}
use Rattle.group_member.specs.Working.{states_in, taken_in, IsReady}
use Rattle.group_member.specs.declared.ground.Ground.{Ground}
use Rattle.group_member.specs.declared.ground.Took.{Took}
use Rattle.group_member.specs.declared.scratch.Scratch.{Scratch}
use Rattle.group_member.specs.declared.works.Works.{Works}

-- a member has its rank in its view, and stands there
pub ranked : (m : Inside) (view : View) → IsMember m → m.view ≡ Some view → IsRankIn (Some view) m.id m.rank
ranked m view is at = subst (λ (v : Option View). IsRankIn v m.id m.rank) at is.rank_is

counted : (m : Inside) (view : View) → IsMember m → m.view ≡ Some view → IsCountIn (Some view) m.count
counted m view is at = subst (λ (v : Option View). IsCountIn v m.count) at is.count_is

abbrev pub here_at : Inside → View → Here
here_at m view = record { group = m.group; stamp = m.stamp; view = view; rank = m.rank }

pub stands : (m : Inside) (view : View) → IsMember m → m.view ≡ Some view →
    here_at m view ≡ here_in (placed_member m) view
stands m view is at = ap (λ (r : ℕ). record { group = m.group; stamp = m.stamp; view = view; rank = r })
    (ranked m view is at).0

-- a member in no view refuses all
pub refused_out : (p : Placed) (input : Input) → p.member ≡ out → step_of p input ≡ Err (refusal_meant reasons.Out)
refused_out p input is = ap (λ (m : Member). step_at p m input) is

module _ (p : Placed) (view : View) (states : List State) (input : Input) (is : p.member ≡ inside view states) where
  -- one in a view refuses what doesn't enter
  pub refused_in : (reason : refusal.Refusal) → entered_input p.stack p.plans (here_in p view) input ≡
      Err (refusal_meant reason) →
      step_of p input ≡ Err (refusal_meant reason)
  refused_in reason not = ap (λ (m : Member). step_at p m input) is ∙
      ap (λ (e : Result Entered Refusal). step_in p view states e) not

  -- and takes what does
  abbrev its : Entered → Step
  its what = step_from p.stack (here_in p view) p.id states what

  pub steps_in : (what : Entered) → entered_input p.stack p.plans (here_in p view) input ≡ Ok what →
      step_of p input ≡ Ok (its what)
  steps_in what enters = ap (λ (m : Member). step_at p m input) is ∙
      ap (λ (e : Result Entered Refusal). step_in p view states e) enters

  pub takes : (g : Ground) (what : Entered) (old works : Works) (gathered : Gathered) (before after : ℕ) (took : Took)
      (new : Placed) →
      stack_of g ≡ p.stack → plans_in g ≡ p.plans → mode_of g ≡ p.mode → g.here.now ≡ here_in p view → g.id ≡ p.id →
      entered_input p.stack p.plans (here_in p view) input ≡ Ok what →
      HasTaken g old what works gathered before after took →
      states_in old ≡ states → p.taken ≡ taken_in old →
      new.member ≡ member_in (view_after g.here.now.view took.change) (states_in works) → new.taken ≡ taken_in works →
      SamePlace p new →
      Takes p input new gathered.outputs before after took.common took.change
  takes g what old works gathered before after took new stack plans mode here id enters taken are told member tells
      place =
      let same : step_over g (states_in old) what ≡ its what = λ i. step_from (stack i) (here i) (id i) (are i) what in
      let common : is_common (stack_of g) (plans_in g) (step_over g (states_in old) what) ≡
      is_common p.stack p.plans (its what) =
      λ i. is_common (stack i) (plans i) (same i) in
      let ran : taken_over g (states_in old) what (taken_in old) ≡ taken_at p p.member what =
      (λ i. taken_after (stack i) (are i) (first_task (stack i) (here i).rank what) (sym told i)) ∙
      ap (λ (m : Member). taken_at p m what) (sym is)
      in record {
        step = its what;
        is = steps_in what enters;
        member =
            member ∙ taken.member ∙ (λ i. member_following (here i).view (same i))
            ∙ ap (λ (m : Member). member_after m (its what)) (sym is);
        outputs = taken.outputs ∙ (λ i. as_sent (mode i) (stack i) (plans i) (same i));
        common_is = taken.common ∙ common;
        change_is = taken.change ∙ ap (λ (s : Step). installed_change s.installs) same;
        visits = taken.visits ∙ (λ i. before + visit_count (mode i) (stack i) (plans i) (same i));
        taken_is =
            subst (λ (xs : List ℕ). IsTakenSo p.mode (is_common p.stack p.plans (its what)) p.taken
            (taken_at p p.member what) xs) (sym tells)
            (subst (λ (xs : List ℕ). IsTakenSo p.mode (is_common p.stack p.plans (its what)) p.taken xs
            (taken_in works)) ran
            (subst (λ (xs : List ℕ). IsTakenSo p.mode (is_common p.stack p.plans (its what)) xs
            (taken_over g (states_in old) what (taken_in old))
            (taken_in works)) (sym told)
            (subst (λ (b : Bool). IsTakenSo p.mode b (taken_in old) (taken_over g (states_in old) what (taken_in old))
            (taken_in works)) common
            (subst (λ (m : Mode). IsTakenSo m (is_common (stack_of g) (plans_in g) (step_over g (states_in old) what))
            (taken_in old)
            (taken_over g (states_in old) what (taken_in old)) (taken_in works)) mode taken.taken))));
        place = place;
      }

-- a member that opens is one between two steps
pub opened_member : (stack : List LayerTree) (most : ℕ) (view : View) (id : ℕ) (old new : Making) (w : Works) →
    TypedStack stack → IsView view →
    most ≡ member_count view → IsOpening stack view id old new w →
    IsReady stack most w × IsIn stack most view id (states_in w)
opened_member stack most view id old new w typed is_view same opening = (
  subst (λ (n : ℕ). IsReady stack n w) (sym same) opening.ready,
  record {
    inside_is = subst (λ (m : Member). IsChainedMember stack m) opening.member
        (opened_is_chained stack view id typed is_view);
    members = subst (λ (n : ℕ). HasMembers stack n view id (states_in w)) (sym same) opening.members;
  },
)

-- what a step works over is sound
pub ground_is : (m : Inside) (g : Ground) (view : View) → IsMember m → m.view ≡ Some view →
    g.stack.now ≡ rc_value m.stack →
    g.plans.now ≡ rc_value m.plans → g.entries.now ≡ m.entries → g.starts.now ≡ m.starts → codes_in g ≡ codes_kept m →
    g.bare.now ≡ m.bare → g.here.now.view ≡ view → g.here.now.group < 2 ^ 32 → g.here.now.stamp < 2 ^ 32 →
    g.here.now.rank ≡ m.rank → g.count ≡ m.count → g.id ≡ m.id → IsGround g
ground_is m g view is at stack plans entries starts codes bare here group stamp rank_is count_is id_is =
    let there : IsAt (stack_tree (rc_value m.stack)) m.most m.id (Some view) (states_in m.kit.works) =
    subst (λ (v : Option View). IsAt (stack_tree (rc_value m.stack)) m.most m.id v (states_in m.kit.works)) at is.at in
    let its = ranked m view is at in record {
      typed = subst (λ (s : Stack). TypedStack (stack_tree s)) (sym stack) is.typed;
      plans = ap plans_tree plans ∙ is.plans_are ∙ ap (λ (s : Stack). plans_of (stack_tree s)) (sym stack);
      entries = ap rc_value entries ∙ is.entries_are ∙
          (λ i. short_shapes (stack_tree (sym stack i)) (plans_tree (sym plans i)));
      starts = ap starts_tree starts ∙ is.starts_are ∙ ap (λ (s : Stack). starts_of (stack_tree s)) (sym stack);
      codes = subst (λ (s : Stack). AreCodes (stack_tree s) (codes_in g)) (sym stack)
          (subst (λ (c : Option CodesTree). AreCodes (stack_tree (rc_value m.stack)) c) (sym codes) is.codes_are);
      bare = bare ∙ is.bare;
      here = record {
        group = group;
        stamp = stamp;
        view = subst (λ (v : View). IsView v) (sym here) there.inside_is.view_is;
        rank = subst (λ (r : ℕ). r < most_members) (sym rank_is) its.1;
      };
      rank = rank_is ∙ its.0 ∙ (λ i. rank_of (sym here i) (sym id_is i));
      count = count_is ∙ (counted m view is at).0 ∙ ap member_count (sym here);
      few = subst (λ (n : ℕ). n ≤ most_members) (sym count_is) (counted m view is at).1;
    }

-- what runs of code keep serves for what is equal
pub spare_for : (codes codes' : Option CodesTree) (plans plans' : Plans) (s : Scratch) → codes ≡ codes' →
    plans ≡ plans' →
    IsSpare codes (plans_tree plans) s → IsSpare codes' (plans_tree plans') s
spare_for codes codes' plans plans' s same also spare =
    subst (λ (c : Option CodesTree). IsSpare c (plans_tree plans') s) same
    (subst (λ (p : Plans). IsSpare codes (plans_tree p) s) also spare)

-- what is judged enters in range
pub entered_is : (m : Inside) (stack other : Stack) (plans : Plans) (here : Here) (input : Input) (entry : Entry) →
    IsMember m → stack ≡ rc_value
    m.stack →
    other ≡ rc_value m.stack → plans ≡ rc_value m.plans → IsInput input →
    entered_input (stack_tree stack) (plans_tree plans) here input ≡ Ok (entry_meant here entry) →
    IsEntered (stack_tree other) (entry_meant here entry)
entered_is m stack other plans here input entry is at too with small enters =
    let its : entered_input (stack_tree other) (plans_of (stack_tree other)) here input ≡ Ok (entry_meant here entry) =
    (λ i. entered_input (stack_tree ((too ∙ sym at) i))
    ((ap (λ (s : Stack). plans_of (stack_tree s)) too ∙ sym is.plans_are ∙ ap plans_tree (sym with)) i) here input)
    ∙ enters in
    inputs_are_in_range (stack_tree other) here input (entry_meant here entry)
    (subst (λ (s : Stack). TypedStack (stack_tree s)) (sym too)
    is.typed) small its

-- what enters is the same for what is equal
pub entered_same : (stack stack' : Stack) (plans plans' : Plans) (here here' : Here) (input : Input)
    (r : Result Entered Refusal) → stack ≡ stack' →
    plans ≡ plans' → here ≡ here' → entered_input (stack_tree stack) (plans_tree plans) here input ≡ r →
    entered_input (stack_tree stack') (plans_tree plans') here' input ≡ r
entered_same stack stack' plans plans' here here' input r at with there is =
    (λ i. entered_input (stack_tree (sym at i)) (plans_tree (sym with i)) (sym there i) input) ∙ is

-- plans are laid out, and there is room for their fields, where they are equal to those for which this is so
pub laid_for : (stack stack' : Stack) (plans plans' : Plans) (layouts : Layouts) → stack ≡ stack' → plans ≡ plans' →
    AreLaidOut (stack_tree stack') (plans_tree plans') layouts →
    AreLaidOut (stack_tree stack) (plans_tree plans) layouts
laid_for stack stack' plans plans' layouts at with is =
    subst (λ (s : Stack). AreLaidOut (stack_tree s) (plans_tree plans) layouts) (sym at)
    (subst (λ (p : Plans). AreLaidOut (stack_tree stack') (plans_tree p) layouts) (sym with) is)

pub room_for : (most : ℕ) (plans plans' : Plans) → plans ≡ plans' →
    AllByRecursion (HasAtMost most) (plans_tree plans') → AllByRecursion (HasAtMost most) (plans_tree plans)
room_for most plans plans' with is = subst (λ (p : Plans). AllByRecursion (HasAtMost most) (plans_tree p)) (sym with) is

-- so is what reading told of a packet
pub known_for : (plans plans' : Plans) (kept : List ℕ) (entry : Entry) → plans ≡ plans' →
    IsKnown (plans_tree plans) kept entry → IsKnown (plans_tree plans') kept entry
known_for plans plans' kept entry with is = subst (λ (p : Plans). IsKnown (plans_tree p) kept entry) with is
