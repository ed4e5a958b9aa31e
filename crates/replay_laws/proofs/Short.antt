-- An output is sent short under the plan of its position in the shape of the step's case.
use Rattle.std.proofs.Common.{◌≡◌, refl, sym, ◌∙◌, ap, subst, ℕ, zero, suc, ◌+◌, ◌<◌, Bool, true, false, ◌&&◌, List, []}
use Rattle.std.proofs.Common.{◌∷◌, ◌++◌, map, length, Option, Some, None, inl, inr, arith}
use Rattle.std.specs.Prelude.{◌↔◌, ◌⊎◌, filter, slice_get, if◌then◌else◌, take, option_map}
use Rattle.std.specs.List.{AllByRecursion, flat_map, sum_by}
use Rattle.std.specs.Option.{option_and_then, option_map_or}
use Rattle.std.proofs.lemmas.Bool.{and_parts}
use Rattle.std.proofs.lemmas.Option.{slice_get-map}
use Rattle.msg_core.specs.declared.packet.Packet.{Packet}
use Rattle.layer_words.specs.declared.events.Dir.{Dir}
use Rattle.layer_words.specs.declared.events.Kind.{Kind}
use Rattle.layer_words.specs.declared.events.Kind.TheVariants as kind
use Rattle.layer_mean.specs.declared.run.Case.{Case}
use Rattle.layer_mean.specs.declared.run.Case.TheVariants.{First, Second}
use Rattle.layer_mean.specs.declared.run.Event.{Event}
use Rattle.layer_mean.specs.Tree.{LayerTree}
use Rattle.layer_mean.specs.State.{State}
use Rattle.layer_mean.specs.Marked.{Logged}
use Rattle.layer_mean.specs.Queue.{run, is_predicted}
use Rattle.packet_mean.specs.Spelling.{full_form, short_form, full_bytes, short_bytes}
use Rattle.packet_mean.specs.declared.here.Here.{Here}
use Rattle.stack_mean.specs.Plan.{Plan}
use Rattle.stack_mean.specs.Plans.{plans_limit, is_packet, plan_of, outs_of, Group, groups, packets_of, plans_before}
use Rattle.stack_mean.specs.Plans.{plans_of}
use Rattle.stack_mean.specs.Acceptance.{weight_limit}
use Rattle.stack_mean.specs.Shape.{ShapeOut, entry_task, shape}
use Rattle.stack_mean.specs.Shape as entry
use Rattle.run_mean.specs.Mode.{layered, bypass}
use Rattle.run_mean.specs.Common.{is_short, is_common_in, case_of, is_planned, first_plan, with_plans, as_sent, wire}
use Rattle.run_mean.specs.Member as member
use Rattle.run_mean.specs.Member.{Entered, app_cast, app_send, app_leave, clock_tick, from_peer, Output, first_task}
use Rattle.run_mean.specs.Member.{output_of, Step, step_from}
use Rattle.shape_laws.specs.Known.{Pairwise, BeginsAs}
use Rattle.shape_laws.specs.Law.{marked_run, OutIs}
use Rattle.shape_laws.proofs.Law.{predicted_runs_have_the_shape}
use Rattle.shape_laws.proofs.Marks.{logs_tell_runs}
use Rattle.member_laws.proofs.Lists.{from_take, in_group}
use Rattle.member_laws.proofs.Outputs.{planned_same}
use Rattle.member_laws.proofs.Fit.{was_made}
use Rattle.member_laws.specs.Steps.{IsStep}
use Rattle.member_laws.proofs.Bare.{typed_runs_are_bare}
use Rattle.member_laws.proofs.Wires.{first_is}
use Rattle.replay_laws.specs.Short.{own_group, group_outs, packets_before, HasPlan, IsShort, ShortExactlyWhere}
use Rattle.replay_laws.specs.Short.{LayeredIsFull, AreShort, WiresAreShortWhereDue}

-- outputs without plans

no_plans : (plans : List Plan) (outputs : List Output) →
    AllByRecursion (λ x. x.1 ≡ None) (with_plans plans None outputs)
no_plans plans [] = tt
no_plans plans (o ∷ outputs) = go (is_planned o) (no_plans plans outputs) where
  go : (b : Bool) → AllByRecursion (λ x. x.1 ≡ None) (with_plans plans None outputs) →
      AllByRecursion (λ x. x.1 ≡ None)
      ((o, if b then None else None) ∷ with_plans plans (if b then None else None) outputs)
  go true rest = (refl, rest)
  go false rest = (refl, rest)

pub layered_is_full : LayeredIsFull
layered_is_full stack s = no_plans _ s.outputs

at_place : {A : Type 0} (P : A → Type 0) (xs : List A) (i : ℕ) (x : A) → AllByRecursion P xs → slice_get xs i ≡ Some x →
    P x
at_place P [] i x h is = absurd (cc is)
at_place P (y ∷ xs) zero x h is = let e : y ≡ x = cc is in subst P e h.0
at_place P (y ∷ xs) (suc i) x h is = at_place P xs i x h.1 is

-- outputs of a run and of a shape

-- an output is at the edge and of the kind of a shape's
record Sent (o : ShapeOut) (x : Dir × Event) : Type 0 where
  dir : o.dir ≡ x.0
  kind : o.kind ≡ x.1.kind

sent_of : (os : List ShapeOut) (logged : List (Logged Event)) → Pairwise OutIs os logged →
    Pairwise Sent os (map (λ x. (x.dir, x.marked.event)) logged)
sent_of [] [] is = tt
sent_of (o ∷ os) (x ∷ logged) is = (record { dir = is.0.dir; kind = is.0.kind }, sent_of os logged is.1)
sent_of [] (x ∷ logged) is = absurd is
sent_of (o ∷ os) [] is = absurd is

-- the output of a shape at a position is a packet that has plan number k, where the plans of these outputs begin at a
-- number
record Planned (plans : List Plan) (os : List ShapeOut) (first position k : ℕ) : Type 0 where
  out : ShapeOut
  stands : slice_get os position ≡ Some out
  packet : is_packet out out.dir ≡ true
  is : k ≡ first + packets_before os position
  plan : Plan
  listed : slice_get plans k ≡ Some plan

some_same : {A : Type 0} (x y : A) → Some x ≡ Some y → x ≡ y
some_same x y e = cc e

pair_is : (o p : Output) (x y : Option ℕ) → ◌≡◌ {A = Option (Output × Option ℕ)} (Some (o, x)) (Some (p, y)) → x ≡ y
pair_is o p x y e = ap (λ (z : Output × Option ℕ). z.1) (some_same (o, x) (p, y) e)

-- an output under a plan, the first of those whose plans begin at a number
own_plan : (plans : List Plan) (os : List ShapeOut) (s : ShapeOut) (first k : ℕ) (b c : Bool) → c ≡ b →
    is_packet s s.dir ≡ b →
    (found : Option Plan) → slice_get plans first ≡ found →
    ((if c then option_map (λ plan. first) found else None) ≡ Some k) ↔ Planned plans (s ∷ os) first 0 k
own_plan plans os s first k true true same packet (Some plan) at = (
  (λ e. let same : first ≡ k = some_same first k e in record {
    out = s;
    stands = refl;
    packet = packet;
    is = omega (arith, same);
    plan = plan;
    listed = subst (λ n. slice_get plans n ≡ Some plan) same at;
  }),
  (λ h. let same : first ≡ k = omega (arith, h.is) in ap Some same),
)
own_plan plans os s first k true true same packet None at = (
  (λ e. absurd (cc e)),
  (λ h. let same : first ≡ k = omega (arith, h.is) in
      absurd (none_some (sym at ∙ ap (slice_get plans) same ∙ h.listed))),
) where
  none_some : {A : Type 0} {x : A} → ◌≡◌ {A = Option A} None (Some x) → ⊥
  none_some e = cc e
own_plan plans os s first k false false same packet found at = (
  (λ e. absurd (cc e)),
  (λ h. let e : s ≡ h.out = some_same s h.out h.stands in
      absurd (true_false (sym h.packet ∙ sym (ap (λ (x : ShapeOut). is_packet x x.dir) e) ∙ packet))),
) where
  true_false : true ≡ false → ⊥
  true_false e = cc e
own_plan plans os s first k true false same packet found at = absurd (cc same)
own_plan plans os s first k false true same packet found at = absurd (cc same)

-- the packets before a position that comes after an output
before_more : (s : ShapeOut) (os : List ShapeOut) (i : ℕ) (b : Bool) → is_packet s s.dir ≡ b →
    packets_before (s ∷ os) (suc i) ≡ (if b then suc (packets_before os i) else packets_before os i)
before_more s os i b is =
    subst (λ c. length (if c then s ∷ packets else packets) ≡
    (if b then suc (packets_before os i) else packets_before os i)) (sym is) (same b)
  where
    packets : List ShapeOut
    packets = filter (λ out. is_packet out out.dir) (take i os)

    same : (c : Bool) → length (if c then s ∷ packets else packets) ≡
        (if c then suc (packets_before os i) else packets_before os i)
    same true = refl
    same false = refl

-- the plan of a position among further outputs
further : (plans : List Plan) (s : ShapeOut) (os : List ShapeOut) (first i k : ℕ) (b : Bool) → is_packet s s.dir ≡ b →
    Planned plans os (if b then first + 1 else first) i k ↔ Planned plans (s ∷ os) first (suc i) k
further plans s os first i k b is_packet_out = (
  (λ h. record {
    out = h.out;
    stands = h.stands;
    packet = h.packet;
    is = there b (before_more s os i b is_packet_out) h.is;
    plan = h.plan;
    listed = h.listed;
  }),
  (λ h. record {
    out = h.out;
    stands = h.stands;
    packet = h.packet;
    is = back b (before_more s os i b is_packet_out) h.is;
    plan = h.plan;
    listed = h.listed;
  }),
) where
  n : ℕ
  n = packets_before os i

  m : ℕ
  m = packets_before (s ∷ os) (suc i)

  there : (c : Bool) → m ≡ (if c then suc n else n) → k ≡ (if c then first + 1 else first) + n → k ≡ first + m
  there true more is = omega (arith, more, is)
  there false more is = omega (arith, more, is)

  back : (c : Bool) → m ≡ (if c then suc n else n) → k ≡ first + m → k ≡ (if c then first + 1 else first) + n
  back true more is = omega (arith, more, is)
  back false more is = omega (arith, more, is)

both : {A B C : Type 0} → (A ↔ B) → (B ↔ C) → (A ↔ C)
both f g = (λ x. g.0 (f.0 x), λ x. f.1 (g.1 x))

-- the outputs of a run, whose shape's outputs these are
sent_where : (here : Here) (plans : List Plan) (os : List ShapeOut) (xs : List (Dir × Event)) → Pairwise Sent os xs →
    (first position k : ℕ) (o : Output)
    (plan : Option ℕ) → slice_get (with_plans plans (Some first) (map (output_of here) xs)) position ≡ Some (o, plan) →
    (plan ≡ Some k) ↔ Planned plans os first position k
sent_where here plans [] [] same first position k o plan at = absurd (cc at)
sent_where here plans (s ∷ os) (x ∷ xs) same first zero k o plan at =
    go (is_planned (output_of here x)) refl at where
      go : (c : Bool) → is_planned (output_of here x) ≡ c →
          ◌≡◌ {A = Option (Output × Option ℕ)}
          (Some (
            output_of here x,
            if is_planned (output_of here x) then option_map (λ plan. first) (slice_get plans first) else None,
          ))
          (Some (o, plan)) →
          (plan ≡ Some k) ↔ Planned plans (s ∷ os) first 0 k
      go c is at =
          let packet : is_planned (output_of here x) ≡ is_packet s s.dir =
          planned_same here s x same.0.dir same.0.kind in
          let e = pair_is _ _ _ _ at in
          subst (λ p. (p ≡ Some k) ↔ Planned plans (s ∷ os) first 0 k) e
          (own_plan plans os s first k (is_packet s s.dir) (is_planned (output_of here x)) packet refl
          (slice_get plans first) refl)
sent_where here plans (s ∷ os) (x ∷ xs) same first (suc i) k o plan at =
    let packet : is_planned (output_of here x) ≡ is_packet s s.dir = planned_same here s x same.0.dir same.0.kind in
    go (is_planned (output_of here x)) (sym packet) at
    (λ n following. sent_where here plans os xs same.1 n i k o plan following)
  where
    go : (c : Bool) → is_packet s s.dir ≡ c →
        slice_get (with_plans plans (if c then Some (first + 1) else Some first) (map (output_of here) xs)) i ≡
        Some (o, plan) →
        ((n : ℕ) → slice_get (with_plans plans (Some n) (map (output_of here) xs)) i ≡ Some (o, plan) →
        (plan ≡ Some k) ↔ Planned plans os n i k) →
        (plan ≡ Some k) ↔ Planned plans (s ∷ os) first (suc i) k
    go true is at rest = both (rest (first + 1) at) (further plans s os first i k true is)
    go false is at rest = both (rest first at) (further plans s os first i k false is)
sent_where here plans [] (x ∷ xs) same first position k o plan at = absurd same
sent_where here plans (s ∷ os) [] same first position k o plan at = absurd same

-- the plans of a group

-- a packet among outputs, by its place among the packets
packet_at : (os : List ShapeOut) (i : ℕ) (s : ShapeOut) → slice_get os i ≡ Some s → is_packet s s.dir ≡ true →
    slice_get (filter (λ out. is_packet out out.dir) os) (packets_before os i) ≡ Some s
packet_at [] i s at packet = absurd (cc at)
packet_at (o ∷ os) zero s at packet =
    let e : o ≡ s = some_same o s at in
    subst (λ b. slice_get
    (if b then o ∷ filter (λ out. is_packet out out.dir) os else filter (λ out. is_packet out out.dir) os) 0 ≡
    Some s)
    (sym packet ∙ sym (ap (λ (x : ShapeOut). is_packet x x.dir) e)) at
packet_at (o ∷ os) (suc i) s at packet = go (is_packet o o.dir) refl (packet_at os i s at packet) where
  go : (b : Bool) → is_packet o o.dir ≡ b → slice_get (filter (λ out. is_packet out out.dir) os) (packets_before os i) ≡
      Some s →
      slice_get (if b then o ∷ filter (λ out. is_packet out out.dir) os else filter (λ out. is_packet out out.dir) os)
      (length (if b then o ∷ filter (λ out. is_packet out out.dir) (take i os) else filter
      (λ out. is_packet out out.dir) (take i os))) ≡ Some s
  go true is rest = rest
  go false is rest = rest

get_below : {A : Type 0} (xs : List A) (i : ℕ) (x : A) → slice_get xs i ≡ Some x → i < length xs
get_below [] i x e = absurd (cc e)
get_below (y ∷ xs) zero x e = omega arith
get_below (y ∷ xs) (suc i) x e = let less = get_below xs i x e in omega (arith, less)

-- what plan number k of a group is, if there is one
own_plan_is : (stack : List LayerTree) (before : List Group) (g : Group) (rest : List Group) →
    groups ≡ before ++ g ∷ rest → (i : ℕ) (s : ShapeOut)
    (plan : Plan) → slice_get (packets_of stack g) i ≡ Some s →
    slice_get (plans_of stack) (sum_by (λ x. length (packets_of stack x)) before + i) ≡ Some plan → plan_of s ≡ plan
own_plan_is stack before g rest are i s plan at listed =
    let first = sum_by (λ x. length (packets_of stack x)) before in
    let all = flat_map (packets_of stack) groups in
    let there : slice_get all (first + i) ≡ Some s =
    ap (λ gs. slice_get (flat_map (packets_of stack) gs) (first + i)) are
    ∙ in_group (packets_of stack) before g rest i (get_below (packets_of stack g) i s at) ∙ at in
    some_same (plan_of s) plan
    (sym (ap (option_map plan_of) there) ∙ sym (slice_get-map plan_of all (first + i)) ∙
    from_take plans_limit (map plan_of all) (first + i) plan listed)

-- groups by their numbers

abbrev code_of : Case → Kind → ℕ
code_of First kind.Cast = 0
code_of First _ = 1
code_of Second kind.Cast = 2
code_of Second _ = 3

abbrev code : Group → ℕ
code g = code_of g.case g.entry.kind

abbrev coded : Option Group → ℕ → ℕ
coded None n = n
coded (Some g) n = code g

number_coded : (n : ℕ) → coded (slice_get groups n) n ≡ n
number_coded zero = refl
number_coded (suc zero) = refl
number_coded (suc (suc zero)) = refl
number_coded (suc (suc (suc zero))) = refl
number_coded (suc (suc (suc (suc n)))) = refl

one_number : (g : Group) (n : ℕ) → slice_get groups n ≡ Some g → n ≡ code g
one_number g n at = sym (number_coded n) ∙ ap (λ o. coded o n) at

-- a step of an application that is common in a case

abbrev first_of : List LayerTree → List Group → ℕ
first_of stack before = sum_by (λ x. length (packets_of stack x)) before

group_where : (stack : List LayerTree) (here : Here) (states : List State) (what : Entered) →
    IsStep stack here states what →
    (before : List Group) (g : Group) (rest : List Group) → groups ≡ before ++ g ∷ rest →
    BeginsAs (entry_task stack g.entry) (first_task stack here.rank what) →
    (is_short (shape stack g.entry g.case) &&
    is_predicted g.case (run weight_limit stack states (first_task stack here.rank what)).world) ≡ true →
    (position k : ℕ) (o : Output) (plan : Option ℕ) →
    slice_get (with_plans (plans_of stack) (Some (first_of stack before))
    (map (output_of here) (run weight_limit stack states (first_task stack here.rank what)).world.outs)) position ≡
    Some (o, plan) →
    (plan ≡ Some k) ↔ Planned (plans_of stack) (group_outs stack g) (first_of stack before) position k
group_where stack here states what h before g rest are begins common position k o plan at =
    let task = first_task stack here.rank what in
    let parts = and_parts (is_short (shape stack g.entry g.case)) _ common in
    let made = was_made (shape stack g.entry g.case) parts.0 in
    let log = (marked_run stack states task).world in
    let bare = typed_runs_are_bare g.case stack states task h.typed h.states_are (first_is stack here states what h) in
    let has = predicted_runs_have_the_shape g.case stack g.entry made.0 states task made.1 begins bare parts.1 in
    let told = (logs_tell_runs stack states task weight_limit).outs in
    let pairs = subst (Pairwise Sent made.0.outs) told (sent_of made.0.outs log.outs has.outs) in
    subst (λ os. (plan ≡ Some k) ↔ Planned (plans_of stack) os (first_of stack before) position k)
    (ap outs_of (sym made.1))
    (sent_where here (plans_of stack) made.0.outs _ pairs (first_of stack before) position k o plan at)

-- of which group a step is, and that it begins as such
record IsOwn (stack : List LayerTree) (here : Here) (what : Entered) (case : Case) : Type 0 where
  before : List Group
  group : Group
  rest : List Group
  are : groups ≡ before ++ group ∷ rest
  own : own_group what case ≡ Some group
  case_is : group.case ≡ case
  number_is : code group ≡ length before
  numbered : slice_get groups (code group) ≡ Some group
  first_is : first_plan stack what case ≡ Some (first_of stack before)
  same_first : plans_before stack (code group) ≡ first_of stack before
  begins : BeginsAs (entry_task stack group.entry) (first_task stack here.rank what)

-- what is planned is planned under its own plan
planned_is : (stack : List LayerTree) (here : Here) (what : Entered) (case : Case) (own : IsOwn stack here what case)
    (position k : ℕ) →
    Planned (plans_of stack) (group_outs stack own.group) (first_of stack own.before) position k ↔
    HasPlan stack (code own.group) own.group position k
planned_is stack here what case own position k = (
  (λ h. let k_is : k ≡ plans_before stack (code own.group) + packets_before (group_outs stack own.group) position =
      h.is ∙ ap (λ n. n + packets_before (group_outs stack own.group) position) (sym own.same_first) in record {
        out = h.out;
        stands = h.stands;
        packet = h.packet;
        is = k_is;
        listed =
            let same = own_plan_is stack own.before own.group own.rest own.are
            (packets_before (group_outs stack own.group) position) h.out h.plan
            (packet_at (group_outs stack own.group) position h.out h.stands h.packet)
            (ap (slice_get (plans_of stack)) (sym h.is) ∙ h.listed) in
            h.listed ∙ ap Some (sym same);
      }),
  (λ h. record {
    out = h.out;
    stands = h.stands;
    packet = h.packet;
    is = h.is ∙ ap (λ n. n + packets_before (group_outs stack own.group) position) own.same_first;
    plan = plan_of h.out;
    listed = h.listed;
  }),
)

own_of : (stack : List LayerTree) (here : Here) (what : Entered) (case : Case) → (first_plan stack what case ≡ None) ×
    (own_group what case ≡ None) ⊎
    IsOwn stack here what case
own_of stack here (app_cast body) First = inr (record {
  before = [];
  group = record { entry = entry.app_cast; case = First };
  rest = _;
  are = refl;
  own = refl;
  case_is = refl;
  number_is = refl;
  numbered = refl;
  first_is = refl;
  same_first = refl;
  begins = record { at = refl; dir = refl; event = record { kind = refl; message = tt } };
})
own_of stack here (app_send to body) First = inr (record {
  before = record { entry = entry.app_cast; case = First } ∷ [];
  group = record { entry = entry.app_send; case = First };
  rest = _;
  are = refl;
  own = refl;
  case_is = refl;
  number_is = refl;
  numbered = refl;
  first_is = refl;
  same_first = refl;
  begins = record { at = refl; dir = refl; event = record { kind = refl; message = tt } };
})
own_of stack here (app_cast body) Second = inr (record {
  before = record { entry = entry.app_cast; case = First } ∷ record { entry = entry.app_send; case = First } ∷ [];
  group = record { entry = entry.app_cast; case = Second };
  rest = _;
  are = refl;
  own = refl;
  case_is = refl;
  number_is = refl;
  numbered = refl;
  first_is = refl;
  same_first = refl;
  begins = record { at = refl; dir = refl; event = record { kind = refl; message = tt } };
})
own_of stack here (app_send to body) Second = inr (record {
  before = record { entry = entry.app_cast; case = First } ∷ record { entry = entry.app_send; case = First } ∷
      record { entry = entry.app_cast; case = Second } ∷ [];
  group = record { entry = entry.app_send; case = Second };
  rest = _;
  are = refl;
  own = refl;
  case_is = refl;
  number_is = refl;
  numbered = refl;
  first_is = refl;
  same_first = refl;
  begins = record { at = refl; dir = refl; event = record { kind = refl; message = tt } };
})
own_of stack here app_leave case = inl (refl, refl)
own_of stack here (clock_tick moment) case = inl (refl, refl)
own_of stack here (from_peer p) case = inl (refl, refl)

-- what is common in a case has a shape there, and went so
common_is : (stack : List LayerTree) (here : Here) (id : ℕ) (states : List State) (what : Entered) (case : Case)
    (own : IsOwn stack here what case) →
    is_common_in stack (plans_of stack) (step_from stack here id states what) case ≡ true →
    (is_short (shape stack own.group.entry own.group.case)
    && is_predicted own.group.case (run weight_limit stack states (first_task stack here.rank what)).world) ≡ true
common_is stack here id states (app_cast body) case own is =
    let e : record { entry = entry.app_cast; case = case } ≡ own.group = some_same _ own.group own.own in
    subst (λ (g : Group). (is_short (shape stack g.entry g.case)
    && is_predicted g.case (run weight_limit stack states (first_task stack here.rank (app_cast body))).world) ≡ true) e
    is
common_is stack here id states (app_send to body) case own is =
    let e : record { entry = entry.app_send; case = case } ≡ own.group = some_same _ own.group own.own in
    subst (λ (g : Group). (is_short (shape stack g.entry g.case)
    && is_predicted g.case (run weight_limit stack states (first_task stack here.rank (app_send to body))).world) ≡
    true) e is
common_is stack here id states app_leave case own is = absurd (cc own.own)
common_is stack here id states (clock_tick moment) case own is = absurd (cc own.own)
common_is stack here id states (from_peer p) case own is = absurd (cc own.own)

-- the case of a step is one in which it is common
case_common : (stack : List LayerTree) (plans : List Plan) (s : Step) (case : Case) →
    case_of stack plans s ≡ Some case →
    is_common_in stack plans s case ≡ true
case_common stack plans s case is = go (is_common_in stack plans s First) (is_common_in stack plans s Second) refl refl
    is where
      go : (x y : Bool) → is_common_in stack plans s First ≡ x → is_common_in stack plans s Second ≡ y →
          (if x then Some First else if y then Some Second else None) ≡ Some case → is_common_in stack plans s case ≡
          true
      go true y first second e = subst (λ c. is_common_in stack plans s c ≡ true) (some_same First case e) first
      go false true first second e = subst (λ c. is_common_in stack plans s c ≡ true) (some_same Second case e) second
      go false false first second e = absurd (cc e)

-- a step that isn't short at all
never_short : (stack : List LayerTree) (s : Step) (position k : ℕ) (o : Output) (plan : Option ℕ) →
    slice_get (with_plans (plans_of stack) None s.outputs) position ≡ Some (o, plan) →
    (IsShort stack s position k → ⊥) →
    (plan ≡ Some k) ↔ IsShort stack s position k
never_short stack s position k o plan at never = (
  (λ e. absurd (none_some
      (sym (at_place (λ x. x.1 ≡ None) _ position (o, plan) (no_plans (plans_of stack) s.outputs) at) ∙ e))),
  (λ h. absurd (never h)),
) where
  none_some : None ≡ Some k → ⊥
  none_some e = cc e

pub short_exactly_where : ShortExactlyWhere
short_exactly_where stack here id states what h position o plan at k =
    go (case_of stack (plans_of stack) s) refl at where
      s : Step
      s = step_from stack here id states what

      some_none : {A : Type 0} {x : A} → ◌≡◌ {A = Option A} (Some x) None → ⊥
      some_none e = cc e

      in_case : (case : Case) → case_of stack (plans_of stack) s ≡ Some case →
          (first_plan stack what case ≡ None) × (own_group what case ≡ None) ⊎ IsOwn stack here what case →
          slice_get (with_plans (plans_of stack) (first_plan stack what case) s.outputs) position ≡ Some (o, plan) →
          (plan ≡ Some k) ↔ IsShort stack s position k
      in_case case is (inl none) at = never_short stack s position k o plan
          (subst (λ n. slice_get (with_plans (plans_of stack) n s.outputs) position ≡ Some (o, plan)) none.0 at)
          (λ short. let e : short.case ≡ case = some_same short.case case (sym short.common ∙ is) in
          some_none (sym short.own ∙ ap (own_group what) e ∙ none.1))
      in_case case is (inr own) at =
          let planned = group_where stack here states what h own.before own.group own.rest own.are own.begins
          (common_is stack here id states what case own (case_common stack (plans_of stack) s case is)) position k o
          plan
          (subst (λ n. slice_get (with_plans (plans_of stack) n s.outputs) position ≡ Some (o, plan)) own.first_is at)
          in
          let exact = both planned (planned_is stack here what case own position k) in (
            (λ e. record {
              case = case;
              common = is;
              group = own.group;
              own = own.own;
              number = code own.group;
              numbered = own.numbered;
              plan = exact.0 e;
            }),
            (λ short.
                let e : short.case ≡ case = some_same short.case case (sym short.common ∙ is) in
                let same : short.group ≡ own.group =
                some_same short.group own.group (sym short.own ∙ ap (own_group what) e ∙ own.own) in
                let number : short.number ≡ code own.group = one_number short.group short.number short.numbered ∙
                ap code same in
                exact.1 (subst {A = ℕ × Group} (λ x. HasPlan stack x.0 x.1 position k) (λ i. (number i, same i))
                short.plan)),
          )

      go : (c : Option Case) → case_of stack (plans_of stack) s ≡ c →
          slice_get (with_plans (plans_of stack) (option_and_then (first_plan stack what) c) s.outputs) position ≡
          Some (o, plan) →
          (plan ≡ Some k) ↔ IsShort stack s position k
      go None is at = never_short stack s position k o plan at (λ short. some_none (sym short.common ∙ is))
      go (Some case) is at = in_case case is (own_of stack here what case) at

-- bytes

-- a full spelling isn't short, and a short one is
full_or_short : (p : Packet) → AreShort (full_bytes p) → ⊥
full_or_short p e =
    let same : full_form ≡ short_form = some_same full_form short_form e in
    absurd (omega (arith, same))

-- what is sent under a plan that there is
wire_short : (plans : List Plan) (p : Packet) (k : ℕ) (plan : Plan) (found : Option Plan) → slice_get plans k ≡ found →
    found ≡ Some plan →
    AreShort (wire plans p (Some k))
wire_short plans p k plan (Some q) at is =
    let spelled : short_bytes k q p ≡ wire plans p (Some k) =
    ap (λ o. option_map_or (λ plan. short_bytes k plan p) o (full_bytes p)) (sym at) in
    subst AreShort spelled refl
wire_short plans p k plan None at is = absurd (cc is)

full_where : (stack : List LayerTree) (s : Step) (position : ℕ) (p : Packet) (plan : Option ℕ) →
    slice_get (as_sent layered stack (plans_of stack) s) position ≡ Some (member.packet p, plan) →
    AreShort (wire (plans_of stack) p plan) → ⊥
full_where stack s position p plan at short =
    let none : plan ≡ None = at_place (λ x. x.1 ≡ None) _ position (member.packet p, plan) (layered_is_full stack s) at
    in
    full_or_short p (subst (λ n. AreShort (wire (plans_of stack) p n)) none short)

pub wires_are_short_where_due : WiresAreShortWhereDue
wires_are_short_where_due layered stack here id states what h position p plan at = (
  (λ short. absurd (full_where stack (step_from stack here id states what) position p plan at short)),
  (λ due. absurd due),
)
wires_are_short_where_due bypass stack here id states what h position p plan at = (
  (λ short. go plan refl short),
  (λ due.
      let under : plan ≡ Some due.0 = (exact due.0).1 due.1 in
      subst (λ n. AreShort (wire (plans_of stack) p n)) (sym under)
      (wire_short (plans_of stack) p due.0 _ (slice_get (plans_of stack) due.0) refl due.1.plan.listed)),
) where
  s : Step
  s = step_from stack here id states what

  exact : (k : ℕ) → (plan ≡ Some k) ↔ IsShort stack s position k
  exact k = short_exactly_where stack here id states what h position (member.packet p) plan at k

  go : (n : Option ℕ) → plan ≡ n → AreShort (wire (plans_of stack) p plan) → (k : ℕ) × IsShort stack s position k
  go None none short = absurd (full_or_short p (subst (λ n. AreShort (wire (plans_of stack) p n)) none short))
  go (Some k) under short = (k, (exact k).0 under)
