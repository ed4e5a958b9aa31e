-- What a predicted step sends fits its plans.
use Rattle.std.proofs.Common.{arith, ◌≡◌, refl, sym, ◌∙◌, ap, subst, ℕ, zero, suc, ◌+◌, ◌<◌, Bool, true, false, ◌&&◌}
use Rattle.std.proofs.Common.{List, [], ◌∷◌, ◌++◌, map, length, Option, Some, None, inl, inr}
use Rattle.std.specs.Prelude.{slice_get, if◌then◌else◌, IsSomeAnd, Result, Ok, Err, take, option_map}
use Rattle.std.specs.List.{All, filter, flat_map, sum_by}
use Rattle.std.specs.Option.{option_and_then, option_map_or}
use Rattle.std.proofs.lemmas.Bool.{and_parts}
use Rattle.std.proofs.lemmas.List.Elements.{All-cons, All-nil}
use Rattle.std.proofs.lemmas.Option.{slice_get-map}
use Rattle.layer_words.specs.declared.events.Dir.{Dir}
use Rattle.layer_mean.specs.declared.run.Case.{Case}
use Rattle.layer_mean.specs.declared.run.Case.TheVariants.{First, Second}
use Rattle.layer_mean.specs.declared.run.Event.{Event}
use Rattle.layer_mean.specs.Tree.{LayerTree}
use Rattle.layer_mean.specs.State.{State}
use Rattle.layer_mean.specs.Marked.{Logged}
use Rattle.layer_mean.specs.Queue.{Task, run, is_predicted}
use Rattle.msg_core.specs.declared.packet.Packet.{Packet}
use Rattle.packet_mean.specs.Plan.{fits}
use Rattle.packet_mean.specs.Spelling.{full_bytes, short_bytes, IsSpellable, SpellsPacket}
use Rattle.packet_mean.specs.declared.here.Here.{Here}
use Rattle.stack_mean.specs.NoShape.{NoShape}
use Rattle.stack_mean.specs.Plan.{Plan}
use Rattle.stack_mean.specs.Plans.{plans_limit, is_packet, plan_of, outs_of, Group, groups, packets_of, plans_of}
use Rattle.stack_mean.specs.Acceptance.{weight_limit}
use Rattle.stack_mean.specs.Shape.{Known, ShapeOut, Shape, entry_task, shape}
use Rattle.stack_mean.specs.Shape as entry
use Rattle.run_mean.specs.Mode.{layered, bypass}
use Rattle.run_mean.specs.Common.{is_short, is_common_in, is_planned, first_plan, with_plans}
use Rattle.run_mean.specs.Member.{Entered, app_cast, app_send, app_leave, clock_tick, from_peer, Output, packet}
use Rattle.run_mean.specs.Member.{first_task, output_of, Step, step_from}
use Rattle.shape_laws.specs.Bare.{BareRun}
use Rattle.shape_laws.specs.Known.{Pairwise, BeginsAs, HeadersAre}
use Rattle.shape_laws.specs.Law.{headers_in, run_start, marked_run, OutIs}
use Rattle.shape_laws.proofs.Law.{predicted_runs_have_the_shape}
use Rattle.shape_laws.proofs.Marks.{logs_tell_runs}
use Rattle.member_laws.specs.Fit.{FitsItsPlan, WireSpells, IsBare, PredictedPacketsFit, ShortWiresSpell}
use Rattle.member_laws.proofs.Lists.{from_take, in_group}
use Rattle.member_laws.proofs.Outputs.{FitsPlan, planned_same, output_fits}

right_zero : (n : ℕ) → n + 0 ≡ n
right_zero n = omega arith

step : (n i : ℕ) → n + suc i ≡ n + 1 + i
step n i = omega arith

-- An output of a run is that of a shape, without its maker.
record Sent (o : ShapeOut) (x : Dir × Event) : Type 0 where
  dir : o.dir ≡ x.0
  kind : o.kind ≡ x.1.kind
  headers : HeadersAre o.headers (headers_in x.1)

sent_of : (os : List ShapeOut) (logged : List (Logged Event)) → Pairwise OutIs os logged →
    Pairwise Sent os (map (λ x. (x.dir, x.marked.event)) logged)
sent_of [] [] is = tt
sent_of (o ∷ os) (x ∷ logged) is =
    (record { dir = is.0.dir; kind = is.0.kind; headers = is.0.headers }, sent_of os logged is.1)
sent_of [] (x ∷ logged) is = absurd is
sent_of (o ∷ os) [] is = absurd is

-- The packet outputs among a shape's.
abbrev packets_among : List ShapeOut → List ShapeOut
packets_among os = filter (λ out. is_packet out out.dir) os

-- From a number on, the plans are those of these packets, as far as there are plans.
abbrev PlansFrom : List Plan → ℕ → List ShapeOut → Type 0
PlansFrom plans k packets = (i : ℕ) (plan : Plan) → i < length packets → slice_get plans (k + i) ≡ Some plan →
    slice_get (map plan_of packets) i ≡ Some plan

-- Outputs without plans.
unplanned : (plans : List Plan) (o : Output) → FitsItsPlan plans (o, None)
unplanned plans (packet p) = tt
unplanned plans _ = tt

none_planned : (plans : List Plan) (outputs : List Output) → All (FitsItsPlan plans) (with_plans plans None outputs)
none_planned plans [] = All-nil (FitsItsPlan plans)
none_planned plans (o ∷ outputs) = go (is_planned o) (none_planned plans outputs) where
  go : (b : Bool) → All (FitsItsPlan plans) (with_plans plans None outputs) →
      All (FitsItsPlan plans) ((o, if b then None else None) ∷ with_plans plans (if b then None else None) outputs)
  go true more = All-cons (FitsItsPlan plans) (o, None) _ (unplanned plans o) more
  go false more = All-cons (FitsItsPlan plans) (o, None) _ (unplanned plans o) more

-- An output that has a plan fits it, where the plan is its own.
has_plan : (plans : List Plan) (k : ℕ) (y : Output) (plan : Plan) → slice_get plans k ≡ Some plan → FitsPlan plan y →
    FitsItsPlan plans (y, Some k)
has_plan plans k (packet p) plan is fit = subst (λ found. IsSomeAnd found (λ q. fits q p ≡ true)) (sym is) fit
has_plan plans k _ plan is fit = tt

some_once : {A : Type 0} (x y : A) → Some x ≡ Some y → x ≡ y
some_once x y e = cc

-- The outputs of a run fit the plans from a number on, where these are those of its shape.
outputs_fit : (here : Here) (plans : List Plan) (k : ℕ) (os : List ShapeOut) (xs : List (Dir × Event)) →
    Pairwise Sent os xs →
    PlansFrom plans k (packets_among os) → All (FitsItsPlan plans) (with_plans plans (Some k) (map (output_of here) xs))
outputs_fit here plans k [] [] is from = All-nil (FitsItsPlan plans)
outputs_fit here plans k (o ∷ os) (x ∷ xs) is from =
    go (is_packet o o.dir) (is_planned (output_of here x)) (planned_same here o x is.0.dir is.0.kind) from
    (λ n more. outputs_fit here plans n os xs is.1 more)
  where
    y : Output
    y = output_of here x

    found : Option Plan → Option ℕ
    found p = option_map (λ plan. k) p

    following : (n : ℕ) → All (FitsItsPlan plans) (with_plans plans (Some n) (map (output_of here) xs)) →
        (next : Option ℕ) → FitsItsPlan plans (y, next) →
        All (FitsItsPlan plans) ((y, next) ∷ with_plans plans (Some n) (map (output_of here) xs))
    following n more next fit = All-cons (FitsItsPlan plans) (y, next) _ fit more

    own : (from : PlansFrom plans k (o ∷ packets_among os)) (p : Option Plan) → slice_get plans k ≡ p →
        FitsItsPlan plans (y, found p)
    own from None is_none = unplanned plans y
    own from (Some plan) is_plan =
        let at : slice_get plans (k + 0) ≡ Some plan = ap (slice_get plans) (right_zero k) ∙ is_plan in
        let same : plan_of o ≡ plan = some_once _ _ (from 0 plan (omega arith) at) in
        has_plan plans k y plan is_plan (subst (λ q. FitsPlan q y) same (output_fits here o x is.0.kind is.0.headers))

    further : PlansFrom plans k (o ∷ packets_among os) → PlansFrom plans (k + 1) (packets_among os)
    further from i plan less at = from (suc i) plan (omega (arith, less)) (ap (slice_get plans) (step k i) ∙ at)

    go : (b c : Bool) → c ≡ b → PlansFrom plans k (if b then o ∷ packets_among os else packets_among os) →
        ((n : ℕ) → PlansFrom plans n (packets_among os) →
        All (FitsItsPlan plans) (with_plans plans (Some n) (map (output_of here) xs))) →
        All (FitsItsPlan plans) ((y, if c then found (slice_get plans k) else None) ∷
        with_plans plans (if c then Some (k + 1) else Some k) (map (output_of here) xs))
    go true true e from rest = following (k + 1) (rest (k + 1) (further from)) (found (slice_get plans k))
        (own from (slice_get plans k) refl)
    go false false e from rest = following k (rest k from) None (unplanned plans y)
    go true false e from rest = absurd (cc e)
    go false true e from rest = absurd (cc e)
outputs_fit here plans k [] (x ∷ xs) is from = absurd is
outputs_fit here plans k (o ∷ os) [] is from = absurd is

-- The plans of a group stand from its first number on.
group_plans : (stack : List LayerTree) (before : List Group) (g : Group) (rest : List Group) (s : Shape) →
    shape stack g.entry g.case ≡ Ok s →
    groups ≡ before ++ g ∷ rest →
    PlansFrom (plans_of stack) (sum_by (λ x. length (packets_of stack x)) before) (packets_among s.outs)
group_plans stack before g rest s made are i plan less at =
    let own : packets_of stack g ≡ packets_among s.outs = ap (λ r. packets_among (outs_of r)) made in
    let all = flat_map (packets_of stack) groups in
    let first = sum_by (λ x. length (packets_of stack x)) before in
    let fewer : i < length (packets_of stack g) = subst (λ os. i < length os) (sym own) less in
    let there : slice_get all (first + i) ≡ slice_get (packets_of stack g) i =
    ap (λ gs. slice_get (flat_map (packets_of stack) gs) (first + i)) are ∙
    in_group (packets_of stack) before g rest i fewer in
    slice_get-map plan_of (packets_among s.outs) i
    ∙ ap (λ os. option_map plan_of (slice_get os i)) (sym own)
    ∙ ap (option_map plan_of) (sym there)
    ∙ sym (slice_get-map plan_of all (first + i))
    ∙ from_take plans_limit (map plan_of all) (first + i) plan at

-- A step that begins as an application's own event and is common in a case.
pub group_fits : (stack : List LayerTree) (here : Here) (states : List State) (task : Task Event) (before : List Group)
    (g : Group) (rest : List Group)
    (s : Shape) → shape stack g.entry g.case ≡ Ok s → groups ≡ before ++ g ∷ rest →
    BeginsAs (entry_task stack g.entry) task →
    BareRun g.case stack (run_start states task) → is_predicted g.case (run weight_limit stack states task).world ≡
    true →
    All (FitsItsPlan (plans_of stack))
    (with_plans (plans_of stack) (Some (sum_by (λ x. length (packets_of stack x)) before))
    (map (output_of here) (run weight_limit stack states task).world.outs))
group_fits stack here states task before g rest s made are begins bare predicted =
    let log = (marked_run stack states task).world in
    let has = predicted_runs_have_the_shape g.case stack g.entry s states task made begins bare predicted in
    let told = (logs_tell_runs stack states task weight_limit).outs in
    outputs_fit here (plans_of stack) _ s.outs _ (subst (Pairwise Sent s.outs) told (sent_of s.outs log.outs has.outs))
    (group_plans stack before g rest s made are)

pub was_made : (r : Result Shape NoShape) → is_short r ≡ true → (s : Shape) × (r ≡ Ok s)
was_made (Ok s) e = (s, refl)
was_made (Err reason) e = absurd (cc e)

-- Where its entry has a shape and its run goes as predicted, a step's outputs fit the plans of the group.
abbrev begins_here : List LayerTree → Here → Entered → Known → Type 0
begins_here stack here what k = BeginsAs (entry_task stack k) (first_task stack here.rank what)

grouped : (stack : List LayerTree) (here : Here) (states : List State) (what : Entered) (before : List Group)
    (g : Group) (rest : List Group) →
    groups ≡ before ++ g ∷ rest → begins_here stack here what g.entry → IsBare stack here states what →
    (is_short (shape stack g.entry g.case) &&
    is_predicted g.case (run weight_limit stack states (first_task stack here.rank what)).world) ≡ true →
    All (FitsItsPlan (plans_of stack))
    (with_plans (plans_of stack) (Some (sum_by (λ x. length (packets_of stack x)) before))
    (map (output_of here) (run weight_limit stack states (first_task stack here.rank what)).world.outs))
grouped stack here states what before g rest are begins bare common =
    let parts = and_parts (is_short (shape stack g.entry g.case)) _ common in
    let made = was_made (shape stack g.entry g.case) parts.0 in
    group_fits stack here states (first_task stack here.rank what) before g rest made.0 made.1 are begins (bare g.case)
    parts.1

in_case : (stack : List LayerTree) (here : Here) (id : ℕ) (states : List State) (what : Entered) (case : Case) →
    IsBare stack here states what → is_common_in stack (plans_of stack) (step_from stack here id states what) case ≡
    true →
    All (FitsItsPlan (plans_of stack))
    (with_plans (plans_of stack) (first_plan stack what case) (step_from stack here id states what).outputs)
in_case stack here id states (app_cast body) First bare common =
    grouped stack here states (app_cast body) [] (record { entry = entry.app_cast; case = First }) _ refl
    (record { at = refl; dir = refl; event = record { kind = refl; message = tt } }) bare common
in_case stack here id states (app_send to body) First bare common =
    grouped stack here states (app_send to body) (record { entry = entry.app_cast; case = First } ∷ [])
    (record { entry = entry.app_send; case = First }) _ refl
    (record { at = refl; dir = refl; event = record { kind = refl; message = tt } }) bare common
in_case stack here id states (app_cast body) Second bare common =
    grouped stack here states (app_cast body)
    (record { entry = entry.app_cast; case = First } ∷ record { entry = entry.app_send; case = First } ∷ [])
    (record { entry = entry.app_cast; case = Second }) _ refl
    (record { at = refl; dir = refl; event = record { kind = refl; message = tt } }) bare common
in_case stack here id states (app_send to body) Second bare common =
    grouped stack here states (app_send to body)
    (record { entry = entry.app_cast; case = First } ∷ record { entry = entry.app_send; case = First } ∷
    record { entry = entry.app_cast; case = Second } ∷ [])
    (record { entry = entry.app_send; case = Second }) _ refl
    (record { at = refl; dir = refl; event = record { kind = refl; message = tt } }) bare common
in_case stack here id states app_leave case bare common = none_planned (plans_of stack) _
in_case stack here id states (clock_tick moment) case bare common = none_planned (plans_of stack) _
in_case stack here id states (from_peer p) case bare common = none_planned (plans_of stack) _

pub predicted_packets_fit : PredictedPacketsFit
predicted_packets_fit layered stack here id states what bare = none_planned (plans_of stack) _
predicted_packets_fit bypass stack here id states what bare =
    go (is_common_in stack (plans_of stack) s First) (is_common_in stack (plans_of stack) s Second) refl refl
  where
    s : Step
    s = step_from stack here id states what

    chosen : Bool → Bool → Option Case
    chosen x y = if x then Some First else if y then Some Second else None

    go : (x y : Bool) → is_common_in stack (plans_of stack) s First ≡ x → is_common_in stack (plans_of stack) s Second ≡
        y →
        All (FitsItsPlan (plans_of stack))
        (with_plans (plans_of stack) (option_and_then (first_plan stack what) (chosen x y)) s.outputs)
    go true y first second = in_case stack here id states what First bare first
    go false true first second = in_case stack here id states what Second bare second
    go false false first second = none_planned (plans_of stack) s.outputs

-- What fits its plan is spelled by its short form, and every packet by its full one.
from_within : (n : ℕ) (xs : List Plan) (i : ℕ) (x : Plan) → slice_get (take n xs) i ≡ Some x → i < n
from_within zero xs i x e = absurd (cc e)
from_within (suc n) [] i x e = absurd (cc e)
from_within (suc n) (y ∷ xs) zero x e = omega arith
from_within (suc n) (y ∷ xs) (suc i) x e = let less = from_within n xs i x e in omega (arith, less)

listed_is_byte : (stack : List LayerTree) (k : ℕ) (plan : Plan) → slice_get (plans_of stack) k ≡ Some plan → k < 256
listed_is_byte stack k plan is =
    let less : k < 250 = from_within plans_limit (map plan_of (flat_map (packets_of stack) groups)) k plan is in
    omega (arith, less)

spelled_short : (stack : List LayerTree) (p : Packet) (k : ℕ) (found : Option Plan) → slice_get (plans_of stack) k ≡
    found →
    IsSomeAnd found (λ plan. fits plan p ≡ true) → IsSpellable stack p →
    SpellsPacket stack (plans_of stack) (option_map_or (λ plan. short_bytes k plan p) found (full_bytes p)) p
spelled_short stack p k (Some plan) is fit spellable = record {
  spellable = spellable;
  spelled = inr (record {
    number = k;
    plan = plan;
    is_byte = listed_is_byte stack k plan is;
    listed = is;
    fitting = fit;
    spelled = refl;
  });
}
spelled_short stack p k None is fit spellable = absurd fit

wire_spells : (stack : List LayerTree) (x : Output × Option ℕ) → FitsItsPlan (plans_of stack) x →
    WireSpells stack (plans_of stack) x
wire_spells stack (packet p, None) fit = λ spellable. record { spellable = spellable; spelled = inl refl }
wire_spells stack (packet p, Some k) fit = λ spellable. spelled_short stack p k (slice_get (plans_of stack) k) refl fit
    spellable
wire_spells stack _ fit = tt

pub short_wires_spell : ShortWiresSpell
short_wires_spell mode stack here id states what bare =
    λ k d less. wire_spells stack _ (predicted_packets_fit mode stack here id states what bare k d less)
