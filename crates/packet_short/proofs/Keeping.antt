-- The variable fields are kept while it is found whether headers are as a plan says.
use Rattle.std.proofs.Common.{◌≡◌, ℕ, zero, suc, ◌+◌, ◌<◌, ◌≤◌, Bool, true, false, List, [], ◌∷◌, ◌++◌, Option, Some}
use Rattle.std.proofs.Common.{sym, ap, ◌∙◌, subst, arith, length, drop, get_or, add-one, map, take, take-suc}
use Rattle.std.specs.Prelude.{flat_map, slice_get}
use Rattle.std.specs.List.{AllByRecursion}
use Rattle.std.proofs.lemmas.List.{map-append}
use Rattle.msg_core.specs.declared.message.Header.{Header}
use Rattle.packet_mean.specs.Plan.{variable}
use Rattle.stack_mean.specs.Plan.{Plan}
use Rattle.stack_shapes.specs.Lists.{plan_tree}
use Rattle.stack_shapes.specs.declared.types.Plan as code
use Rattle.packet_short.specs.Keeping.{HasAtMost, KeepsIf, kept_by}
use Rattle.packet_short.specs.Shortened.{KeepsVariable}
use Rattle.packet_short.proofs.Alike.{left_at}

-- those of one more header were kept
pub one_more_kept : (whole old new : List ℕ) (planned rest : List (Option ℕ)) (hs : List Header) (k : ℕ) (h : Header) →
    k < length hs →
    h ≡ get_or hs k h → whole ≡ old ++ variable planned (flat_map (λ h. h.fields) (drop k hs)) →
    KeepsVariable planned h.fields rest old new →
    whole ≡ new ++ variable rest (flat_map (λ h. h.fields) (drop (k + 1) hs))
one_more_kept whole old new planned rest hs k h below is so_far keeps =
    so_far
    ∙ ap (λ xs. old ++ variable planned (flat_map (λ h. h.fields) xs)) (left_at hs k h below is)
    ∙ keeps (flat_map (λ h. h.fields) (drop (k + 1) hs))

-- all are kept, whether they agree or not
pub kept_if : (fits : Bool) (fields kept : List ℕ) → kept ≡ fields → KeepsIf fits fields kept
kept_if true fields kept is = is
kept_if false fields kept is = tt

-- there is room for the fields of a plan of the list
pub has_room : (most : ℕ) (plans : List Plan) (k : ℕ) (plan : Plan) → AllByRecursion (HasAtMost most) plans →
    k < length plans →
    plan ≡ get_or plans k plan → length plan.fields ≤ most
has_room most [] k plan all below is = absurd (omega arith)
has_room most (p ∷ ps) zero plan all below is = subst (λ (q : Plan). length q.fields ≤ most) (sym is) all.0
has_room most (p ∷ ps) (suc k) plan all below is = has_room most ps k plan all.1 (omega arith) is

-- what was kept is what the plan of a number leaves variable
kept_at : (plans : List Plan) (k : ℕ) (plan : Plan) (fields kept : List ℕ) → k < length plans →
    plan ≡ get_or plans k plan →
    kept ≡ variable plan.fields fields → kept ≡ kept_by plans (Some k) fields
kept_at [] k plan fields kept below is are = absurd (omega arith)
kept_at (p ∷ ps) zero plan fields kept below is are = are ∙ ap (λ (q : Plan). variable q.fields fields) is
kept_at (p ∷ ps) (suc k) plan fields kept below is are = kept_at ps k plan fields kept (omega arith) is are

pub kept_of : (plans : List Plan) (k : ℕ) (plan : Plan) (fits : Bool) (fields kept : List ℕ) → k < length plans →
    plan ≡ get_or plans k plan →
    fits ≡ true → KeepsIf fits (variable plan.fields fields) kept → kept ≡ kept_by plans (Some k) fields
kept_of plans k plan fits fields kept below is so keeps =
    kept_at plans k plan fields kept below is (subst (λ b. KeepsIf b (variable plan.fields fields) kept) so keeps)

-- what was kept where headers fit the first plan is what that plan leaves variable
pub kept_first : (plans : List Plan) (plan : Plan) (fits : Bool) (fields kept : List ℕ) →
    Some plan ≡ slice_get plans 0 →
    KeepsIf fits (variable plan.fields fields) kept → KeepsIf fits (kept_by plans (Some 0) fields) kept
kept_first [] plan fits fields kept is keeps = absurd (cc is)
kept_first (p ∷ ps) plan fits fields kept is keeps =
    let same : plan ≡ p = cc is in
    subst (λ (q : Plan). KeepsIf fits (variable q.fields fields) kept) same keeps

-- there is room for its fields
pub room_first : (most : ℕ) (plans : List Plan) (plan : Plan) → AllByRecursion (HasAtMost most) plans →
    Some plan ≡ slice_get plans 0 →
    length plan.fields ≤ most
room_first most [] plan all is = absurd (cc is)
room_first most (p ∷ ps) plan all is =
    let same : p ≡ plan = cc is in
    subst (λ (q : Plan). length q.fields ≤ most) same all.0

-- plans with at most some number of fields each have no more than a larger number
all_so : (most next : ℕ) → most ≤ next → (plans : List Plan) → AllByRecursion (HasAtMost most) plans →
    AllByRecursion (HasAtMost next) plans
all_so most next larger [] all = tt
all_so most next larger (p ∷ ps) all = (omega (arith, all.0, larger), all_so most next larger ps all.1)

all_and : (most : ℕ) (plans : List Plan) (plan : Plan) → AllByRecursion (HasAtMost most) plans →
    length plan.fields ≤ most → AllByRecursion (HasAtMost most) (plans ++ plan ∷ [])
all_and most [] plan all few = (few, tt)
all_and most (p ∷ ps) plan all few = (all.0, all_and most ps plan all.1 few)

one_more : (plans : List code.Plan) (i : ℕ) (plan : code.Plan) → i < length plans → plan ≡ get_or plans i plan →
    map plan_tree (take (i + 1) plans) ≡ map plan_tree (take i plans) ++ plan_tree plan ∷ []
one_more plans i plan within is =
    ap (λ (n : ℕ). map plan_tree (take n plans)) (add-one i)
    ∙ ap (map plan_tree) (take-suc plans i plan within ∙ ap (λ (p : code.Plan). take i plans ++ p ∷ []) (sym is))
    ∙ map-append plan_tree (take i plans) (plan ∷ [])

pub fields_step : (plans : List code.Plan) (i : ℕ) (plan : code.Plan) (most next : ℕ) → i < length plans →
    plan ≡ get_or plans i plan →
    AllByRecursion (HasAtMost most) (map plan_tree (take i plans)) → most ≤ next →
    length (plan_tree plan).fields ≤ next →
    AllByRecursion (HasAtMost next) (map plan_tree (take (i + 1) plans))
fields_step plans i plan most next within is so_far larger fits =
    subst (λ (all : List Plan). AllByRecursion (HasAtMost next) all) (sym (one_more plans i plan within is))
    (all_and next (map plan_tree (take i plans)) (plan_tree plan)
    (all_so most next larger (map plan_tree (take i plans)) so_far) fits)
