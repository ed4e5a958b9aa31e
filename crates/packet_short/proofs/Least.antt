-- The least plan that headers fit is found among those of one print.
use Rattle.std.proofs.Common.{◌≡◌, ◌≢◌, ℕ, ◌+◌, ◌-◌, ◌<◌, Bool, true, false, List, [], ◌∷◌, Option, Some, None, refl}
use Rattle.std.proofs.Common.{sym, ap, ◌∙◌, subst, arith, length, get_or, map}
use Rattle.std.specs.Prelude.{◌==◌, ◌&&◌, IfSome, slice_get, position, nat_lt, bytes_eq, flat_map, if◌then◌else◌}
use Rattle.std.specs.List.{position_or_len}
use Rattle.std.proofs.lemmas.Bool.{eqb-true, eqb-false, ltb-true, ltb-false, lt-ltb}
use Rattle.std.proofs.lemmas.List.{get_or-map, get_or_read, length-map}
use Rattle.std.proofs.lemmas.List.Sums.{position_or_len_is}
use Rattle.std.proofs.lemmas.Slice.Eq.{bytes_eq-Decides}
use denote.Enum.Bare.{sameb, same_true}
use Rattle.msg_core.specs.declared.message.Header.{Header}
use Rattle.layer_words.specs.contracts.events.Kind as kind_row
use Rattle.layer_words.specs.declared.events.Kind.{Kind}
use Rattle.stack_mean.specs.Plan.{Plan}
use Rattle.packet_mean.specs.Plan.{agree}
use Rattle.packet_laws.proofs.Planned.{both}
use Rattle.stack_shapes.specs.declared.types.Plan as code
use Rattle.stack_shapes.specs.Lists.{plan_tree}
use Rattle.stack_shapes.specs.Prints.{IsNext, plan_print, print_at, print_of}
use Rattle.packet_short.specs.Fits.{first_fits, fits_headers}

-- how many plans are still to be looked at
abbrev pub still : List Plan → Option ℕ → ℕ
still plans None = 0
still plans (Some k) = length plans - k

-- the place of the next plan, after the last one where there is none
abbrev pub place : List Plan → Option ℕ → ℕ
place plans None = length plans
place plans (Some k) = k

-- the next plan is one of the print, and no plan before it fits
pub record Stands (plans : List Plan) (fit : Plan → Bool) (print : ℕ) (next : Option ℕ) : Type 0 where
  pub found : IfSome next (λ k. (k < length plans) × (print_at plans k ≡ print))
  pub unfit : (j : ℕ) (d : Plan) → j < place plans next → fit (get_or plans j d) ≡ false

-- a plan that fits has the print
abbrev pub Prints : List Plan → (Plan → Bool) → ℕ → Type 0
Prints plans fit print = (plan : Plan) → fit plan ≡ true → plan_print plan ≡ print

unprinted : (plans : List Plan) (fit : Plan → Bool) (print : ℕ) → Prints plans fit print → (j : ℕ) (d : Plan) →
    j < length plans →
    print_at plans j ≢ print → fit (get_or plans j d) ≡ false
unprinted plans fit print prints j d below other = by_test (fit (get_or plans j d)) refl
  where
    by_test : (fits : Bool) → fit (get_or plans j d) ≡ fits → fits ≡ false
    by_test false is = refl
    by_test true is = absurd (other (get_or-map plan_print plans j d 0 below ∙ prints (get_or plans j d) is))

from_next : (plans : List Plan) (fit : Plan → Bool) (print from : ℕ) (next : Option ℕ) → Prints plans fit print →
    ((j : ℕ) (d : Plan) → j < from → fit (get_or plans j d) ≡ false) → IsNext plans print from next →
    Stands plans fit print next
from_next plans fit print from (Some k) prints unfit is = record {
  found = (is.listed, is.printed);
  unfit = λ j d less. by_place j d less (nat_lt j from) refl;
}
  where
    by_place : (j : ℕ) (d : Plan) → j < k → (first : Bool) → nat_lt j from ≡ first → fit (get_or plans j d) ≡ false
    by_place j d less true test = unfit j d (ltb-true j from test)
    by_place j d less false test =
        unprinted plans fit print prints j d (omega (arith, is.listed)) (is.least j (ltb-false j from test) less)
from_next plans fit print from None prints unfit is = record {
  found = tt;
  unfit = λ j d less. by_place j d less (nat_lt j from) refl;
}
  where
    by_place : (j : ℕ) (d : Plan) → j < length plans → (first : Bool) → nat_lt j from ≡ first →
        fit (get_or plans j d) ≡ false
    by_place j d less true test = unfit j d (ltb-true j from test)
    by_place j d less false test = unprinted plans fit print prints j d less (is j (ltb-false j from test) less)

pub begun : (plans : List Plan) (fit : Plan → Bool) (print : ℕ) (next : Option ℕ) → Prints plans fit print →
    IsNext plans print 0 next →
    Stands plans fit print next
begun plans fit print next prints is = from_next plans fit print 0 next prints (λ j d less. absurd (omega arith)) is

-- a plan that doesn't fit is passed over
pub passed : (plans : List Plan) (fit : Plan → Bool) (print k : ℕ) (plan : Plan) (next : Option ℕ) →
    Prints plans fit print →
    Stands plans fit print (Some k) → plan ≡ get_or plans k plan → fit plan ≡ false →
    IsNext plans (print_at plans k) (k + 1) next →
    Stands plans fit print next
passed plans fit print k plan next prints stands at misfit is =
    from_next plans fit print (k + 1) next prints (λ j d less. by_place j d less (j == k) refl)
    (subst (λ p. IsNext plans p (k + 1) next) stands.found.1 is)
  where
    by_place : (j : ℕ) (d : Plan) → j < k + 1 → (same : Bool) → (j == k) ≡ same → fit (get_or plans j d) ≡ false
    by_place j d less true test =
        ap (λ i. fit (get_or plans i d)) (eqb-true j k test)
        ∙ ap fit (sym (get_or_read plans k plan stands.found.0 at d)) ∙ misfit
    by_place j d less false test = let other = eqb-false j k test in stands.unfit j d (omega arith)

-- the next plan is further on
pub further : (plans : List Plan) (print k : ℕ) (next : Option ℕ) → k < length plans → IsNext plans print (k + 1) next →
    still plans next < still plans (Some k)
further plans print k (Some m) below is = omega (arith, is.from_on, is.listed)
further plans print k None below is = omega arith

position_by : {X : Type 0} (p : X → Bool) (xs : List X) (n : ℕ) (there : Bool) → position_or_len p xs ≡ n →
    nat_lt n (length xs) ≡ there →
    position p xs ≡ (if there then Some n else None)
position_by p xs n there is test = rw (is, test) refl

-- the first plan that fits
pub found_least : (plans : List Plan) (fit : Plan → Bool) (print k : ℕ) (plan : Plan) →
    Stands plans fit print (Some k) →
    plan ≡ get_or plans k plan → fit plan ≡ true → Some k ≡ position fit plans
found_least plans fit print k plan stands at fits =
    sym (position_by fit plans k true
    (position_or_len_is fit plans k plan (omega (arith, stands.found.0)) (λ j less. stands.unfit j plan less)
    (λ below. ap fit (sym at) ∙ fits))
    (lt-ltb k (length plans) stands.found.0))

not_less : (n : ℕ) (less : Bool) → nat_lt n n ≡ less → less ≡ false
not_less n true is = let below = ltb-true n n is in absurd (omega arith)
not_less n false is = refl

-- no plan fits
pub found_none : (plans : List Plan) (fit : Plan → Bool) (print : ℕ) (d : Plan) → Stands plans fit print None →
    None ≡ position fit plans
found_none plans fit print d stands =
    sym (position_by fit plans (length plans) false
    (position_or_len_is fit plans (length plans) d (omega arith) (λ j less. stands.unfit j d less)
    (λ below. absurd (omega arith)))
    (not_less (length plans) (nat_lt (length plans) (length plans)) refl))

-- a plan that headers of a packet fit has the packet's print
pub printed : (kind : Kind) (headers : List Header) (plan : Plan) → fits_headers kind headers plan ≡ true →
    plan_print plan ≡ print_of kind (map (λ h. h.tag) headers)
printed kind headers plan fit =
    let tags : List ℕ = map (λ h. h.tag) headers in
    let split = both (sameb kind_row.the_type plan.kind kind && bytes_eq plan.tags tags)
    (agree plan.fields (flat_map (λ h. h.fields) headers)) fit in
    let names = both (sameb kind_row.the_type plan.kind kind) (bytes_eq plan.tags tags) split.0 in
    let same : plan.kind ≡ kind = same_true kind_row.the_type tt plan.kind kind names.0 in
    let tagged : plan.tags ≡ tags = (bytes_eq-Decides plan.tags tags).0 names.1 in
    λ x. print_of (same x) (tagged x)

-- the plan of a number, as the code keeps it
pub listed : (plans : List Plan) (kept : List code.Plan) (k at : ℕ) (plan : code.Plan) → map plan_tree kept ≡ plans →
    at ≡ k →
    plan ≡ get_or kept at plan → k < length plans → plan_tree plan ≡ get_or plans k (plan_tree plan)
listed plans kept k at plan shown same is below =
    ap plan_tree is ∙ ap (λ i. plan_tree (get_or kept i plan)) same
    ∙ sym (ap (λ ps. get_or ps k (plan_tree plan)) (sym shown)
    ∙ get_or-map plan_tree kept k plan (plan_tree plan)
    (omega (arith, below, ap length shown, length-map kept plan_tree)))

-- whether the first plan fits
pub at_first : (plans : List Plan) (fit : Plan → Bool) (plan : Plan) (fits : Bool) → Some plan ≡ slice_get plans 0 →
    fits ≡ fit plan →
    fits ≡ first_fits fit plans
at_first [] fit plan fits is are = absurd (cc is)
at_first (p ∷ ps) fit plan fits is are = are ∙ ap fit (cc is)

pub no_first : (plans : List Plan) (fit : Plan → Bool) → None ≡ slice_get plans 0 → false ≡ first_fits fit plans
no_first [] fit none = refl
no_first (p ∷ ps) fit none = absurd (cc none)

-- it is the least then
pub least_first : (plans : List Plan) (fit : Plan → Bool) → true ≡ first_fits fit plans → Some 0 ≡ position fit plans
least_first [] fit fits = absurd (cc fits)
least_first (p ∷ ps) fit fits =
    sym (position_by fit (p ∷ ps) 0 true
    (position_or_len_is fit (p ∷ ps) 0 p (omega arith) (λ j less. absurd (omega arith)) (λ below. sym fits))
    (lt-ltb 0 (length (p ∷ ps)) (omega arith)))
