-- Plans are numbered by prints from the last to the first.
use Rattle.std.proofs.Common.{◌≡◌, ◌≢◌, ℕ, ◌+◌, ◌<◌, ◌≤◌, Bool, true, false, List, length, map, get_or, replicate}
use Rattle.std.proofs.Common.{Option, Some, None, refl, sym, ap, ◌∙◌, subst, arith}
use Rattle.std.specs.Prelude.{slice_set, ◌==◌}
use Rattle.std.proofs.lemmas.Bool.{eqb-true, eqb-false}
use Rattle.std.proofs.lemmas.List.{get_or-set_other, get_or-map, get_or-replicate, length-map, length-set}
use Rattle.std.proofs.lemmas.Grind.{get_or-set_at}
use Rattle.stack_mean.specs.Plan.{Plan}
use Rattle.stack_shapes.specs.declared.types.Plan as code
use Rattle.stack_shapes.specs.Lists.{plan_tree}
use Rattle.stack_shapes.specs.Prints.{IsLeast, IsNext, plan_print, print_at}

-- what is known of the plans from a number on
pub record IndexesFrom (plans : List Plan) (from : ℕ) (first next : List (Option ℕ)) : Type 0 where
  pub prints : length first ≡ 256
  pub all : length next ≡ length plans
  pub first_is : (print : ℕ) → print < 256 → IsNext plans print from (get_or first print None)
  pub next_is : (k : ℕ) → from ≤ k → k < length plans → IsNext plans (print_at plans k) (k + 1) (get_or next k None)

-- a plan of another print is passed over
passed : (plans : List Plan) (print k : ℕ) (next : Option ℕ) → print_at plans k ≢ print →
    IsNext plans print (k + 1) next →
    IsNext plans print k next
passed plans print k (Some n) other is = record {
  from_on = omega (arith, is.from_on);
  listed = is.listed;
  printed = is.printed;
  least = λ j from below. by_place j (j == k) refl from below;
}
  where
    by_place : (j : ℕ) (same : Bool) → (j == k) ≡ same → k ≤ j → j < n → print_at plans j ≢ print
    by_place j true same from below = subst (λ i. print_at plans i ≢ print) (sym (eqb-true j k same)) other
    by_place j false same from below = is.least j (let apart = eqb-false j k same in omega arith) below
passed plans print k None other is = λ j from below. by_place j (j == k) refl from below
  where
    by_place : (j : ℕ) (same : Bool) → (j == k) ≡ same → k ≤ j → j < length plans → print_at plans j ≢ print
    by_place j true same from below = subst (λ i. print_at plans i ≢ print) (sym (eqb-true j k same)) other
    by_place j false same from below = is j (let apart = eqb-false j k same in omega arith) below

-- a plan is the first of its print from its own number on
own : (plans : List Plan) (k : ℕ) → k < length plans → IsLeast plans (print_at plans k) k k
own plans k below = record {
  from_on = omega arith;
  listed = below;
  printed = refl;
  least = λ j from less.
      absurd (omega arith);
}

-- one plan more
pub indexed_on : (plans : List Plan) (n k p : ℕ) (first next : List (Option ℕ)) (was : Option ℕ) → k + 1 ≡ n →
    n ≤ length plans →
    p ≡ print_at plans k → p < 256 → was ≡ get_or first p None → IndexesFrom plans n first next →
    IndexesFrom plans k (slice_set first p (Some k)) (slice_set next k was)
indexed_on plans n k p first next was at few print small is_was is = record {
  prints = length-set first p (Some k) ∙ is.prints;
  all = length-set next k was ∙ is.all;
  first_is = λ print' below. first_by print' below (print' == p) refl;
  next_is = λ j from below. next_by j from below (j == k) refl;
}
  where
    first_by : (q : ℕ) → q < 256 → (same : Bool) → (q == p) ≡ same →
        IsNext plans q k (get_or (slice_set first p (Some k)) q None)
    first_by q below true same =
        let here = eqb-true q p same in
        subst (λ o. IsNext plans q k o) (sym (get_or-set_at first p q (Some k) None here (omega (arith, is.prints))))
        (subst (λ r. IsLeast plans r k k) (sym (here ∙ print)) (own plans k (omega arith)))
    first_by q below false same =
        let other = eqb-false q p same in
        subst (λ o. IsNext plans q k o) (sym (get_or-set_other first p q (Some k) None other))
        (passed plans q k (get_or first q None) (λ clash. other (sym clash ∙ sym print))
        (subst (λ m. IsNext plans q m (get_or first q None)) (sym at) (is.first_is q below)))

    next_by : (j : ℕ) → k ≤ j → j < length plans → (same : Bool) → (j == k) ≡ same →
        IsNext plans (print_at plans j) (j + 1) (get_or (slice_set next k was) j None)
    next_by j from below true same =
        let here = eqb-true j k same in
        subst (λ o. IsNext plans (print_at plans j) (j + 1) o)
        (sym (get_or-set_at next k j was None here (omega (arith, is.all))))
        (subst (λ o. IsNext plans (print_at plans j) (j + 1) o) (sym is_was)
        (subst (λ m. IsNext plans (print_at plans m) (m + 1) (get_or first p None)) (sym here)
        (subst (λ m. IsNext plans (print_at plans k) m (get_or first p None)) (sym at)
        (subst (λ q. IsNext plans q n (get_or first p None)) print (is.first_is p small)))))
    next_by j from below false same =
        let other = eqb-false j k same in
        subst (λ o. IsNext plans (print_at plans j) (j + 1) o) (sym (get_or-set_other next k j was None other))
        (is.next_is j (omega arith) below)

-- the print of a plan of the list
pub printed_at : (plans : List code.Plan) (k : ℕ) (plan : code.Plan) → k < length plans → plan ≡ get_or plans k plan →
    plan_print (plan_tree plan) ≡ print_at (map plan_tree plans) k
printed_at plans k plan below is =
    ap (λ p. plan_print (plan_tree p)) is
    ∙ sym (get_or-map plan_print (map plan_tree plans) k (plan_tree plan) 0 (omega (arith, length-map plans plan_tree))
    ∙ ap plan_print (get_or-map plan_tree plans k plan (plan_tree plan) below))

-- nothing is known after the last plan
pub indexed_none : (plans : List Plan) (n : ℕ) (first next : List (Option ℕ)) → n ≡ length plans →
    first ≡ replicate 256 None →
    length next ≡ length plans → IndexesFrom plans n first next
indexed_none plans n first next at none all = record {
  prints = ap length none;
  all = all;
  first_is = λ print below.
      subst (λ o. IsNext plans print n o)
      (sym (ap (λ xs. get_or xs print None) none ∙ get_or-replicate 256 print None None below))
      (λ j from less. absurd (omega arith));
  next_is = λ k from below. absurd (omega arith);
}
