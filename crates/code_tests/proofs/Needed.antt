-- What steps keep, one more at a time, and what tests and steps keep together.
use Rattle.std.proofs.Common.{◌≡◌, ℕ, ◌+◌, ◌<◌, ◌≤◌, List, ◌∷◌, map, take, get_or, length, sym, ap, ◌∙◌, arith}
use Rattle.std.proofs.Math.Seq.{take-length}
use Rattle.std.proofs.lemmas.List.Sums.{sum_by-cons}
use Rattle.code_make.specs.Trees.{code_tree, step_tree, test_tree}
use Rattle.code_make.specs.declared.code.Code.{Code}
use Rattle.code_make.specs.declared.code.Heading.{Heading}
use Rattle.code_make.specs.declared.code.Step.{Step}
use Rattle.code_make.specs.declared.code.Test.{Test}
use Rattle.code_tests.specs.Registers.{Needed, a_keep, a_make, a_prepare, a_take, needs_of, prepared_numbers}
use Rattle.code_tests.specs.Registers.{steps_needed}
use Rattle.code_tests.proofs.Gone.{sum_next, sum_within}

-- A step more.
abbrev with_step : Needed → (makes keeps takes : ℕ) → Needed
with_step n makes keeps takes =
    record { numbers = n.numbers + makes; messages = n.messages + keeps; rows = n.rows + takes }

pub steps_next : (hs : List Heading) (xs : List Step) (i : ℕ) (d x : Step) (now : Needed) (makes keeps takes : ℕ) →
    i < length xs → x ≡ get_or xs i d →
    now ≡ steps_needed (map (step_tree hs) (take i xs)) → makes ≡ a_make (step_tree hs x) →
    keeps ≡ a_keep (step_tree hs x) → takes ≡ a_take (step_tree hs x) →
    with_step now makes keeps takes ≡ steps_needed (map (step_tree hs) (take (i + 1) xs))
steps_next hs xs i d x now makes keeps takes lt is so made kept taken =
    (λ t. with_step (so t) ((made ∙ ap (λ y. a_make (step_tree hs y)) is) t)
    ((kept ∙ ap (λ y. a_keep (step_tree hs y)) is) t)
    ((taken ∙ ap (λ y. a_take (step_tree hs y)) is) t))
    ∙ (λ t. record {
      numbers = sym (sum_next (step_tree hs) a_make xs i d lt) t;
      messages = sym (sum_next (step_tree hs) a_keep xs i d lt) t;
      rows = sym (sum_next (step_tree hs) a_take xs i d lt) t;
    })

pub all_steps : (hs : List Heading) (xs : List Step) (i : ℕ) (all : Needed) → i ≡ length xs →
    all ≡ steps_needed (map (step_tree hs) (take i xs)) →
    all ≡ steps_needed (map (step_tree hs) xs)
all_steps hs xs i all end so = so ∙
    ap (λ l. steps_needed (map (step_tree hs) l)) (ap (λ k. take k xs) end ∙ take-length xs)

pub both_keep : (c : Code) (ts : List Test) (ss : List Step) (numbers : ℕ) (steps : Needed) → ts ≡ c.tests.items →
    ss ≡ c.steps.items →
    numbers ≡ prepared_numbers (map test_tree ts) → steps ≡ steps_needed (map (step_tree c.headings) ss) →
    record { numbers = numbers + steps.numbers; messages = steps.messages; rows = steps.rows } ≡ needs_of (code_tree c)
both_keep c ts ss numbers steps tests rest many so =
    let whole : steps ≡ steps_needed (code_tree c).steps = so ∙
    ap (λ l. steps_needed (map (step_tree c.headings) l)) rest in
    let all : numbers ≡ prepared_numbers (code_tree c).tests = many ∙
    ap (λ l. prepared_numbers (map test_tree l)) tests in
    λ t. record { numbers = all t + (whole t).numbers; messages = (whole t).messages; rows = (whole t).rows }

-- There is a place for the number of the next test.
pub place_next : (xs : List Test) (i : ℕ) (d : Test) (now places : ℕ) → i < length xs →
    now ≡ prepared_numbers (map test_tree (take i xs)) →
    prepared_numbers (map test_tree xs) ≤ places → now + a_prepare (test_tree (get_or xs i d)) ≤ places
place_next xs i d now places lt so within = let one = sum_within test_tree a_prepare xs i d lt in
    omega (arith, one, so, within)

-- A place for the number of the next of the tests that are left.
module _ (left more : List Test) (d : Test) (now all : ℕ) (is : left ≡ d ∷ more)
    (so : now + prepared_numbers (map test_tree left) ≡ all) where
  parts : prepared_numbers (map test_tree left) ≡ a_prepare (test_tree d) + prepared_numbers (map test_tree more)
  parts = ap (λ l. prepared_numbers (map test_tree l)) is ∙ sum_by-cons a_prepare (test_tree d) (map test_tree more)

  pub place_first : (places : ℕ) → all ≤ places → now + a_prepare (test_tree d) ≤ places
  place_first places within = omega (arith, so, parts, within)

  pub few_made : (next : ℕ) → next ≡ now + a_prepare (test_tree d) → next ≤ all
  few_made next made = omega (arith, so, parts, made)
