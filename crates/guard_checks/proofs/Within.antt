-- What makes no more numbers than a limit makes no more than a larger one.
use Rattle.std.proofs.Common.{◌≡◌, ◌∙◌, ℕ, ◌+◌, ◌<◌, ◌≤◌, List, [], ◌∷◌, ◌++◌, map, take, length, get_or, le_trans, sym}
use Rattle.std.proofs.Common.{ap, subst, arith}
use Rattle.std.specs.Prelude.{Option, Some, None}
use Rattle.std.specs.List.{AllByRecursion}
use Rattle.std.proofs.lemmas.List.{take_more, map-append}
use Rattle.std.proofs.lemmas.List.Sums.{sum_by-cons}
use Rattle.guard_mean.specs.Code as code
use Rattle.guard_mean.specs.Code.{prepare, require, require_operand}
use Rattle.guard_mean.specs.Checks as mean
use Rattle.code_make.specs.Trees.{test_tree}
use Rattle.code_make.specs.declared.code.Test.{Test}
use Rattle.code_tests.specs.Registers.{a_prepare, prepared_numbers}
use Rattle.miss_laws.specs.Asked.{Asked, checks, nothing}
use Rattle.guard_checks.specs.Places.{IsWithin, IfWithin, EntryWithin, AreWithin}
use Rattle.guard_checks.specs.Trees.{EntryAsked, entry_asked}
use Rattle.guard_checks.specs.declared.cases.CaseChecks.{CaseChecks}
use Rattle.guard_checks.proofs.Lists.{each_more, each_so}

one_number : (t : code.Test) → a_prepare t ≤ 1
one_number (prepare r) = omega arith
one_number (require r) = omega arith
one_number (require_operand a) = omega arith

few_numbers : (ts : List Test) → prepared_numbers (map test_tree ts) ≤ length ts
few_numbers [] = omega arith
few_numbers (t ∷ ts) = let one = one_number (test_tree t) in let more = few_numbers ts in
    let all = sum_by-cons a_prepare (test_tree t) (map test_tree ts) in omega arith

pub tests_within : (c : mean.Checks) (ts : List Test) → map test_tree ts ≡ c.tests →
    prepared_numbers c.tests ≤ length ts
tests_within c ts is = subst (λ l. prepared_numbers l ≤ length ts) is (few_numbers ts)

case_more : (a b : ℕ) (x : Asked) → a ≤ b → IsWithin a x → IsWithin b x
case_more a b (checks c) le h = le_trans h le
case_more a b (nothing reason) le h = tt

second_more : (a b : ℕ) (x : Option Asked) → a ≤ b → IfWithin a x → IfWithin b x
second_more a b (Some x) le h = case_more a b x le h
second_more a b None le h = tt

entry_more : (a b : ℕ) → a ≤ b → (e : EntryAsked) → EntryWithin a e → EntryWithin b e
entry_more a b le e h =
    record { first = case_more a b e.first le h.first; second = second_more a b e.second le h.second }

pub both_cases : (e : EntryAsked) (a b n : ℕ) → IsWithin a e.first → IfWithin b e.second → a ≤ n → b ≤ n →
    EntryWithin n e
both_cases e a b n first second le more =
    record { first = case_more a n e.first le first; second = second_more b n e.second more second }

-- What the next entry asks is within the larger limit, with what the entries before it ask.
pub next_within : (all : List CaseChecks) (k : ℕ) (c : CaseChecks) (old one new : ℕ) → k < length all →
    c ≡ get_or all k c → old ≤ new → one ≤ new →
    AllByRecursion (EntryWithin old) (map entry_asked (take k all)) → EntryWithin one (entry_asked c) →
    AllByRecursion (EntryWithin new) (map entry_asked (take (k + 1) all))
next_within all k c old one new within is le more before next =
    let taken : map entry_asked (take (k + 1) all) ≡ map entry_asked (take k all) ++ entry_asked c ∷ [] =
    ap (map entry_asked) (take_more all k c within ∙ ap (λ x. take k all ++ x ∷ []) (sym is)) ∙
    map-append entry_asked (take k all) (c ∷ []) in
    rw taken (each_more (EntryWithin new) (map entry_asked (take k all)) (entry_asked c)
    (each_so (EntryWithin old) (EntryWithin new) (entry_more old new le) (map entry_asked (take k all)) before)
    (entry_more one new more (entry_asked c) next))

-- What all entries ask is within the limit.
pub all_within : (cast send : CaseChecks) (plans : List CaseChecks) (a b apps c n most : ℕ) →
    EntryWithin a (entry_asked cast) →
    EntryWithin b (entry_asked send) → AllByRecursion (EntryWithin c) (map entry_asked plans) → a ≤ apps → b ≤ apps →
    apps ≤ n → c ≤ n → n ≤ most →
    AreWithin most cast send plans
all_within cast send plans a b apps c n most first second rest one two three four five = record {
  for_cast = entry_more a most (le_trans one (le_trans three five)) (entry_asked cast) first;
  for_send = entry_more b most (le_trans two (le_trans three five)) (entry_asked send) second;
  for_plans = each_so (EntryWithin c) (EntryWithin most) (entry_more c most (le_trans four five))
      (map entry_asked plans) rest;
}
