-- The tests of conjuncts find the first that doesn't hold.
use Rattle.std.proofs.Common.{◌≡◌, ◌∙◌, ℕ, suc, ◌+◌, ◌<◌, ◌≤◌, Bool, true, false, ◌&&◌, if◌then◌else◌, List, [], ◌∷◌}
use Rattle.std.proofs.Common.{◌++◌, length, Option, option_map, Some, None, fold, refl, sym, ap, subst, arith}
use Rattle.std.proofs.Common.{append_assoc}
use Rattle.std.specs.Prelude.{not, cond, nat_le}
use Rattle.std.specs.List.{count_by, list_all, position_from}
use Rattle.std.proofs.lemmas.Bool.{leb-true, le-leb, lt-leb}
use Rattle.std.proofs.Math.Bool.{and-true}
use Rattle.std.proofs.lemmas.List.{length-append}
use Rattle.std.proofs.lemmas.List.Folds.{list_all-append}
use Rattle.std.proofs.lemmas.List.Sums.{fold-append, sum_by_push}
use Rattle.std.proofs.lemmas.Iterator.Adapters.{position_from-zero}
use Rattle.layer_words.specs.declared.operators.Operator.TheVariants.{And}
use Rattle.layer_mean.specs.State.{State}
use Rattle.layer_mean.specs.Value.{is_true}
use Rattle.trace_mean.specs.Trace.{TraceNumber, binary, Guarded}
use Rattle.trace_mean.specs.Worth.{Input, Kept, nothing_kept, only_values}
use Rattle.guard_mean.specs.Perform.{values_of, holds_at, holds}
use Rattle.guard_mean.specs.Code.{Test, prepare, require, require_operand}
use Rattle.guard_mean.specs.Machine.{Tested, tests, tested, operand_at, reading_of}
use Rattle.guard_mean.specs.Straight.{Guarding, value_tests, one_test, conjunct_tests, unguarded, code_of}
use Rattle.guard_laws.proofs.Grows.{Grown, grown_same, grown_then}
use Rattle.guard_laws.proofs.Straight.{code_is_same}
use Rattle.guard_mean.specs.Checks.{Checking, one_check, failing_after, failing_from}
use Rattle.miss_laws.specs.Checked.{ChecksFindUnheld}

-- where one of two choices is none, so is the other
same_choice : {A : Type 0} (b c : Bool) (x y : A) → (if b then Some x else None) ≡ (if c then Some y else None) → b ≡ c
same_choice true true x y same = refl
same_choice true false x y same = absurd (cc same)
same_choice false true x y same = absurd (cc same)
same_choice false false x y same = refl

-- the tests of a conjunct are put after those that are there
one_grows : (g : Guarding) (e : TraceNumber) → Grown g.tests (one_test g e).tests
one_grows g e = grown_then g.tests _ _ (_, refl) (_, refl)

conjunct_grows : (g : Guarding) (e : TraceNumber) → Grown g.tests (conjunct_tests g e).tests
conjunct_grows g (binary And a b) = grown_then g.tests _ _ (conjunct_grows g a) (conjunct_grows (conjunct_tests g a) b)
conjunct_grows g e = one_grows g e

checks_grow : (es : List TraceNumber) (c : Checking) → Grown c.guarding.tests (fold one_check c es).guarding.tests
checks_grow [] c = grown_same c.guarding.tests
checks_grow (e ∷ es) c = grown_then c.guarding.tests _ _ (conjunct_grows c.guarding e) (checks_grow es (one_check c e))

grown_longer : {A : Type 0} (xs ys : List A) → Grown xs ys → length xs ≤ length ys
grown_longer xs ys g = let both = length-append xs g.0 in let same = ap length g.1 in omega (arith, both, same)

-- the number of ends at or before a test
abbrev ends_before : ℕ → List ℕ → ℕ
ends_before n ends = count_by (λ end. nat_le end n) ends

-- ends that are added later stand after each test that is there
later_ends : (es : List TraceNumber) (c : Checking) (n : ℕ) → n < length c.guarding.tests →
    ends_before n (fold one_check c es).ends ≡ ends_before n c.ends
later_ends [] c n less = refl
later_ends (e ∷ es) c n less = later_ends es next n (omega (arith, less, longer)) ∙
    sum_by_push (λ end. cond (nat_le end n) 1 0) c.ends _
    ∙ following (nat_le (length next.guarding.tests) n) refl where
      next : Checking
      next = one_check c e

      longer : length c.guarding.tests ≤ length next.guarding.tests
      longer = grown_longer c.guarding.tests next.guarding.tests (conjunct_grows c.guarding e)

      following : (b : Bool) → nat_le (length next.guarding.tests) n ≡ b → ends_before n c.ends + cond b 1 0 ≡
          ends_before n c.ends
      following true is = let reached = leb-true (length next.guarding.tests) n is in
          absurd (omega (arith, less, longer, reached))
      following false is = omega arith

module _ (i : Input) (ss : List State) where
  abbrev passing : Kept → List Test → Tested
  passing k ts = fold (tests i ss) (record { kept = k; passes = true }) ts

  -- what isn't passed stays so
  stays_failed : (ts : List Test) (t : Tested) → t.passes ≡ false → (fold (tests i ss) t ts).passes ≡ false
  stays_failed [] t is = is
  stays_failed (prepare r ∷ ts) t is = stays_failed ts (tests i ss t (prepare r)) is
  stays_failed (require r ∷ ts) t is =
      stays_failed ts (tests i ss t (require r)) (ap (λ b. b && is_true (reading_of i t.kept ss r)) is)
  stays_failed (require_operand a ∷ ts) t is =
      stays_failed ts (tests i ss t (require_operand a)) (ap (λ b. b && is_true (operand_at i t.kept a)) is)

  -- the search for the first test that fails skips tests that are passed
  passed_by : (ts us : List Test) (n : ℕ) (k : Kept) → (passing k ts).passes ≡ true →
      failing_from i ss n k (ts ++ us) ≡ failing_from i ss (n + length ts) (passing k ts).kept us
  passed_by [] us n k passed = let here : n ≡ n + 0 = omega arith in ap (λ m. failing_from i ss m k us) here
  passed_by (t ∷ ts) us n k passed = go (tests i ss (record { kept = k; passes = true }) t).kept
      (tests i ss (record { kept = k; passes = true }) t).passes (passed_by ts us (suc n)) passed where
        go : (now : Kept) (b : Bool) →
            ((now : Kept) → (passing now ts).passes ≡ true →
            failing_from i ss (suc n) now (ts ++ us) ≡ failing_from i ss (suc n + length ts) (passing now ts).kept us) →
            (fold (tests i ss) (record { kept = now; passes = b }) ts).passes ≡ true →
            failing_after n (record { kept = now; passes = b }) (λ x. failing_from i ss (suc n) x.kept (ts ++ us)) ≡
            failing_from i ss (n + suc (length ts)) (fold (tests i ss) (record { kept = now; passes = b }) ts).kept us
        go now true rest passed = rest now passed
            ∙ (let there : suc n + length ts ≡ n + suc (length ts) = omega arith in
            ap (λ m. failing_from i ss m (passing now ts).kept us) there)
        go now false rest passed =
            absurd (cc (sym passed ∙ stays_failed ts (record { kept = now; passes = false }) refl))

  all_passed : (ts : List Test) (n : ℕ) (k : Kept) → (passing k ts).passes ≡ true → failing_from i ss n k ts ≡ None
  all_passed [] n k passed = refl
  all_passed (t ∷ ts) n k passed = go (tests i ss (record { kept = k; passes = true }) t).kept
      (tests i ss (record { kept = k; passes = true }) t).passes (all_passed ts (suc n)) passed where
        go : (now : Kept) (b : Bool) →
            ((now : Kept) → (passing now ts).passes ≡ true → failing_from i ss (suc n) now ts ≡ None) →
            (fold (tests i ss) (record { kept = now; passes = b }) ts).passes ≡ true →
            failing_after n (record { kept = now; passes = b }) (λ x. failing_from i ss (suc n) x.kept ts) ≡ None
        go now true rest passed = rest now passed
        go now false rest passed =
            absurd (cc (sym passed ∙ stays_failed ts (record { kept = now; passes = false }) refl))

  -- one of these fails
  record FailsWithin (from to : ℕ) (found : Option ℕ) : Type 0 where
    at : ℕ
    is : found ≡ Some at
    reached : from ≤ at
    below : at < to

  one_fails : (ts us : List Test) (n : ℕ) (k : Kept) → (passing k ts).passes ≡ false →
      FailsWithin n (n + length ts) (failing_from i ss n k (ts ++ us))
  one_fails [] us n k failed = absurd (cc failed)
  one_fails (t ∷ ts) us n k failed = go (tests i ss (record { kept = k; passes = true }) t).kept
      (tests i ss (record { kept = k; passes = true }) t).passes (one_fails ts us (suc n)) failed where
        go : (now : Kept) (b : Bool) →
            ((now : Kept) → (passing now ts).passes ≡ false →
            FailsWithin (suc n) (suc n + length ts) (failing_from i ss (suc n) now (ts ++ us))) →
            (fold (tests i ss) (record { kept = now; passes = b }) ts).passes ≡ false →
            FailsWithin n (n + suc (length ts))
            (failing_after n (record { kept = now; passes = b })
            (λ x. failing_from i ss (suc n) x.kept (ts ++ us)))
        go now true rest failed = let f = rest now failed in let least = f.reached in let most = f.below in
            record { at = f.at; is = f.is; reached = omega (arith, least); below = omega (arith, most) }
        go now false rest failed = record { at = n; is = refl; reached = omega arith; below = omega arith }

  -- where some tests are passed and with more of them not all are, one of these more fails
  fails_between : (ts us vs : List Test) → (tested i ts ss).passes ≡ true → (tested i us ss).passes ≡ false →
      Grown ts us → Grown us vs →
      FailsWithin (length ts) (length us) (failing_from i ss 0 nothing_kept vs)
  fails_between ts us vs passed failed more rest =
      subst (λ l. FailsWithin (length ts) (length us) (failing_from i ss 0 nothing_kept l)) (sym parted)
      (subst (λ o. FailsWithin (length ts) (length us) o) (sym (passed_by ts (more.0 ++ rest.0) 0 nothing_kept passed))
      (subst (λ m. FailsWithin
      (length ts) m (failing_from i ss (0 + length ts) (tested i ts ss).kept (more.0 ++ rest.0))) (sym long)
      (subst (λ n. FailsWithin
      (length ts) (length ts + length more.0) (failing_from i ss n (tested i ts ss).kept (more.0 ++ rest.0)))
      (let here : length ts ≡ 0 + length ts = omega arith in here) within))) where
        parted : vs ≡ ts ++ (more.0 ++ rest.0)
        parted = rest.1 ∙ ap (λ l. l ++ rest.0) more.1 ∙ append_assoc ts more.0 rest.0

        long : length us ≡ length ts + length more.0
        long = ap length more.1 ∙ length-append ts more.0

        last : (passing (tested i ts ss).kept more.0).passes ≡ false
        last = ap (λ b. (fold (tests i ss) (record { kept = (tested i ts ss).kept; passes = b }) more.0).passes)
            (sym passed)
            ∙ ap (λ (t : Tested). t.passes)
            (sym (fold-append (tests i ss) (record { kept = nothing_kept; passes = true }) ts more.0))
            ∙ ap (λ l. (tested i l ss).passes) (sym more.1) ∙ failed

        within : FailsWithin (length ts) (length ts + length more.0)
            (failing_from i ss (length ts) (tested i ts ss).kept (more.0 ++ rest.0))
        within = one_fails more.0 rest.0 (length ts) (tested i ts ss).kept last

  module _ (values : List TraceNumber) where
    abbrev start : Guarding
    start = fold value_tests unguarded values

    abbrev holding : TraceNumber → Bool
    holding e = holds_at i (only_values (values_of i ss values)) ss e

    abbrev unheld : TraceNumber → Bool
    unheld e = not (holding e)

    -- the tests of conjuncts are passed where all hold
    passed_as : (es : List TraceNumber) → (tested i (fold conjunct_tests start es).tests ss).passes ≡
        list_all holding es
    passed_as es = let g : Guarded = record { values = values; conjuncts = es; operations = [] } in
        same_choice (tested i (code_of g).tests ss).passes (holds i g ss) _ _ (code_is_same g i ss)

    -- after conjuncts that all hold
    record After (front : List TraceNumber) (c : Checking) : Type 0 where
      made : c.guarding ≡ fold conjunct_tests start front
      hold : list_all holding front ≡ true
      ends : (n : ℕ) → length c.guarding.tests ≤ n → ends_before n c.ends ≡ length front

    passed_after : (front : List TraceNumber) (c : Checking) → After front c → (tested i c.guarding.tests ss).passes ≡
        true
    passed_after front c b = ap (λ (g : Guarding). (tested i g.tests ss).passes) b.made ∙ passed_as front ∙ b.hold

    made_next : (front : List TraceNumber) (c : Checking) (e : TraceNumber) → After front c →
        (one_check c e).guarding ≡ fold conjunct_tests start (front ++ e ∷ [])
    made_next front c e b = ap (λ g. conjunct_tests g e) b.made ∙ sym (fold-append conjunct_tests start front (e ∷ []))

    holds_next : (front : List TraceNumber) (e : TraceNumber) (w : Bool) → list_all holding front ≡ true →
        holding e ≡ w →
        list_all holding (front ++ e ∷ []) ≡ w
    holds_next front e w hold is = list_all-append holding front (e ∷ []) ∙ (λ z. hold z && (is z && true)) ∙ and-true w

    after_next : (front : List TraceNumber) (c : Checking) (e : TraceNumber) → After front c → holding e ≡ true →
        After (front ++ e ∷ []) (one_check c e)
    after_next front c e b is = record {
      made = made_next front c e b;
      hold = holds_next front e true b.hold is;
      ends = λ n past. sum_by_push (λ end. cond (nat_le end n) 1 0) c.ends _
          ∙ (λ z. b.ends n (let longer = grown_longer c.guarding.tests (one_check c e).guarding.tests
          (conjunct_grows c.guarding e) in
          omega (arith, longer, past)) z + cond (le-leb _ _ past z) 1 0)
          ∙ sym (length-append front (e ∷ []));
    }

    -- the check of the first test that fails
    abbrev check_found : Checking → Option ℕ
    check_found c = option_map (λ n. ends_before n c.ends) (failing_from i ss 0 nothing_kept c.guarding.tests)

    unheld_next : (front : List TraceNumber) (c : Checking) (e : TraceNumber) (es : List TraceNumber) → After front c →
        holding e ≡ false →
        check_found (fold one_check (one_check c e) es) ≡ Some (length front)
    unheld_next front c e es b is =
        ap (option_map (λ n. ends_before n (fold one_check next es).ends)) found.is
        ∙ ap Some (later_ends es next found.at found.below ∙ sum_by_push (λ end. cond (nat_le end found.at) 1 0) c.ends
        _
        ∙ (λ z. b.ends found.at found.reached z + cond (later z) 1 0) ∙
        (let same : length front + 0 ≡ length front = omega arith in same)) where
          next : Checking
          next = one_check c e

          failed : (tested i next.guarding.tests ss).passes ≡ false
          failed = ap (λ (g : Guarding). (tested i g.tests ss).passes) (made_next front c e b) ∙
              passed_as (front ++ e ∷ [])
              ∙ holds_next front e false b.hold is

          found : FailsWithin (length c.guarding.tests) (length next.guarding.tests)
              (failing_from i ss 0 nothing_kept (fold one_check next es).guarding.tests)
          found = fails_between c.guarding.tests next.guarding.tests (fold one_check next es).guarding.tests
              (passed_after front c b) failed
              (conjunct_grows c.guarding e) (checks_grow es next)

          later : nat_le (length next.guarding.tests) found.at ≡ false
          later = lt-leb (length next.guarding.tests) found.at found.below

    finds : (es front : List TraceNumber) (c : Checking) → After front c → check_found (fold one_check c es) ≡
        position_from unheld (length front) es
    finds [] front c b = ap (option_map (λ n. ends_before n c.ends))
        (all_passed c.guarding.tests 0 nothing_kept (passed_after front c b))
    finds (e ∷ es) front c b = go (holding e) refl (finds es (front ++ e ∷ []) (one_check c e)) where
      go : (w : Bool) → holding e ≡ w →
          (After (front ++ e ∷ []) (one_check c e) →
          check_found (fold one_check (one_check c e) es) ≡ position_from unheld (length (front ++ e ∷ [])) es) →
          check_found (fold one_check (one_check c e) es) ≡
          cond (not w) (Some (length front)) (position_from unheld (length front + 1) es)
      go true is rest = rest (after_next front c e b is)
          ∙ ap (λ n. position_from unheld n es) (length-append front (e ∷ []))
      go false is rest = unheld_next front c e es b is

pub checks_find_unheld : ChecksFindUnheld
checks_find_unheld g i ss =
    finds i ss g.values g.conjuncts [] (record { guarding = fold value_tests unguarded g.values; ends = [] })
    (record { made = refl; hold = refl; ends = λ n past. refl })
    ∙ sym (position_from-zero (λ e. not (holds_at i (only_values (values_of i ss g.values)) ss e)) g.conjuncts)
