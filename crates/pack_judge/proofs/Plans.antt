-- What is made of several entries, one after another.
use Rattle.std.proofs.Common.{◌≡◌, ℕ, suc, ◌+◌, List, [], ◌∷◌, ◌++◌, length, map, take, drop, get_or, set, ◌<◌, Err}
use Rattle.std.proofs.Common.{refl, sym, ap, ◌∙◌, subst, append_assoc, append-nil, arith}
use Rattle.std.specs.List.{AllByRecursion}
use Rattle.std.proofs.lemmas.List.{map-append, length-map, length-set, drop_more, drop-set-lt}
use Rattle.std.proofs.Math.Numerals.{add-one}
use Rattle.std.proofs.Math.Seq.{drop-length, take-length, take-suc-set}
use Rattle.layer_mean.specs.declared.run.Case.{Case}
use Rattle.synth.specs.Cases.{MadeCases, cases_tree}
use Rattle.trace_core.specs.declared.bypass.Cases.{Cases}
use Rattle.pack_judge.specs.Filling.{cases_owned, all_owned, AreSame, FirstOther, cases_filled, all_filled, Filled}
use Rattle.pack_judge.specs.Filling.{Fills, AreSimple}
use Rattle.pack_judge.specs.declared.error.BypassError.{BypassError}
use Rattle.pack_judge.specs.declared.error.BypassError.TheVariants.{TooLarge, Line, Differs, Memory}
use Rattle.pack_judge.proofs.Walk.{Traces, cases_left, same_later, other_later, other_before}

-- Of these entries these are made, and from a number on these are left, with these traces.
pub record GoesOn (own : List MadeCases) (old : Traces) (n : ℕ) (left : List MadeCases) (now : Traces)
    (done : List MadeCases) : Type 0 where
  pub count : n + length left ≡ 2 + length own
  pub made : (all_filled own old).0 ≡ done ++ (all_filled left now).0
  pub left_is : (all_filled own old).1 ≡ (all_filled left now).1
  pub same : AreSame (all_owned n left) now → AreSame (all_owned 2 own) old
  pub other : (entry : ℕ) (case : Case) (act : ℕ) → FirstOther (all_owned n left) now entry case act →
      FirstOther (all_owned 2 own) old entry case act

pub begins : (own : List MadeCases) (old : Traces) → GoesOn own old 2 own old []
begins own old = record { count = refl; made = refl; left_is = refl; same = λ h. h; other = λ entry case act h. h }

pub one_more : (own : List MadeCases) (old : Traces) (n n' : ℕ) (c : MadeCases) (left : List MadeCases)
    (now next : Traces) (done : List MadeCases)
    (made : MadeCases) → n' ≡ n + 1 → GoesOn own old n (c ∷ left) now done →
    Filled (cases_owned n c) (cases_filled c now) now made next →
    GoesOn own old n' left next (done ++ made ∷ [])
one_more own old n n' c left now next done made is h k =
    let number : n' ≡ suc n = omega (arith, is) in
    subst (λ m. GoesOn own old m left next (done ++ made ∷ [])) (sym number) record {
      count = let count = h.count in omega (arith, count);
      made = h.made ∙ (λ i. done ++ k.made_is i ∷ (all_filled left (k.left_is i)).0) ∙
          sym (append_assoc done (made ∷ []) (all_filled left next).0);
      left_is = h.left_is ∙ ap (λ ts. (all_filled left ts).1) k.left_is;
      same = λ s. h.same (same_later (cases_owned n c) (all_owned (suc n) left) (cases_filled c now) now next
          (cases_left n c now) made k s);
      other = λ entry case act o.
          h.other entry case act (other_later (cases_owned n c) (all_owned (suc n) left) (cases_filled c now) now next
          (cases_left n c now) made k entry case act o);
    }

pub stops : (own : List MadeCases) (old : Traces) (n : ℕ) (c : MadeCases) (left : List MadeCases) (now : Traces)
    (done : List MadeCases)
    (entry : ℕ) (case : Case) (act : ℕ) → GoesOn own old n (c ∷ left) now done →
    FirstOther (cases_owned n c) now entry case act →
    FirstOther (all_owned 2 own) old entry case act
stops own old n c left now done entry case act h o =
    h.other entry case act (other_before (cases_owned n c) (all_owned (suc n) left) now entry case act o)

pub ends : (own : List MadeCases) (old : Traces) (n : ℕ) (now : Traces) (done : List MadeCases) →
    GoesOn own old n [] now done →
    Filled (all_owned 2 own) (all_filled own old) old done now
ends own old n now done h = record { made_is = h.made ∙ append-nil done; left_is = h.left_is; same = h.same tt }

-- The first of a list of cases were filled, and the others have simple checks.
pub record GoesThrough (own : List MadeCases) (old : Traces) (number : ℕ) (items : List Cases) (now : Traces) : Type 0
  where
    pub goes : GoesOn own old (2 + number) (map cases_tree (drop number items)) now (map cases_tree (take number items))
    pub simple : AllByRecursion AreSimple (map cases_tree (drop number items))
    pub count : length items ≡ length own

pub at_first : (items : List Cases) (old : Traces) → AllByRecursion AreSimple (map cases_tree items) →
    GoesThrough (map cases_tree items) old 0 items old
at_first items old simple =
    record { goes = begins (map cases_tree items) old; simple = simple; count = sym (length-map items cases_tree) }

-- the case that is next
next_left : (items : List Cases) (number : ℕ) (c : Cases) → number < length items → c ≡ get_or items number c →
    map cases_tree (drop number items) ≡ cases_tree c ∷ map cases_tree (drop (number + 1) items)
next_left items number c within is =
    ap (map cases_tree) (drop_more items number c within ∙ ap (λ x. x ∷ drop (number + 1) items) (sym is))

pub next_simple : (own : List MadeCases) (old : Traces) (number : ℕ) (items : List Cases) (now : Traces) (c : Cases) →
    number < length items →
    c ≡ get_or items number c → GoesThrough own old number items now → AreSimple (cases_tree c)
next_simple own old number items now c within is h =
    (subst (AllByRecursion AreSimple) (next_left items number c within is) h.simple).0

pub one_filled : (own : List MadeCases) (old : Traces) (number : ℕ) (items more : List Cases) (c made : Cases)
    (now next : Traces) →
    number < length items → c ≡ get_or items number c → more ≡ set items number made →
    GoesThrough own old number items now →
    Filled (cases_owned (2 + number) (cases_tree c)) (cases_filled (cases_tree c) now) now (cases_tree made) next →
    GoesThrough own old (number + 1) more next
one_filled own old number items more c made now next within is more_is h k =
    let left = next_left items number c within is in
    let rest : drop (number + 1) more ≡ drop (number + 1) items =
    ap (drop (number + 1)) more_is ∙ drop-set-lt (number + 1) items number made (omega (arith)) in
    let done : map cases_tree (take (number + 1) more) ≡ map cases_tree (take number items) ++ cases_tree made ∷ [] =
    ap (λ n. map cases_tree (take n more)) (add-one number) ∙ ap (λ xs. map cases_tree (take (suc number) xs)) more_is
    ∙ ap (map cases_tree) (take-suc-set items number made within) ∙
    map-append cases_tree (take number items) (made ∷ []) in
    let step : GoesOn own old (2 + (number + 1)) (map cases_tree (drop (number + 1) items)) next
    (map cases_tree (take number items) ++ cases_tree made ∷ []) =
    one_more own old (2 + number) (2 + (number + 1)) (cases_tree c) (map cases_tree (drop (number + 1) items)) now next
    (map cases_tree (take number items)) (cases_tree made) (omega (arith))
    (subst (λ cs. GoesOn own old (2 + number) cs now (map cases_tree (take number items))) left h.goes) k in
    record {
      goes = subst {A = List Cases × List MadeCases}
          (λ q. GoesOn own old (2 + (number + 1)) (map cases_tree q.0) next q.1)
          (λ i. (sym rest i, sym done i)) step;
      simple = subst (λ xs. AllByRecursion AreSimple (map cases_tree xs)) (sym rest)
          (subst (AllByRecursion AreSimple) left h.simple).1;
      count = ap length more_is ∙ length-set items number made ∙ h.count;
    }

pub one_cut : (own cut : List MadeCases) (old : Traces) (number : ℕ) (items : List Cases) (c : Cases) (made : MadeCases)
    (now mid new : Traces)
    (e : BypassError) → number < length items → c ≡ get_or items number c → GoesThrough own old number items now →
    Fills (cases_owned (2 + number) (cases_tree c)) (cases_filled (cases_tree c) now) now mid made (Err e) →
    Fills (all_owned 2 own) (all_filled own old) old new cut (Err e)
one_cut own cut old number items c made now mid new (Differs entry case act) within is h k =
    stops own old (2 + number) (cases_tree c) (map cases_tree (drop (number + 1) items)) now
    (map cases_tree (take number items)) entry case act
    (subst (λ cs. GoesOn own old (2 + number) cs now (map cases_tree (take number items)))
    (next_left items number c within is) h.goes) k
one_cut own cut old number items c made now mid new Memory within is h k = tt
one_cut own cut old number items c made now mid new TooLarge within is h k = absurd k
one_cut own cut old number items c made now mid new (Line line) within is h k = absurd k

pub gone_through : (own : List MadeCases) (old : Traces) (number : ℕ) (items : List Cases) (now : Traces) →
    number ≡ length items →
    GoesThrough own old number items now → Filled (all_owned 2 own) (all_filled own old) old (map cases_tree items) now
gone_through own old number items now all h =
    let none : drop number items ≡ [] = ap (λ n. drop n items) all ∙ drop-length items in
    let whole : take number items ≡ items = ap (λ n. take n items) all ∙ take-length items in
    ends own old (2 + number) now (map cases_tree items)
    (subst {A = List Cases × List Cases}
    (λ q. GoesOn own old (2 + number) (map cases_tree q.0) now (map cases_tree q.1))
    (λ i. (none i, whole i)) h.goes)
