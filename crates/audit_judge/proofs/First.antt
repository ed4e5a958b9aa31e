-- The least lack is one of the first segment that lacks something.
use Rattle.std.proofs.Common.{◌≡◌, ℕ, ◌+◌, ◌<◌, ◌≤◌, Bool, true, false, cond, List, [], ◌∷◌, ◌++◌, length, take, drop}
use Rattle.std.proofs.Common.{get_or, zero, suc, Option, Some, None, refl, sym, ap, ◌∙◌, subst, arith, drop-cons}
use Rattle.std.specs.Prelude.{◌&&◌, ◌==◌, not, is_some, map, filter}
use Rattle.std.specs.List.{AllByRecursion, flat_map}
use Rattle.std.proofs.lemmas.Bool.Decides.{nat_tests}
use Rattle.std.proofs.lemmas.List.{append-nil, map-append, map_more, take-append-drop, take_all}
use Rattle.std.proofs.lemmas.List.Concat.{flat_map-append}
use Rattle.std.proofs.lemmas.List.Elements.{filter-append}
use Rattle.audit_mean.specs.Clash.{Placed}
use Rattle.audit_mean.specs.Finding.{comes_before, lesser, least}
use Rattle.audit_judge.specs.Lacks.{Known, all_lacks, ended_shown, first_of, goes_with, is_other, lacks, lacks_in}
use Rattle.audit_judge.specs.Lacks.{lacks_of_one, lines_of_lack}
use Rattle.audit_judge.specs.Marks.{IsClear, Rises, is_before}
use Rattle.audit_judge.specs.declared.ended.Ended.{Ended}
use Rattle.audit_judge.proofs.Surplus.{least-append, others_more}

apart : (m n : ℕ) → (m ≡ n → ⊥) → (m == n) ≡ false
apart m n h = grind (arith, nat_tests)

together : (m n : ℕ) → m ≡ n → (m == n) ≡ true
together m n h = grind (arith, nat_tests)

-- members that are not the same, and members that are
pub parted : (m n : ℕ) → (m ≡ n → ⊥) → true ≡ not (m == n)
parted m n h = rw (apart m n h) refl

pub alike : (m n : ℕ) → m ≡ n → false ≡ not (m == n)
alike m n h = rw (together m n h) refl

-- what a segment lacks of one other
pub lack_of_other : (one other : Known) (t : Bool) → t ≡ (goes_with one other && is_other one other) →
    least (lacks_of_one one (filter (goes_with one) (other ∷ []))) ≡ cond t (least (lacks one other)) None
lack_of_other one other t is =
    by_tests (goes_with one other) (is_other one other) refl ∙ ap (λ b. cond b (least (lacks one other)) None) (sym is)
  where
    by_tests : (g o : Bool) → is_other one other ≡ o → least (lacks_of_one one (cond g (other ∷ []) [])) ≡
        cond (g && o) (least (lacks one other)) None
    by_tests false o e = refl
    by_tests true true e = rw e (ap least (append-nil (lacks one other)))
    by_tests true false e = rw e refl

-- one more of the segments
pub lack_further : (one : Known) (ended : List Ended) (i : ℕ) (d other : Ended) (found lack new : Option (ℕ × ℕ)) →
    i < length ended → other ≡ get_or ended i d → found ≡ least (lacks_in (map ended_shown (take i ended)) one) →
    lack ≡ least (lacks_of_one one (filter (goes_with one) (ended_shown other ∷ []))) → new ≡ first_of found lack →
    new ≡ least (lacks_in (map ended_shown (take (i + 1) ended)) one)
lack_further one ended i d other found lack new inside at so_far here is =
    let front = map ended_shown (take i ended) in
    is
    ∙ (λ j. first_of (so_far j) (here j))
    ∙ sym (others_more one (filter (goes_with one) front) (filter (goes_with one) (ended_shown other ∷ [])))
    ∙ ap (λ xs. least (lacks_of_one one xs)) (sym (filter-append (goes_with one) front (ended_shown other ∷ [])))
    ∙ ap (λ e. least (lacks_in (front ++ ended_shown e ∷ []) one)) at
    ∙ ap (λ xs. least (lacks_in xs one)) (sym (map_more ended_shown ended i d inside))

least_none : (xs : List (ℕ × ℕ)) → is_some (least xs) ≡ false → xs ≡ []
least_none [] e = refl
least_none (x ∷ xs) e = absurd cc

flat_more : (f : Known → List (ℕ × ℕ)) (ended : List Ended) (i : ℕ) (d one : Ended) → i < length ended →
    one ≡ get_or ended i d → flat_map f (map ended_shown (take i ended)) ≡ [] → f (ended_shown one) ≡ [] →
    flat_map f (map ended_shown (take (i + 1) ended)) ≡ []
flat_more f ended i d one inside at so_far none =
    ap (flat_map f) (map_more ended_shown ended i d inside)
    ∙ flat_map-append f (map ended_shown (take i ended)) (ended_shown (get_or ended i d) ∷ [])
    ∙ (λ j. so_far j ++ (f (ended_shown (sym at j)) ++ []))
    ∙ ap (λ xs. xs ++ []) none

-- no lack of one more segment
pub none_further : (all : List Known) (ended : List Ended) (i : ℕ) (d one : Ended) (lack : Option (ℕ × ℕ)) →
    i < length ended → one ≡ get_or ended i d → flat_map (lacks_in all) (map ended_shown (take i ended)) ≡ [] →
    lack ≡ least (lacks_in all (ended_shown one)) → is_some lack ≡ false →
    flat_map (lacks_in all) (map ended_shown (take (i + 1) ended)) ≡ []
none_further all ended i d one lack inside at so_far is none =
    flat_more (lacks_in all) ended i d one inside at so_far
    (least_none (lacks_in all (ended_shown one)) (ap is_some (sym is) ∙ none))

at_place : (P : Known → Type 0) (ended : List Ended) (i : ℕ) (d : Ended) → i < length ended →
    AllByRecursion P (map ended_shown ended) → P (ended_shown (get_or ended i d))
at_place P [] i d inside all = absurd (omega (arith, inside))
at_place P (e ∷ ended) zero d inside all = all.0
at_place P (e ∷ ended) (suc i) d inside all = at_place P ended i d (omega (arith, inside)) all.1

-- a segment before the line
pub clear_further : (line : Option ℕ) (ended : List Ended) (i : ℕ) (d one : Ended) → i < length ended →
    one ≡ get_or ended i d → flat_map (lacks_in (map ended_shown ended)) (map ended_shown (take i ended)) ≡ [] →
    IsClear line (map ended_shown ended) → is_before one.line line ≡ true →
    flat_map (lacks_in (map ended_shown ended)) (map ended_shown (take (i + 1) ended)) ≡ []
clear_further line ended i d one inside at so_far clear front =
    flat_more (lacks_in (map ended_shown ended)) ended i d one inside at so_far
    (ap (λ e. lacks_in (map ended_shown ended) (ended_shown e)) at
    ∙ at_place (λ o. is_before o.line line ≡ true → lacks_in (map ended_shown ended) o ≡ []) ended i d inside clear
    (ap (λ e. is_before e.line line) (sym at) ∙ front))

pub no_lack : (ended : List Ended) (i : ℕ) → length ended ≤ i →
    flat_map (lacks_in (map ended_shown ended)) (map ended_shown (take i ended)) ≡ [] →
    None ≡ least (all_lacks (map ended_shown ended))
no_lack ended i past none =
    sym (ap (λ es. least (flat_map (lacks_in (map ended_shown ended)) (map ended_shown es)))
    (sym (take_all i ended past)) ∙ ap least none)

-- pairs whose second line is this, and pairs whose second line is after it
abbrev At : ℕ → List (ℕ × ℕ) → Type 0
At line xs = AllByRecursion (λ x. x.1 ≡ line) xs

abbrev After : ℕ → List (ℕ × ℕ) → Type 0
After line xs = AllByRecursion (λ x. line < x.1) xs

joined : (P : ℕ × ℕ → Type 0) (xs ys : List (ℕ × ℕ)) → AllByRecursion P xs → AllByRecursion P ys →
    AllByRecursion P (xs ++ ys)
joined P [] ys a b = b
joined P (x ∷ xs) ys a b = (a.0, joined P xs ys a.1 b)

of_line : (line : ℕ) (ps : List Placed) → At line (map (lines_of_lack line) ps)
of_line line [] = tt
of_line line (p ∷ ps) = (refl, of_line line ps)

of_one : (one : Known) (others : List Known) → At one.line (flat_map (lacks one) others)
of_one one [] = tt
of_one one (other ∷ others) = joined (λ x. x.1 ≡ one.line) (lacks one other) (flat_map (lacks one) others)
    (of_line one.line _) (of_one one others)

at_after : (m n : ℕ) (xs : List (ℕ × ℕ)) → m < n → At n xs → After m xs
at_after m n [] below at = tt
at_after m n (x ∷ xs) below at = (omega (arith, at.0), at_after m n xs below at.1)

of_rest : (all : List Known) (line n : ℕ) (rest : List Known) → line ≤ n → Rises n rest →
    After line (flat_map (lacks_in all) rest)
of_rest all line n [] le rises = tt
of_rest all line n (one ∷ rest) le rises =
    let above : line < one.line = omega (arith, rises.0) in
    joined (λ x. line < x.1) (lacks_in all one) (flat_map (lacks_in all) rest)
    (at_after line one.line (lacks_in all one) above
    (of_one one (filter (is_other one) (filter (goes_with one) all))))
    (of_rest all line one.line rest (omega arith) rises.1)

-- the least of pairs keeps what all of them keep
least_keeps : (P : ℕ × ℕ → Type 0) (xs : List (ℕ × ℕ)) → AllByRecursion P xs → (x : ℕ × ℕ) → least xs ≡ Some x → P x
least_keeps P [] all x e = absurd cc
least_keeps P (y ∷ ys) all x e = through (λ z l. least_keeps P ys all.1 z l) (least ys) refl e
  where
    chosen : (t : Bool) (z : ℕ × ℕ) → P z → Some (cond t z y) ≡ Some x → P x
    chosen true z h e = subst P (some e) h
      where
        some : {a b : ℕ × ℕ} → Some a ≡ Some b → a ≡ b
        some e = cc
    chosen false z h e = subst P (some e) all.0
      where
        some : {a b : ℕ × ℕ} → Some a ≡ Some b → a ≡ b
        some e = cc

    through : ((z : ℕ × ℕ) → least ys ≡ Some z → P z) → (o : Option (ℕ × ℕ)) → least ys ≡ o →
        Some (lesser y o) ≡ Some x → P x
    through rest None l e = chosen false y all.0 e
    through rest (Some z) l e = chosen (comes_before z y) z (rest z l) e

-- the first of two lists' least pairs, where the second's are after
stays : (line : ℕ) (xs ys : List (ℕ × ℕ)) → At line xs → After line ys → is_some (least xs) ≡ true →
    least (xs ++ ys) ≡ least xs
stays line xs ys at following some = least-append xs ys ∙ by_cases (least xs) (least ys) refl refl some
  where
    later : (x y : ℕ × ℕ) → x.1 ≡ line → line < y.1 → comes_before y x ≡ false
    later x y a b = grind (arith, nat_tests)

    by_cases : (a b : Option (ℕ × ℕ)) → least xs ≡ a → least ys ≡ b → is_some a ≡ true → first_of a b ≡ a
    by_cases None b e h s = absurd cc
    by_cases (Some x) None e h s = refl
    by_cases (Some x) (Some y) e h s =
        rw (later x y (least_keeps (λ z. z.1 ≡ line) xs at x e) (least_keeps (λ z. line < z.1) ys following y h)) refl

rises_from : (n : ℕ) (xs : List Known) (one : Known) (rest : List Known) → Rises n (xs ++ one ∷ rest) →
    Rises one.line rest
rises_from n [] one rest rises = rises.1
rises_from n (x ∷ xs) one rest rises = rises_from x.line xs one rest rises.1

-- the first segment that lacks something has the least lack
pub lack_found : (ended : List Ended) (i : ℕ) (d one : Ended) (lack : Option (ℕ × ℕ)) → i < length ended →
    one ≡ get_or ended i d → Rises 0 (map ended_shown ended) →
    flat_map (lacks_in (map ended_shown ended)) (map ended_shown (take i ended)) ≡ [] →
    lack ≡ least (lacks_in (map ended_shown ended) (ended_shown one)) → is_some lack ≡ true →
    lack ≡ least (all_lacks (map ended_shown ended))
lack_found ended i d one lack inside at rises so_far is some =
    is
    ∙ sym (stays one.line (lacks_in all now) (flat_map (lacks_in all) rest)
    (of_one now (filter (is_other now) (filter (goes_with now) all)))
    (of_rest all one.line one.line rest (omega arith) following) (ap is_some (sym is) ∙ some))
    ∙ ap (λ xs. least (xs ++ flat_map (lacks_in all) (now ∷ rest))) (sym so_far)
    ∙ ap least (sym (flat_map-append (lacks_in all) front (now ∷ rest)))
    ∙ ap (λ xs. least (flat_map (lacks_in all) xs)) (sym whole)
  where
    all : List Known
    all = map ended_shown ended

    now : Known
    now = ended_shown one

    front : List Known
    front = map ended_shown (take i ended)

    rest : List Known
    rest = map ended_shown (drop (suc i) ended)

    whole : all ≡ front ++ now ∷ rest
    whole =
        ap (map ended_shown) (sym (take-append-drop i ended) ∙
        ap (λ xs. take i ended ++ xs) (drop-cons ended i d inside ∙ ap (λ e. e ∷ drop (suc i) ended) (sym at)))
        ∙ map-append ended_shown (take i ended) (one ∷ drop (suc i) ended)

    following : Rises one.line rest
    following = rises_from 0 front now rest (rw whole at rises)
