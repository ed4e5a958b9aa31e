-- The whole text, part by part.
use Rattle.std.proofs.Common.{◌≡◌, ℕ, suc, ◌+◌, List, [], ◌∷◌, ◌++◌, codes, get_or, length, map, Option, Some, None}
use Rattle.std.proofs.Common.{refl, sym, ap, subst, ◌∙◌, append-nil, add-zero, zero-add, arith, ◌<◌, true, false}
use Rattle.std.proofs.lemmas.List.{map-append}
use Rattle.std.proofs.lemmas.List.Sums.{sum_by-append, sum_by-cons}
use Rattle.std.proofs.lemmas.Option.{get_or_from_slice_get, slice_get-get_or, slice_get-map}
use Rattle.std.specs.Fmt.{decimal}
use Rattle.std.specs.List.{enumerate_from, flat_map, fold, slice_get, sum_by}
use Rattle.std.specs.Option.{option_flatten, option_map}
use Rattle.std.specs.Prelude.{OnOk, Result, option_to_list}
use Rattle.bypass_mean.specs.Bypasses as mean
use Rattle.bypass_mean.specs.Lines.{a_fused, all_made, an_absent, end_line, ended_line, entry_lines, made_lines}
use Rattle.bypass_mean.specs.Lines.{plan_line, plan_name, plans_lines, printed_lines}
use Rattle.layer_mean.specs.Tree.{LayerTree}
use Rattle.stack_mean.specs.Plan.{Plan}
use Rattle.synth_print.specs.Counts.{counts_of, no_counts, with_cases, with_made, with_second}
use Rattle.synth_print.specs.Entries.{case_lines, counted_line, found_lines, heading, if_made, name_text, plan_text}
use Rattle.synth_print.specs.Entries.{plan_turn}
use Rattle.synth_print.specs.Lines.{ended_lines}
use Rattle.synth_print.specs.declared.counts.Counts.{Counts}
use Rattle.synth_print.specs.declared.name.Name.{Name}
use Rattle.synth_print.specs.declared.name.Name.TheVariants as names
use Rattle.synth_print.proofs.Planned.{plan_is}
use Rattle.trace_core.specs.Bypasses.{bypasses_tree, first_tree, second_tree}
use Rattle.trace_core.specs.declared.bypass.Bypasses.{Bypasses}
use Rattle.trace_core.specs.declared.bypass.Cases.{Cases}

pub ended_both : (xs ys : List (List ℕ)) → ended_lines (xs ++ ys) ≡ ended_lines xs ++ ended_lines ys
ended_both xs ys = map-append ended_line xs ys

-- what is put of an entry, given what is told of it in its first case and in its second
module _ (f g : mean.Made → List (List ℕ)) where
  abbrev told : Option mean.Made → Option (Option mean.Made) → List (List ℕ)
  told first second = flat_map f (option_to_list first) ++ flat_map g (option_to_list (option_flatten second))

  told_is : (first : mean.Made) (second : Option mean.Made) → ended_lines (f first) ++ if_made g second ≡
      ended_lines (told (Some first) (Some second))
  told_is first None = append-nil (ended_lines (f first)) ∙
      ap ended_lines (sym (append-nil (f first ++ []) ∙ append-nil (f first)))
  told_is first (Some m) = sym (ended_both (f first) (g m)) ∙
      ap ended_lines (sym (λ t. append-nil (f first) t ++ append-nil (g m) t))

  pub entry_told : (b : mean.Bypasses) (n : ℕ) (first : mean.Made) (second : Option mean.Made) →
      slice_get b.made n ≡ Some first → slice_get b.second n ≡ Some second →
      ended_lines (f first) ++ if_made g second ≡ ended_lines (told (slice_get b.made n) (slice_get b.second n))
  entry_told b n first second is also =
      told_is first second ∙ ap (λ o. ended_lines (told o (Some second))) (sym is) ∙
      ap (λ o. ended_lines (told (slice_get b.made n) o)) (sym also)

  pub entry_none : (b : mean.Bypasses) (n : ℕ) → slice_get b.made n ≡ None → slice_get b.second n ≡ None →
      [] ≡ ended_lines (told (slice_get b.made n) (slice_get b.second n))
  entry_none b n is also = ap (λ o. ended_lines (told o None)) (sym is) ∙
      ap (λ o. ended_lines (told (slice_get b.made n) o)) (sym also)

entry_is : (stack : List LayerTree) (b : mean.Bypasses) (n : ℕ) (name : Name) (first : mean.Made)
    (second : Option mean.Made) →
    slice_get b.made n ≡ Some first → slice_get b.second n ≡ Some second →
    case_lines stack name first second ≡ ended_lines (entry_lines stack b n (name_text name))
entry_is stack b n name first second is also =
    entry_told (made_lines stack (heading name false)) (made_lines stack (heading name true)) b n first second is also

-- the entry of a plan is after the two of the application
later_two : {X : Type 0} (x y : X) (xs : List X) (k : ℕ) → slice_get (x ∷ y ∷ xs) (k + 2) ≡ slice_get xs k
later_two x y xs k = let same : k + 2 ≡ suc (suc k) = omega arith in ap (slice_get (x ∷ y ∷ xs)) same

pub plan_made : {Y : Type 0} (f : Cases → Y) (b : Bypasses) (k : ℕ) (o : Option Cases) → o ≡ slice_get b.plans.items k →
    slice_get (map f (b.cast ∷ b.send ∷ b.plans.items)) (k + 2) ≡ option_map f o
plan_made f b k o is = later_two (f b.cast) (f b.send) (map f b.plans.items) k ∙ slice_get-map f b.plans.items k ∙
    ap (option_map f) (sym is)

found_is : (stack : List LayerTree) (b : Bypasses) (k : ℕ) (o : Option Cases) → o ≡ slice_get b.plans.items k →
    found_lines stack (names.Plan k) o ≡ ended_lines (entry_lines stack (bypasses_tree b) (k + 2) (plan_name k))
found_is stack b k None is =
    entry_none (made_lines stack (heading (names.Plan k) false)) (made_lines stack (heading (names.Plan k) true))
    (bypasses_tree b) (k + 2)
    (plan_made first_tree b k None is) (plan_made second_tree b k None is)
found_is stack b k (Some c) is =
    entry_is stack (bypasses_tree b) (k + 2) (names.Plan k) (first_tree c) (second_tree c)
    (plan_made first_tree b k (Some c) is)
    (plan_made second_tree b k (Some c) is)

pub turn_is : (stack : List LayerTree) (b : Bypasses) (k : ℕ) (plan : Plan) (o : Option Cases) →
    o ≡ slice_get b.plans.items k →
    (plan_text stack k plan ∷ []) ++ found_lines stack (names.Plan k) o ≡ plan_turn stack (bypasses_tree b) (k, plan)
turn_is stack b k plan o is =
    ap (λ text. text ∷ found_lines stack (names.Plan k) o) (sym (plan_is stack k plan))
    ∙ ap (λ lines. ended_line (plan_line stack k plan) ∷ lines) (found_is stack b k o is)

turns_are : (stack : List LayerTree) (b : mean.Bypasses) (k : ℕ) (plans : List Plan) →
    flat_map (plan_turn stack b) (enumerate_from k plans) ≡ ended_lines (plans_lines stack b k plans)
turns_are stack b k [] = refl
turns_are stack b k (plan ∷ plans) =
    let next : k + 1 ≡ suc k = omega arith in
    ap (λ lines. plan_turn stack b (k, plan) ++ lines)
    (ap (λ n. flat_map (plan_turn stack b) (enumerate_from n plans)) next ∙ turns_are stack b (suc k) plans)
    ∙ sym (ended_both (plan_line stack k plan ∷ entry_lines stack b (k + 2) (plan_name k))
    (plans_lines stack b (suc k) plans))

pub all_is : (stack : List LayerTree) (plans : List Plan) (b : Bypasses) →
    case_lines stack names.Cast (first_tree b.cast) (second_tree b.cast) ++
    case_lines stack names.Send (first_tree b.send) (second_tree b.send)
    ++ flat_map (plan_turn stack (bypasses_tree b)) (enumerate_from 0 plans) ++
    ended_line (end_line (bypasses_tree b)) ∷ []
    ≡ printed_lines stack plans (bypasses_tree b)
all_is stack plans b =
    let bs = bypasses_tree b in
    let cast = entry_lines stack bs 0 (codes "cast") in
    let send = entry_lines stack bs 1 (codes "send") in
    let rest = plans_lines stack bs 0 plans in
    let last = end_line bs ∷ [] in
    ap (λ l. l ++ case_lines stack names.Send (first_tree b.send) (second_tree b.send)
    ++ flat_map (plan_turn stack bs) (enumerate_from 0 plans) ++ ended_lines last)
    (entry_is stack bs 0 names.Cast (first_tree b.cast) (second_tree b.cast) refl refl)
    ∙ ap (λ l. ended_lines cast ++ l ++ flat_map (plan_turn stack bs) (enumerate_from 0 plans) ++ ended_lines last)
    (entry_is stack bs 1 names.Send (first_tree b.send) (second_tree b.send) refl refl)
    ∙ ap (λ l. ended_lines cast ++ ended_lines send ++ l ++ ended_lines last) (turns_are stack bs 0 plans)
    ∙ ap (λ l. l ++ ended_lines rest ++ ended_lines last) (sym (ended_both cast send))
    ∙ ap (λ l. l ++ ended_lines last) (sym (ended_both (cast ++ send) rest))
    ∙ sym (ended_both (cast ++ send ++ rest) last)

-- an element of a list that is mapped
pub plan_at : {X Y : Type 0} (f : X → Y) (xs : List X) (k : ℕ) (x : X) → k < length xs → x ≡ get_or xs k x →
    f x ≡ get_or (map f xs) k (f x)
plan_at f xs k x lt is =
    sym (get_or_from_slice_get (map f xs) k (f x) (f x)
    (slice_get-map f xs k ∙ ap (option_map f) (slice_get-get_or xs k x lt ∙ ap Some (sym is))))

-- how many there are
second_adds : (get : Counts → ℕ) (f : mean.Made → ℕ) →
    ((c : Counts) (m : mean.Made) → get (with_made c m) ≡ get c + f m) →
    (c : Counts) (o : Option mean.Made) → get (with_second c o) ≡ get c + sum_by f (option_to_list o)
second_adds get f one c None = sym (add-zero (get c))
second_adds get f one c (Some m) = one c m ∙ ap (λ n. get c + n) (sym (sum_by-cons f m [] ∙ add-zero (f m)))

abbrev all_of : List Cases → List mean.Made
all_of cs = map first_tree cs ++ flat_map option_to_list (map second_tree cs)

sum_of : (f : mean.Made → ℕ) (c : Cases) (cs : List Cases) →
    sum_by f (all_of (c ∷ cs)) ≡ f (first_tree c) + sum_by f (option_to_list (second_tree c)) + sum_by f (all_of cs)
sum_of f c cs =
    let firsts = map first_tree cs in
    let seconds = flat_map option_to_list (map second_tree cs) in
    let here : sum_by f (option_to_list (second_tree c) ++ seconds) ≡
    sum_by f (option_to_list (second_tree c)) + sum_by f seconds =
    sum_by-append f (option_to_list (second_tree c)) seconds in
    let both : sum_by f (firsts ++ seconds) ≡ sum_by f firsts + sum_by f seconds = sum_by-append f firsts seconds in
    let all : sum_by f (all_of (c ∷ cs)) ≡
    sum_by f (first_tree c ∷ firsts) + sum_by f (option_to_list (second_tree c) ++ seconds) =
    sum_by-append f (first_tree c ∷ firsts) (option_to_list (second_tree c) ++ seconds) in
    let one : sum_by f (first_tree c ∷ firsts) ≡ f (first_tree c) + sum_by f firsts =
    sum_by-cons f (first_tree c) firsts in
    omega (arith, here, both, all, one)

counts_add : (get : Counts → ℕ) (f : mean.Made → ℕ) →
    ((c : Counts) (m : mean.Made) → get (with_made c m) ≡ get c + f m) →
    (c : Counts) (cs : List Cases) → get (fold with_cases c cs) ≡ get c + sum_by f (all_of cs)
counts_add get f one c [] = sym (add-zero (get c))
counts_add get f one c (x ∷ cs) =
    let first : get (with_made c (first_tree x)) ≡ get c + f (first_tree x) = one c (first_tree x) in
    let second : get (with_cases c x) ≡ get (with_made c (first_tree x)) + sum_by f (option_to_list (second_tree x)) =
    second_adds get f one (with_made c (first_tree x)) (second_tree x) in
    let rest : get (fold with_cases (with_cases c x) cs) ≡ get (with_cases c x) + sum_by f (all_of cs) =
    counts_add get f one (with_cases c x) cs in
    omega (arith, first, second, rest, sum_of f x cs)

count_is : (get : Counts → ℕ) (f : mean.Made → ℕ) → ((c : Counts) (m : mean.Made) → get (with_made c m) ≡ get c + f m) →
    get no_counts ≡ 0 →
    (b : Bypasses) → get (counts_of b) ≡ sum_by f (all_made (bypasses_tree b))
count_is get f one none b =
    counts_add get f one no_counts (b.cast ∷ b.send ∷ b.plans.items) ∙
    ap (λ n. n + sum_by f (all_made (bypasses_tree b))) none
    ∙ zero-add (sum_by f (all_made (bypasses_tree b)))

end_is : (b : Bypasses) → counted_line (counts_of b) ≡ end_line (bypasses_tree b)
end_is b = λ t. codes "end " ++ decimal (count_is (λ c. c.fused) a_fused (λ c m. refl) refl b t) ++ codes " fused "
    ++ decimal (count_is (λ c. c.absent) an_absent (λ c m. refl) refl b t) ++ codes " absent"

pub counted_is : {E : Type 0} (b : Bypasses) (c : Counts) (r : Result (Unit {0}) E) (old new : List ℕ) →
    c ≡ counts_of b →
    OnOk r (new ≡ old ++ ended_line (counted_line c)) → OnOk r (new ≡ old ++ ended_line (end_line (bypasses_tree b)))
counted_is b c r old new is put = subst (λ text. OnOk r (new ≡ old ++ ended_line text)) (ap counted_line is ∙ end_is b)
    put
