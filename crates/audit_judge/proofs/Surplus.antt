-- The least lack, put together from those of each pair of segments.
use Rattle.std.proofs.Common.{◌≡◌, ℕ, ◌+◌, ◌<◌, true, false, cond, List, [], ◌∷◌, ◌++◌, length, take, get_or, Option}
use Rattle.std.proofs.Common.{Some, None, refl, sym, ap, ◌∙◌, arith}
use Rattle.std.specs.Prelude.{◌&&◌, ◌==◌, map, filter, count_by}
use Rattle.std.specs.List.{flat_map}
use Rattle.std.proofs.lemmas.Bool.Decides.{nat_tests}
use Rattle.std.proofs.lemmas.List.{append-nil, map-append, map_more}
use Rattle.std.proofs.lemmas.List.Concat.{flat_map-append}
use Rattle.std.proofs.lemmas.List.Elements.{filter-append}
use Rattle.audit_mean.specs.Segment.{Entry, Numbered, same_content}
use Rattle.audit_mean.specs.Lack.{Ended, ended_after, goes_along, surplus_after, lacks_of}
use Rattle.audit_mean.specs.Lack as spec
use Rattle.audit_judge.specs.declared.contents.Ranked.{Ranked}
use Rattle.audit_mean.specs.Finding.{comes_before, lesser, least}
use Rattle.audit_judge.specs.Lacks.{Known, known_segment, ranked_after, ranked_shown, exceeds, lines_of_lack, surplus}
use Rattle.audit_judge.specs.Lacks.{lacks}
use Rattle.audit_judge.specs.Lacks.{is_other, lacks_of_one, goes_with, lacks_in, all_lacks, first_of}

passes_on : (x y z : ℕ × ℕ) → comes_before y x ≡ true → comes_before z y ≡ true → comes_before z x ≡ true
passes_on x y z a b = grind (arith, nat_tests)

stays_after : (x y z : ℕ × ℕ) → comes_before y x ≡ false → comes_before z y ≡ false → comes_before z x ≡ false
stays_after x y z a b = grind (arith, nat_tests)

-- of three the first is the same however they are grouped
of_three : (x y z : ℕ × ℕ) → lesser (lesser x (Some y)) (Some z) ≡ lesser x (Some (lesser y (Some z)))
of_three x y z =
    elim (comes_before y x) as
    (λ p. comes_before y x ≡ p → lesser (cond p y x) (Some z) ≡ lesser x (Some (lesser y (Some z)))) [
      | true ↦ λ e.
          elim (comes_before z y) as (λ q. comes_before z y ≡ q → cond q z y ≡ lesser x (Some (cond q z y))) [
            | true ↦ λ h. rw (passes_on x y z e h) refl
            | false ↦ λ h. rw e refl
          ] refl
      | false ↦ λ e.
          elim (comes_before z y) as (λ q. comes_before z y ≡ q → lesser x (Some z) ≡ lesser x (Some (cond q z y))) [
            | true ↦ λ h. refl
            | false ↦ λ h. rw (stays_after x y z e h, e) refl
          ] refl
    ] refl

regrouped : (a b c : Option (ℕ × ℕ)) → first_of (first_of a b) c ≡ first_of a (first_of b c)
regrouped None b c = refl
regrouped (Some x) None c = refl
regrouped (Some x) (Some y) None = refl
regrouped (Some x) (Some y) (Some z) = ap Some (of_three x y z)

-- the least of two lists is the first of their leasts
pub least-append : (xs ys : List (ℕ × ℕ)) → least (xs ++ ys) ≡ first_of (least xs) (least ys)
least-append [] ys = refl
least-append (x ∷ xs) ys = ap (first_of (Some x)) (least-append xs ys) ∙ sym (regrouped (Some x) (least xs) (least ys))

-- one more of the deliveries that are gone through: it is one too many, or not
pub surplus_further : (line : ℕ) (all : List Entry) (deliveries : List Ranked) (i : ℕ) (d : Ranked)
    (found new : Option (ℕ × ℕ)) → i < length deliveries → exceeds all (ranked_shown (get_or deliveries i d)) ≡ true →
    found ≡ least (surplus line all (map ranked_shown (take i deliveries))) →
    new ≡ first_of found (Some ((get_or deliveries i d).entry.line, line)) →
    new ≡ least (surplus line all (map ranked_shown (take (i + 1) deliveries)))
surplus_further line all deliveries i d found new inside e so_far is =
    let x = ranked_shown (get_or deliveries i d) in
    let xs = map ranked_shown (take i deliveries) in
    is ∙ ap (λ o. first_of o (Some (x.entry.line, line))) so_far
    ∙ sym (least-append (surplus line all xs) ((x.entry.line, line) ∷ []))
    ∙ ap least (sym (map-append (lines_of_lack line) (filter (exceeds all) xs) (x ∷ [])))
    ∙ (λ j. least (map (lines_of_lack line) (filter (exceeds all) xs ++ cond (sym e j) (x ∷ []) [])))
    ∙ ap (λ ys. least (map (lines_of_lack line) ys)) (sym (filter-append (exceeds all) xs (x ∷ [])))
    ∙ ap (λ ys. least (surplus line all ys)) (sym (map_more ranked_shown deliveries i d inside))

pub surplus_same : (line : ℕ) (all : List Entry) (deliveries : List Ranked) (i : ℕ) (d : Ranked)
    (found : Option (ℕ × ℕ)) → i < length deliveries → exceeds all (ranked_shown (get_or deliveries i d)) ≡ false →
    found ≡ least (surplus line all (map ranked_shown (take i deliveries))) →
    found ≡ least (surplus line all (map ranked_shown (take (i + 1) deliveries)))
surplus_same line all deliveries i d found inside e so_far =
    let x = ranked_shown (get_or deliveries i d) in
    let xs = map ranked_shown (take i deliveries) in
    so_far
    ∙ ap (λ ys. least (map (lines_of_lack line) ys)) (sym (append-nil (filter (exceeds all) xs)))
    ∙ (λ j. least (map (lines_of_lack line) (filter (exceeds all) xs ++ cond (sym e j) (x ∷ []) [])))
    ∙ ap (λ ys. least (map (lines_of_lack line) ys)) (sym (filter-append (exceeds all) xs (x ∷ [])))
    ∙ ap (λ ys. least (surplus line all ys)) (sym (map_more ranked_shown deliveries i d inside))

-- more of the segments of a group
pub others_more : (one : Known) (xs ys : List Known) → least (lacks_of_one one (xs ++ ys)) ≡
    first_of (least (lacks_of_one one xs)) (least (lacks_of_one one ys))
others_more one xs ys =
    ap (λ zs. least (flat_map (lacks one) zs)) (filter-append (is_other one) xs ys)
    ∙ ap least (flat_map-append (lacks one) (filter (is_other one) xs) (filter (is_other one) ys))
    ∙ least-append (lacks_of_one one xs) (lacks_of_one one ys)

-- ranks change no delivery
pub entries_ranked : (before entries : List Entry) → map (λ placed. placed.entry) (ranked_after before entries) ≡
    entries
entries_ranked before [] = refl
entries_ranked before (e ∷ entries) = ap (λ es. e ∷ es) (entries_ranked (before ++ e ∷ []) entries)

same_surplus : (line : ℕ) (all before entries : List Entry) → surplus line all (ranked_after before entries) ≡
    map (λ entry. (entry.line, line)) (surplus_after all before entries)
same_surplus line all before [] = refl
same_surplus line all before (e ∷ entries) =
    let rest = same_surplus line all (before ++ e ∷ []) entries in
    elim (count_by (same_content e) before == count_by (same_content e) all) as
    (λ t. map (lines_of_lack line)
    (cond t (record { entry = e; place = count_by (same_content e) before } ∷
    filter (exceeds all) (ranked_after (before ++ e ∷ []) entries))
    (filter (exceeds all) (ranked_after (before ++ e ∷ []) entries))) ≡
    map (λ entry. (entry.line, line)) (cond t (e ∷ []) [] ++ surplus_after all (before ++ e ∷ []) entries)) [
      | true ↦ ap (λ ys. (e.line, line) ∷ ys) rest
      | false ↦ rest
    ]

same_lacks : (one other : Ended) → lacks (known_segment one) (known_segment other) ≡ spec.lacks one other
same_lacks one other = rw (entries_ranked [] one.entries) (same_surplus one.line one.entries [] other.entries)

of_group : (one : Ended) (others : List Ended) → lacks_in (map known_segment others) (known_segment one) ≡
    flat_map (spec.lacks one) (filter (goes_along one) others)
of_group one [] = refl
of_group one (other ∷ others) =
    let rest = filter (goes_with (known_segment one)) (map known_segment others) in
    let more = of_group one others in
    elim (goes_with (known_segment one) (known_segment other)) as
    (λ p. flat_map (lacks (known_segment one))
    (filter (is_other (known_segment one)) (cond p (known_segment other ∷ rest) rest)) ≡
    flat_map (spec.lacks one)
    (cond (p && is_other (known_segment one) (known_segment other)) (other ∷ filter (goes_along one) others)
    (filter (goes_along one) others))) [
      | true ↦
          elim (is_other (known_segment one) (known_segment other)) as
          (λ q. flat_map (lacks (known_segment one))
          (cond q (known_segment other ∷ filter (is_other (known_segment one)) rest)
          (filter (is_other (known_segment one)) rest)) ≡
          flat_map (spec.lacks one)
          (cond q (other ∷ filter (goes_along one) others) (filter (goes_along one) others))) [
            | true ↦ λ i. same_lacks one other i ++ more i
            | false ↦ more
          ]
      | false ↦ more
    ]

of_each : (all ones : List Ended) → flat_map (lacks_in (map known_segment all)) (map known_segment ones) ≡
    flat_map (λ one. flat_map (spec.lacks one) (filter (goes_along one) all)) ones
of_each all [] = refl
of_each all (one ∷ ones) = λ i. of_group one all i ++ of_each all ones i

-- what is found are the lacks that the definition means
pub same_finding : (lines : List Numbered) → all_lacks (map known_segment (ended_after [] lines)) ≡ lacks_of lines
same_finding lines = of_each (ended_after [] lines) (ended_after [] lines)
