-- Which segments lack something, told by the marks of a group.
use Rattle.std.proofs.Common.{◌≡◌, ℕ, ◌<◌, ◌≤◌, Bool, true, false, cond, List, [], ◌∷◌, Option, Some, None, refl, sym}
use Rattle.std.proofs.Common.{subst, arith}
use Rattle.std.specs.Prelude.{◌||◌, ◌==◌, not, filter}
use Rattle.std.specs.List.{AllByRecursion}
use Rattle.std.proofs.lemmas.Bool.{eqb-true}
use Rattle.std.proofs.lemmas.Bool.Decides.{nat_tests}
use Rattle.audit_mean.specs.Clash.{Placed}
use Rattle.audit_judge.specs.Lacks.{Known}
use Rattle.audit_judge.specs.Marks.{Rises, group_found, has, item_found, lacking, group_with, mark_with, other_than}
use Rattle.audit_judge.specs.declared.marks.Mark.{Mark}
use Rattle.audit_judge.specs.declared.marks.Group.{Group}

pub each : {X : Type 0} {P Q : X → Type 0} → ((x : X) → P x → Q x) → (xs : List X) → AllByRecursion P xs →
    AllByRecursion Q xs
each f [] all = tt
each f (x ∷ xs) all = (f x all.0, each f xs all.1)

pub for_any : {X Y : Type 0} (P : Y → X → Type 0) (xs : List X) → ((y : Y) → AllByRecursion (P y) xs) →
    AllByRecursion (λ x. (y : Y) → P y x) xs
for_any P [] all = tt
for_any P (x ∷ xs) all = (λ y. (all y).0, for_any P xs (λ y. (all y).1))

pub of_kept : {X : Type 0} (P : X → Type 0) (q : X → Bool) (xs : List X) → AllByRecursion P (filter q xs) →
    AllByRecursion (λ x. q x ≡ true → P x) xs
of_kept P q [] all = tt
of_kept P q (x ∷ xs) all =
    elim (q x) as (λ t. q x ≡ t → AllByRecursion P (cond t (x ∷ filter q xs) (filter q xs)) →
    AllByRecursion (λ y. q y ≡ true → P y) (x ∷ xs)) [
      | true ↦ λ e h. (λ _. h.0, of_kept P q xs h.1)
      | false ↦ λ e h. (λ k. absurd cc, of_kept P q xs h)
    ] refl all

pub kept_of : {X : Type 0} (P : X → Type 0) (q : X → Bool) (xs : List X) → AllByRecursion (λ x. q x ≡ true → P x) xs →
    AllByRecursion P (filter q xs)
kept_of P q [] all = tt
kept_of P q (x ∷ xs) all =
    elim (q x) as (λ t. q x ≡ t → AllByRecursion P (cond t (x ∷ filter q xs) (filter q xs))) [
      | true ↦ λ e. (all.0 e, kept_of P q xs all.1)
      | false ↦ λ e. kept_of P q xs all.1
    ] refl

-- a line is this one or before it
abbrev pub Reaches : Option ℕ → ℕ → Type 0
Reaches None line = ⊥
Reaches (Some first) line = first ≤ line

reaches_all : (first n : ℕ) (group : List Known) → first ≤ n → Rises n group →
    AllByRecursion (λ one. Reaches (Some first) one.line) group
reaches_all first n [] le rises = tt
reaches_all first n (one ∷ group) le rises =
    (omega (arith, rises.0), reaches_all first one.line group (omega (arith, rises.0)) rises.1)

-- a mark of segments after a line
abbrev Above : ℕ → Option Mark → Type 0
Above line None = Unit {0}
Above line (Some mark) = line < mark.front

pub front_marked : (mark : Option Mark) (group : Option Group) (member line : ℕ) →
    (mark_with mark group member line).front ≡ line
front_marked None group member line = refl
front_marked (Some mark) group member line =
    elim (mark.front == line) as
    (λ t. (mark.front == line) ≡ t →
    (cond t mark (record {
      member = mark.member;
      more_members = mark.more_members ||
          not (mark.member == member);
      front = line;
      gap = lacking (Some mark) group;
    })).front ≡ line) [
      | true ↦ λ e. eqb-true mark.front line e
      | false ↦ λ e. refl
    ] refl

found_above : (p : Placed) (n : ℕ) (group : List Known) → Rises n group → Above n (item_found p group)
found_above p n [] rises = tt
found_above p n (one ∷ group) rises =
    elim (has p one) as (λ t.
    Above n (cond t (Some (mark_with (item_found p group) (group_found group) one.member one.line))
    (item_found p group))) [
      | true ↦ rw (front_marked (item_found p group) (group_found group) one.member one.line) rises.0
      | false ↦ later (item_found p group) (found_above p one.line group rises.1)
    ]
  where
    later : (mark : Option Mark) → Above one.line mark → Above n mark
    later None above = tt
    later (Some mark) above = omega (arith, rises.0, above)

apart : (m n : ℕ) → n < m → (m == n) ≡ false
apart m n h = grind (arith, nat_tests)

unguarded : (mark : Mark) (group : Option Group) (member line : ℕ) → line < mark.front →
    mark_with (Some mark) group member line ≡
    record {
      member = mark.member;
      more_members = mark.more_members || not (mark.member == member);
      front = line;
      gap =
          lacking (Some mark) group;
    }
unguarded mark group member line above = rw (apart mark.front line above) refl

same_line : (line : ℕ) → (line == line) ≡ true
same_line line = grind (arith, nat_tests)

-- with one more segment before the others that has the item, the first that lacks it stays
still_lacking : (mark : Option Mark) (group : Option Group) (member line : ℕ) → Above line mark →
    lacking (Some (mark_with mark group member line)) (Some (group_with group member line)) ≡ lacking mark group
still_lacking None group member line above = rw (same_line line) refl
still_lacking (Some mark) group member line above = rw (unguarded mark group member line above, same_line line) refl

-- and one that lacks it is the first
now_lacking : (mark : Option Mark) (group : Option Group) (member line : ℕ) → Above line mark →
    lacking mark (Some (group_with group member line)) ≡ Some line
now_lacking None group member line above = refl
now_lacking (Some mark) group member line above = rw (apart mark.front line above) refl

-- a segment that lacks an item stands at the first of these, or after it
pub covered : (p : Placed) (n : ℕ) (group : List Known) → Rises n group →
    AllByRecursion (λ one. has p one ≡ false → Reaches (lacking (item_found p group) (group_found group)) one.line)
    group
covered p n [] rises = tt
covered p n (one ∷ group) rises =
    let mark = item_found p group in
    let following = group_found group in
    let above : Above one.line mark = found_above p one.line group rises.1 in
    elim (has p one) as (λ t. has p one ≡ t →
    AllByRecursion (λ o. has p o ≡ false →
    Reaches (lacking (cond t (Some (mark_with mark following one.member one.line)) mark)
    (Some (group_with following one.member one.line))) o.line) (one ∷ group)) [
      | true ↦ λ e. (
        λ h. absurd cc,
        each (λ o r h. subst (λ line. Reaches line o.line)
            (sym (still_lacking mark following one.member one.line above))
            (r h)) group (covered p one.line group rises.1),
      )
      | false ↦ λ e.
          let now = sym (now_lacking mark following one.member one.line above) in (
            λ h. subst (λ line. Reaches line one.line) now (omega arith),
            each (λ o r h. subst (λ line. Reaches line o.line) now r) group
                (reaches_all one.line one.line group (omega arith) rises.1),
          )
    ] refl

-- what a mark says of a segment, whether it has the item, and its member
abbrev pub OnlyBy : Option Mark → Bool → ℕ → Type 0
OnlyBy None there member = there ≡ false
OnlyBy (Some mark) there member = mark.more_members ≡ false → there ≡ true → member ≡ mark.member

first_only : (mark : Option Mark) (group : Option Group) (member line : ℕ) (there : Bool) → Above line mark →
    OnlyBy (Some (mark_with mark group member line)) there member
first_only None group member line there above = λ alone h. refl
first_only (Some mark) group member line there above =
    rw (unguarded mark group member line above) (λ alone h. of_two mark.more_members alone)
  where
    of_two : (more : Bool) → (more || not (mark.member == member)) ≡ false → member ≡ mark.member
    of_two true e = absurd cc
    of_two false e = by_test (mark.member == member) refl e
      where
        by_test : (t : Bool) → (mark.member == member) ≡ t → not t ≡ false → member ≡ mark.member
        by_test true is e = sym (eqb-true mark.member member is)
        by_test false is e = absurd cc

still_only : (mark : Option Mark) (group : Option Group) (member line : ℕ) (there : Bool) (other : ℕ) →
    Above line mark → OnlyBy mark there other → OnlyBy (Some (mark_with mark group member line)) there other
still_only None group member line there other above only = λ alone h. absurd cc
still_only (Some mark) group member line there other above only =
    rw (unguarded mark group member line above) (λ alone h. only (of_two mark.more_members alone) h)
  where
    of_two : (more : Bool) → (more || not (mark.member == member)) ≡ false → more ≡ false
    of_two true e = absurd cc
    of_two false e = refl

not_there : (mark : Option Mark) (there : Bool) (member : ℕ) → there ≡ false → OnlyBy mark there member
not_there None there member e = e
not_there (Some mark) there member e = λ alone h. absurd cc

-- an item that only one member has
pub only_by : (p : Placed) (n : ℕ) (group : List Known) → Rises n group →
    AllByRecursion (λ one. OnlyBy (item_found p group) (has p one) one.member) group
only_by p n [] rises = tt
only_by p n (one ∷ group) rises =
    let mark = item_found p group in
    let following = group_found group in
    let above : Above one.line mark = found_above p one.line group rises.1 in
    let rest = only_by p one.line group rises.1 in
    elim (has p one) as (λ t. has p one ≡ t →
    AllByRecursion (λ o. OnlyBy (cond t (Some (mark_with mark following one.member one.line)) mark) (has p o) o.member)
    (one ∷ group)) [
      | true ↦ λ e. (
        first_only mark following one.member one.line (has p one) above,
        each (λ o only. still_only mark following one.member one.line (has p o) o.member above only) group rest,
      )
      | false ↦ λ e. (not_there mark (has p one) one.member e, rest)
    ] refl

-- a segment of another member stands at the first of these, or after it
pub others : (member n : ℕ) (group : List Known) → Rises n group →
    AllByRecursion (λ one. (one.member ≡ member → ⊥) → Reaches (other_than member (group_found group)) one.line) group
others member n [] rises = tt
others member n (one ∷ group) rises =
    let following = group_found group in
    elim (one.member == member) as (λ t. (one.member == member) ≡ t →
    AllByRecursion (λ o. (o.member ≡ member → ⊥) →
    Reaches (cond t (other_than one.member following) (Some one.line)) o.line) (one ∷ group)) [
      | true ↦ λ e. (
        λ differ. absurd (differ (eqb-true one.member member e)),
        each (λ o r differ. subst (λ m. Reaches (other_than m following) o.line) (sym (eqb-true one.member member e))
            (r differ)) group (others member one.line group rises.1),
      )
      | false ↦ λ e. (
        λ differ. omega arith,
        each (λ o r differ. r) group (reaches_all one.line one.line group (omega arith) rises.1),
      )
    ] refl
