-- Names of numbers and their slots: what is visible as a number has a slot, which is one of those that are taken.
use Rattle.std.proofs.Common.{◌≡◌, ◌∙◌, ℕ, zero, suc, ◌+◌, ◌-◌, ◌<◌, ◌≤◌, Bool, true, false, List, [], ◌∷◌, ◌++◌}
use Rattle.std.proofs.Common.{length, Option, Some, None, refl, sym, ap, subst, arith}
use Rattle.std.specs.Prelude.{bytes_eq, cond, is_some, take}
use Rattle.std.specs.List.{AllByRecursion, last_or}
use Rattle.std.specs.Map.{lookup}
use Rattle.std.proofs.lemmas.Slice.Eq.{bytes_eq-Decides}
use Rattle.layer_ast.specs.declared.names.Name.{Name}
use Rattle.layer_words.specs.declared.words.Word.{Word}
use Rattle.layer_words.specs.declared.sorts.Sort.{Sort}
use Rattle.layer_words.specs.declared.sorts.Sort.TheVariants.{Int, Msg, Part}
use Rattle.fault_mean.specs.Scope.{Local, locals_as}
use Rattle.file_mean.specs.Names.{Names, in_slots, numbers_among, with_numbers}
use Rattle.chain_laws.proofs.Lists.{each_append, each_so}

-- all but the last

abbrev pub front : {A : Type 0} → List A → List A
front [] = []
front (x ∷ []) = []
front (x ∷ y ∷ xs) = x ∷ front (y ∷ xs)

take_none : {A : Type 0} (k : ℕ) → take {A = A} k [] ≡ []
take_none zero = refl
take_none (suc k) = refl

pub front_is : {A : Type 0} (xs : List A) → take (length xs - 1) xs ≡ front xs
front_is [] = take_none (0 - 1)
front_is (x ∷ []) = let e : length (x ∷ []) - 1 ≡ 0 = omega arith in ap (λ k. take k (x ∷ [])) e
front_is (x ∷ y ∷ xs) =
    let e : length (x ∷ y ∷ xs) - 1 ≡ suc (length (y ∷ xs) - 1) = omega arith in
    ap (λ k. take k (x ∷ y ∷ xs)) e ∙ ap (λ l. x ∷ l) (front_is (y ∷ xs))

abbrev pub kept : {A : Type 0} → Bool → List A → List A
kept true xs = front xs
kept false xs = xs

pub kept_is : {A : Type 0} (has : Bool) (xs : List A) → numbers_among has xs ≡ kept has xs
kept_is true xs = front_is xs
kept_is false xs = refl

-- what is seen as a number is found

abbrev pub SeenAs : Sort → Option ℕ → Type 0
SeenAs Int o = is_some o ≡ true
SeenAs _ o = Unit {0}

abbrev pub Seen : List (Word × ℕ) → Local → Type 0
Seen numbers l = SeenAs l.sort (lookup (bytes_eq l.name.word) numbers)

pub record Sees (names : Names) (locals : List Local) : Type 0 where
  pub below : AllByRecursion (λ x. x.1 < names.taken.numbers) names.numbers
  pub seen : AllByRecursion (Seen names.numbers) locals

cond_below : (b : Bool) (x n k : ℕ) (rest : Option ℕ) → x < n → (rest ≡ Some k → k < n) →
    cond b (Some x) rest ≡ Some k → k < n
cond_below true x n k rest less later is = let e : x ≡ k = cc is in subst (λ k. k < n) e less
cond_below false x n k rest less later is = later is

pub lookup_below : (p : Word → Bool) (numbers : List (Word × ℕ)) (n k : ℕ) → AllByRecursion (λ x. x.1 < n) numbers →
    lookup p numbers ≡ Some k → k < n
lookup_below p [] n k h is = absurd (cc is)
lookup_below p (x ∷ numbers) n k h is =
    cond_below (p x.0) x.1 n k (lookup p numbers) h.0 (lookup_below p numbers n k h.1) is

cond_some : (b : Bool) (x : ℕ) (rest : Option ℕ) → is_some rest ≡ true → is_some (cond b (Some x) rest) ≡ true
cond_some true x rest h = refl
cond_some false x rest h = h

lookup_after : (p : Word → Bool) (new old : List (Word × ℕ)) → is_some (lookup p old) ≡ true →
    is_some (lookup p (new ++ old)) ≡ true
lookup_after p [] old h = h
lookup_after p (x ∷ new) old h = cond_some (p x.0) x.1 (lookup p (new ++ old)) (lookup_after p new old h)

cond_first : (b : Bool) (x : ℕ) (rest : Option ℕ) → b ≡ true → is_some (cond b (Some x) rest) ≡ true
cond_first true x rest h = refl
cond_first false x rest h = absurd (cc h)

pub same_word : (w : Word) → bytes_eq w w ≡ true
same_word w = (bytes_eq-Decides w w).1 refl

abbrev pub Found : List (Word × ℕ) → Name → Type 0
Found numbers name = is_some (lookup (bytes_eq name.word) numbers) ≡ true

pub found_new : (first : ℕ) (new : List Name) (old : List (Word × ℕ)) →
    AllByRecursion (Found (in_slots first new ++ old)) new
found_new first [] old = tt
found_new first (n ∷ new) old = (
  cond_first (bytes_eq n.word n.word) first (lookup (bytes_eq n.word) (in_slots (first + 1) new ++ old))
      (same_word n.word),
  each_so (Found (in_slots (first + 1) new ++ old)) (Found (in_slots first (n ∷ new) ++ old))
      (λ m h. cond_some (bytes_eq m.word n.word) first (lookup (bytes_eq m.word) (in_slots (first + 1) new ++ old)) h)
      new
      (found_new (first + 1) new old),
)

pub slots_below : (first : ℕ) (new : List Name) (n : ℕ) → first + length new ≤ n →
    AllByRecursion (λ x. x.1 < n) (in_slots first new)
slots_below first [] n le = tt
slots_below first (m ∷ new) n le = (omega (arith, le), slots_below (first + 1) new n (omega (arith, le)))

seen_found : (numbers : List (Word × ℕ)) (name : Name) (sort : Sort) → Found numbers name →
    SeenAs sort (lookup (bytes_eq name.word) numbers)
seen_found numbers name Int h = h
seen_found numbers name Msg h = tt
seen_found numbers name Part h = tt

seen_after : (new old : List (Word × ℕ)) (name : Name) (sort : Sort) → SeenAs sort (lookup (bytes_eq name.word) old) →
    SeenAs sort (lookup (bytes_eq name.word) (new ++ old))
seen_after new old name Int h = lookup_after (bytes_eq name.word) new old h
seen_after new old name Msg h = tt
seen_after new old name Part h = tt

pub seen_all : (numbers : List (Word × ℕ)) (sorts : List Sort) (new : List Name) → AllByRecursion (Found numbers) new →
    AllByRecursion (Seen numbers) (locals_as sorts new)
seen_all numbers sorts [] h = tt
seen_all numbers [] (n ∷ new) h = (h.0, seen_all numbers [] new h.1)
seen_all numbers (s ∷ sorts) (n ∷ new) h = (seen_found numbers n s h.0, seen_all numbers sorts new h.1)

-- names of which the last may stand for a message

abbrev pub IsMessageSort : Option Sort → Type 0
IsMessageSort None = Unit {0}
IsMessageSort (Some Int) = ⊥
IsMessageSort (Some _) = Unit {0}

abbrev pub LastSort : Bool → List Sort → Type 0
LastSort true sorts = IsMessageSort (last_or None sorts)
LastSort false sorts = Unit {0}

seen_last : (numbers : List (Word × ℕ)) (name : Name) (s : Sort) → IsMessageSort (Some s) →
    Seen numbers (record { name = name; sort = s })
seen_last numbers name Int h = absurd h
seen_last numbers name Msg h = tt
seen_last numbers name Part h = tt

pub seen_front : (numbers : List (Word × ℕ)) (sorts : List Sort) (new : List Name) → length sorts ≡ length new →
    IsMessageSort (last_or None sorts) → AllByRecursion (Found numbers) (front new) →
    AllByRecursion (Seen numbers) (locals_as sorts new)
seen_front numbers [] [] same last h = tt
seen_front numbers [] (n ∷ new) same last h = absurd (omega (arith, same))
seen_front numbers (s ∷ sorts) [] same last h = absurd (omega (arith, same))
seen_front numbers (s ∷ []) (n ∷ []) same last h = (seen_last numbers n s last, tt)
seen_front numbers (s ∷ []) (n ∷ m ∷ new) same last h = absurd (omega (arith, same))
seen_front numbers (s ∷ t ∷ sorts) (n ∷ []) same last h = absurd (omega (arith, same))
seen_front numbers (s ∷ t ∷ sorts) (n ∷ m ∷ new) same last h = (
  seen_found numbers n s h.0,
  seen_front numbers (t ∷ sorts) (m ∷ new) (omega (arith, same)) (last_same s t sorts last) h.1,
) where
  last_same : (s t : Sort) (sorts : List Sort) → IsMessageSort (last_or (Some s) (t ∷ sorts)) →
      IsMessageSort (last_or None (t ∷ sorts))
  last_same s t sorts h = h

-- with new names for numbers

pub sees_numbers : (names : Names) (locals further : List Local) (new : List Name) → Sees names locals →
    AllByRecursion (Seen (in_slots names.taken.numbers new ++ names.numbers)) further →
    Sees (with_numbers new names) (locals ++ further)
sees_numbers names locals further new h more = record {
  below = each_append _ (in_slots names.taken.numbers new) names.numbers
      (slots_below names.taken.numbers new (names.taken.numbers + length new) (omega arith))
      (each_so (λ x. x.1 < names.taken.numbers) (λ x. x.1 < names.taken.numbers + length new)
      (λ x less. omega (arith, less)) names.numbers h.below);
  seen = each_append _ locals further
      (each_so (Seen names.numbers) (Seen (in_slots names.taken.numbers new ++ names.numbers))
      (λ l is. seen_after (in_slots names.taken.numbers new) names.numbers l.name l.sort is) locals h.seen) more;
}

-- all new names are numbers
pub sees_all : (names : Names) (locals : List Local) (sorts : List Sort) (new : List Name) → Sees names locals →
    Sees (with_numbers new names) (locals ++ locals_as sorts new)
sees_all names locals sorts new h = sees_numbers names locals (locals_as sorts new) new h
    (seen_all _ sorts new (found_new names.taken.numbers new names.numbers))

-- all but a last one that stands for a message
pub sees_kept : (names : Names) (locals : List Local) (has : Bool) (sorts : List Sort) (new : List Name) →
    Sees names locals →
    length sorts ≡ length new → LastSort has sorts →
    Sees (with_numbers (numbers_among has new) names) (locals ++ locals_as sorts new)
sees_kept names locals true sorts new h same last =
    subst (λ ns. Sees (with_numbers ns names) (locals ++ locals_as sorts new)) (sym (front_is new))
    (sees_numbers names locals (locals_as sorts new) (front new) h
    (seen_front _ sorts new same last (found_new names.taken.numbers (front new) names.numbers)))
sees_kept names locals false sorts new h same last = sees_all names locals sorts new h
