-- Lists that go on, and lists with one item changed.
use Rattle.std.proofs.Common.{◌≡◌, ◌≢◌, ℕ, zero, suc, ◌+◌, ◌==◌, Bool, true, false, List, [], ◌∷◌, ◌++◌, filter, length}
use Rattle.std.proofs.Common.{refl, sym, ap, subst, ◌∙◌, arith, Option, Some, None, count_by, get_or}
use Rattle.std.specs.Prelude.{slice_get, slice_set, slice_index_or}
use Rattle.std.specs.List.{AllByRecursion, filter_map}
use Rattle.std.proofs.lemmas.Bool.{eqb-true}
use Rattle.std.proofs.lemmas.List.{length-append}
use Rattle.std.proofs.lemmas.List.Elements.{filter-append}
use Rattle.std.proofs.lemmas.List.Quantifiers.{position-Some}
use Rattle.std.proofs.lemmas.List.Sums.{length-filter}
use Rattle.msg_core.specs.View.{ids, rank}
use Rattle.msg_core.specs.declared.packet.View.{View}

-- what is there stays there when a list goes on, and the next place is the new item's
pub get_more : {A : Type 0} (xs ys : List A) (q : ℕ) (x : A) → slice_get xs q ≡ Some x →
    slice_get (xs ++ ys) q ≡ Some x
get_more [] ys q x h = absurd (cc h)
get_more (y ∷ xs) ys zero x h = h
get_more (y ∷ xs) ys (suc q) x h = get_more xs ys q x h

pub get_last : {A : Type 0} (xs : List A) (x : A) → slice_get (xs ++ x ∷ []) (length xs) ≡ Some x
get_last [] x = refl
get_last (y ∷ xs) x = get_last xs x

-- what holds of each item that was there and of each new one holds of all
pub get_both : {A : Type 0} (P : A → Type 0) (xs ys : List A) →
    ((q : ℕ) (x : A) → slice_get xs q ≡ Some x → P x) → AllByRecursion P ys → (q : ℕ) (x : A) →
    slice_get (xs ++ ys) q ≡ Some x → P x
get_both P [] [] old all q x h = absurd (cc h)
get_both P [] (y ∷ ys) old all zero x h = let e : y ≡ x = cc h in subst P e all.0
get_both P [] (y ∷ ys) old all (suc q) x h = get_both P [] ys (λ k z e. absurd (cc e)) all.1 q x h
get_both P (y ∷ xs) ys old all zero x h = old zero x h
get_both P (y ∷ xs) ys old all (suc q) x h = get_both P xs ys (λ k. old (suc k)) all q x h

pub count_both : {A : Type 0} (p : A → Bool) (xs ys : List A) → count_by p (xs ++ ys) ≡ count_by p xs + count_by p ys
count_both p xs ys =
    sym (length-filter p (xs ++ ys)) ∙ ap length (filter-append p xs ys)
    ∙ length-append (filter p xs) (filter p ys)
    ∙ ap (λ n. n + length (filter p ys)) (length-filter p xs) ∙ ap (λ n. count_by p xs + n) (length-filter p ys)

-- what none of these is
pub count_none : {A : Type 0} (p : A → Bool) (xs : List A) → AllByRecursion (λ x. p x ≡ false) xs → count_by p xs ≡ 0
count_none p [] all = refl
count_none p (x ∷ xs) all = rw all.0 (count_none p xs all.1)

pub found_none : {A B : Type 0} (f : A → Option B) (xs : List A) → AllByRecursion (λ x. f x ≡ None) xs →
    filter_map f xs ≡ []
found_none f [] all = refl
found_none f (x ∷ xs) all = rw all.0 (found_none f xs all.1)

pub all_so : {A : Type 0} (P Q : A → Type 0) → ((x : A) → P x → Q x) → (xs : List A) → AllByRecursion P xs →
    AllByRecursion Q xs
all_so P Q so [] all = tt
all_so P Q so (x ∷ xs) all = (so x all.0, all_so P Q so xs all.1)

pub not_same : (a b : ℕ) → (a ≢ b) → (a == b) ≡ false
not_same a b ne = by (a == b) refl where
  by : (r : Bool) → (a == b) ≡ r → r ≡ false
  by true e = absurd (ne (eqb-true a b e))
  by false e = refl

-- what one member does changes no other: what holds of each other item and of a new one holds of each item of the list
-- with it
pub set_all : {A : Type 0} (P : ℕ → A → Type 0) (d : A) → ((i : ℕ) → P i d) → (xs : List A) (id : ℕ) (x : A) →
    ((i : ℕ) → (i ≢ id) → P i (slice_index_or xs i d)) → P id x → (i : ℕ) → P i (slice_index_or (slice_set xs id x) i d)
set_all P d none [] id x others here i = none i
set_all P d none (y ∷ xs) zero x others here zero = here
set_all P d none (y ∷ xs) zero x others here (suc i) = others (suc i) (λ e. omega (arith, e))
set_all P d none (y ∷ xs) (suc id) x others here zero = others zero (λ e. omega (arith, e))
set_all P d none (y ∷ xs) (suc id) x others here (suc i) =
    set_all (λ j. P (suc j)) d (λ j. none (suc j)) xs id x (λ j ne. others (suc j) (λ e. ne (omega (arith, e)))) here i

-- members of one rank are one
pub one_rank : (v : View) (i id me : ℕ) → rank v i ≡ Some me → rank v id ≡ Some me → i ≡ id
one_rank v i id me a b =
    let x = position-Some (λ other. other == i) (ids v) me 0 a in
    let y = position-Some (λ other. other == id) (ids v) me 0 b in
    sym (eqb-true (get_or (ids v) me 0) i x.1) ∙ eqb-true (get_or (ids v) me 0) id y.1
