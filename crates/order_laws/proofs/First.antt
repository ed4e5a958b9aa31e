-- A list of deliveries of which a table tells is the first so many of what it tells.
use Rattle.std.proofs.Common.{◌≡◌, ℕ, zero, suc, ◌+◌, ◌==◌, Bool, true, false, List, [], ◌∷◌, ◌++◌, map, filter}
use Rattle.std.proofs.Common.{length, refl, sym, ap, subst, ◌∙◌, Some, arith, cond}
use Rattle.std.proofs.Common.{append_assoc}
use Rattle.std.specs.Prelude.{slice_get, take}
use Rattle.std.proofs.lemmas.Bool.{and_parts, eqb-true}
use Rattle.std.proofs.lemmas.List.{append-nil, length-append}
use Rattle.std.proofs.lemmas.List.Elements.{filter-append}
use Rattle.std.proofs.lemmas.List.Sums.{length-filter}
use Rattle.script_mean.specs.Words.{Word}
use Rattle.audit_mean.specs.Segment.{Entry}
use Rattle.audit_mean.specs.Clash.{Lists, of_each_peer, whole, same_list}
use Rattle.order_laws.specs.Deliveries.{told, list_number, place_after, Table, AreTold, TellsOf, list_of, ToldAreFirst}

-- one more of the first so many
take_one : {A : Type 0} (xs : List A) (k : ℕ) (x : A) → slice_get xs k ≡ Some x → take (suc k) xs ≡ take k xs ++ x ∷ []
take_one [] k x h = absurd (cc h)
take_one (y ∷ xs) zero x h = let e : y ≡ x = cc h in ap (λ z. z ∷ []) e
take_one (y ∷ xs) (suc k) x h = ap (λ ys. y ∷ ys) (take_one xs k x h)

map_append : {A B : Type 0} (f : A → B) (xs ys : List A) → map f (xs ++ ys) ≡ map f xs ++ map f ys
map_append f [] ys = refl
map_append f (x ∷ xs) ys = ap (λ zs. f x ∷ zs) (map_append f xs ys)

-- a delivery of one list with another is in the list of each delivery that the other is
one_list : (lists : Lists) (e like b : Entry) → same_list lists e like ≡ true →
    same_list lists b e ≡ same_list lists b like
one_list of_each_peer e like b h =
    let first = and_parts (e.member == like.member) _ h in
    let second = and_parts (e.segment.began == like.segment.began) _ first.1 in
    rw (
      eqb-true e.member like.member first.0,
      eqb-true e.segment.began like.segment.began second.0,
      eqb-true e.peer like.peer second.1,
    ) refl
one_list whole e like b h =
    let first = and_parts (e.member == like.member) _ h in
    let second = and_parts (e.segment.began == like.segment.began) _ first.1 in
    rw (eqb-true e.member like.member first.0, eqb-true e.segment.began like.segment.began second.0) refl

list_same : (lists : Lists) (e like : Entry) → same_list lists e like ≡ true →
    list_number lists e.peer ≡ list_number lists like.peer
list_same of_each_peer e like h =
    let first = and_parts (e.member == like.member) _ h in
    let second = and_parts (e.segment.began == like.segment.began) _ first.1 in eqb-true e.peer like.peer second.1
list_same whole e like h = refl

-- tests that answer alike count alike
filter_same : {A : Type 0} (p q : A → Bool) → ((x : A) → p x ≡ q x) → (xs : List A) → filter p xs ≡ filter q xs
filter_same p q same [] = refl
filter_same p q same (x ∷ xs) =
    ap (λ b. cond b (x ∷ filter p xs) (filter p xs)) (same x)
    ∙ ap (λ ys. cond (q x) (x ∷ ys) ys) (filter_same p q same xs)

module _ (lists : Lists) (table : Table) (like : Entry) (all : List (ℕ × Word))
    (tells : TellsOf table (list_number lists like.peer) all) where
  -- the list of these deliveries is the first so many
  IsFirst : List Entry → Type 0
  IsFirst es = map told (list_of lists like es) ≡ take (length (list_of lists like es)) all

  place_is : (before : List Entry) (e : Entry) → same_list lists e like ≡ true →
      place_after lists before e ≡ length (list_of lists like before)
  place_is before e h =
      sym (length-filter (λ b. same_list lists b e) before)
      ∙ ap length (filter_same (λ b. same_list lists b e) (λ b. same_list lists b like)
      (λ b. one_list lists e like b h) before)

  one_more : (before : List Entry) (e : Entry) (b : Bool) → same_list lists e like ≡ b →
      table e.segment.name (list_number lists e.peer) (place_after lists before e) ≡ Some (told e) → IsFirst before →
      IsFirst (before ++ e ∷ [])
  unfolding IsFirst
  one_more before e true h is first =
      let k = length (list_of lists like before) in
      let longer : list_of lists like (before ++ e ∷ []) ≡ list_of lists like before ++ e ∷ [] =
      filter-append (λ b. same_list lists b like) before (e ∷ [])
      ∙ (rw h refl) in
      let there : slice_get all k ≡ Some (told e) = tells e.segment.name k (told e)
      (subst (λ n. table e.segment.name n k ≡ Some (told e)) (list_same lists e like h)
      (subst (λ n. table e.segment.name (list_number lists e.peer) n ≡ Some (told e)) (place_is before e h) is)) in
      let count : length (list_of lists like before ++ e ∷ []) ≡ suc k =
      length-append (list_of lists like before) (e ∷ []) ∙ (omega arith) in
      subst (λ es. map told es ≡ take (length es) all) (sym longer)
      (map_append told (list_of lists like before) (e ∷ []) ∙ ap (λ xs. xs ++ told e ∷ []) first
      ∙ sym (take_one all k (told e) there) ∙ ap (λ n. take n all) (sym count))
  one_more before e false h is first =
      let same : list_of lists like (before ++ e ∷ []) ≡ list_of lists like before =
      filter-append (λ b. same_list lists b like) before (e ∷ [])
      ∙ (rw h (append-nil (list_of lists like before))) in
      subst (λ es. map told es ≡ take (length es) all) (sym same) first

  first_after : (before es : List Entry) → AreTold lists table before es → IsFirst before → IsFirst (before ++ es)
  unfolding IsFirst
  first_after before [] h first = subst IsFirst (sym (append-nil before)) first
  first_after before (e ∷ es) h first =
      subst IsFirst (append_assoc before (e ∷ []) es)
      (first_after (before ++ e ∷ []) es h.1 (one_more before e (same_list lists e like) refl h.0 first))

pub told_are_first : ToldAreFirst
unfolding IsFirst
told_are_first lists table entries like all h tells = first_after lists table like all tells [] entries h refl
