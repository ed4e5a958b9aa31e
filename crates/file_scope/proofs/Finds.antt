-- What is found in several lists of faults, one after the other.
use Rattle.std.proofs.Common.{◌≡◌, ℕ, ◌+◌, ◌<◌, Bool, true, false, List, [], ◌∷◌, ◌++◌, map, flat_map, take, get_or}
use Rattle.std.proofs.Common.{length, Option, Some, None, refl, sym, ap, ◌∙◌, subst, append-nil, append_assoc}
use Rattle.std.proofs.lemmas.List.{map-append, map_more}
use Rattle.std.proofs.lemmas.Grind.{flat_map-append}
use Rattle.layer_words.specs.declared.places.At.{At}
use Rattle.fault_mean.specs.Earliest.{earlier, earliest, unless}
use Rattle.fault_mean.proofs.Earliest.{in_order}
use Rattle.file_scope.specs.Found.{Finds, FindsBy, fault_key, moved_to}
use Rattle.file_scope.specs.declared.found.Fault.{Fault}
use Rattle.file_scope.specs.declared.found.Found.{Found}

none-earlier : (found : Option Fault) → earlier fault_key found None ≡ found
none-earlier None = refl
none-earlier (Some f) = refl

pub none_found : (a : Found) → Finds a [] a
unfolding Finds
none_found a = (refl, sym (none-earlier a.first))

both_found : (a b c : Found) (xs ys : List Fault) → Finds a xs b → Finds b ys c → Finds a (xs ++ ys) c
unfolding Finds
both_found a b c xs ys left right =
    let seen : Option At → List Fault → List Fault = λ at. map (moved_to at) in (
      right.0 ∙ left.0,
      right.1
          ∙ (ap (λ at. earlier fault_key b.first (earliest fault_key (seen at ys))) left.0
          ∙ (ap (λ f. earlier fault_key f (earliest fault_key (seen a.moved ys))) left.1
          ∙ (in_order fault_key a.first (seen a.moved xs) (seen a.moved ys)
          ∙ ap (λ l. earlier fault_key a.first (earliest fault_key l)) (sym (map-append (moved_to a.moved) xs ys))))),
    )

-- of no faults, and of one list after another
pub finds_none : {F : Type 0} (shown : F → Fault) (a : Found) → FindsBy shown a [] a
unfolding FindsBy
finds_none shown a = none_found a

pub finds_both : {F : Type 0} (shown : F → Fault) (a b c : Found) (xs ys : List F) →
    FindsBy shown a xs b → FindsBy shown b ys c → FindsBy shown a (xs ++ ys) c
unfolding FindsBy
finds_both shown a b c xs ys left right =
    subst (λ l. Finds a l c) (sym (map-append shown xs ys)) (both_found a b c (map shown xs) (map shown ys) left right)

-- one fault, unless something holds
pub finds_unless : {F : Type 0} (shown : F → Fault) (a b : Found) (holds : Bool) (fault : F) (noted : Fault) →
    noted ≡ shown fault → Finds a (unless holds noted) b → FindsBy shown a (unless holds fault) b
unfolding FindsBy
finds_unless shown a b true fault noted is finds = finds
finds_unless shown a b false fault noted is finds = subst (λ f. Finds a (f ∷ []) b) is finds

-- of one thing after others
pub finds_row : {F A : Type 0} (shown : F → Fault) (f : A → List F) (a b c : Found) (xs ys : List A) →
    FindsBy shown a (flat_map f xs) b → FindsBy shown b (flat_map f ys) c → FindsBy shown a (flat_map f (xs ++ ys)) c
finds_row shown f a b c xs ys left right =
    subst (λ l. FindsBy shown a l c) (sym (flat_map-append f xs ys))
    (finds_both shown a b c (flat_map f xs) (flat_map f ys) left right)

pub finds_three : {F A : Type 0} (shown : F → Fault) (f : A → List F) (a b c d : Found) (xs ys zs : List A) →
    FindsBy shown a (flat_map f xs) b → FindsBy shown b (flat_map f ys) c → FindsBy shown c (flat_map f zs) d →
    FindsBy shown a (flat_map f (xs ++ ys ++ zs)) d
finds_three shown f a b c d xs ys zs one two three =
    finds_row shown f a c d (xs ++ ys) zs (finds_row shown f a b c xs ys one two) three

-- two lists after others
pub finds_join : {F : Type 0} (shown : F → Fault) (a b c : Found) (xs ys zs : List F) →
    FindsBy shown a xs b → FindsBy shown b (ys ++ zs) c → FindsBy shown a (xs ++ ys ++ zs) c
finds_join shown a b c xs ys zs left right =
    subst (λ l. FindsBy shown a l c) (sym (append_assoc xs ys zs)) (finds_both shown a b c xs (ys ++ zs) left right)

next-is : {X A : Type 0} (tree : X → A) (xs : List X) (i : ℕ) (x : X) → i < length xs → x ≡ get_or xs i x →
    map tree (take (i + 1) xs) ≡ map tree (take i xs) ++ tree x ∷ []
next-is tree xs i x within is = map_more tree xs i x within ∙ ap (λ y. map tree (take i xs) ++ tree y ∷ []) (sym is)

-- one of some things more, each with one fault
pub one_more : {F A : Type 0} (shown : F → Fault) (f : A → F) (a b c : Found) (xs : List A) (i : ℕ) (x : A) →
    i < length xs → x ≡ get_or xs i x →
    FindsBy shown a (map f (take i xs)) b → FindsBy shown b (f x ∷ []) c → FindsBy shown a (map f (take (i + 1) xs)) c
one_more shown f a b c xs i x within is so_far now =
    subst (λ l. FindsBy shown a l c) (sym (next-is f xs i x within is))
    (finds_both shown a b c (map f (take i xs)) (f x ∷ []) so_far now)

-- one of some things more, each with its faults
pub part_more : {F X A : Type 0} (shown : F → Fault) (tree : X → A) (f : A → List F) (a b c : Found) (xs : List X)
    (i : ℕ) (x : X) →
    i < length xs → x ≡ get_or xs i x →
    FindsBy shown a (flat_map f (map tree (take i xs))) b → FindsBy shown b (f (tree x)) c →
    FindsBy shown a (flat_map f (map tree (take (i + 1) xs))) c
part_more shown tree f a b c xs i x within is so_far now =
    subst (λ l. FindsBy shown a (flat_map f l) c) (sym (next-is tree xs i x within is))
    (finds_row shown f a b c (map tree (take i xs)) (tree x ∷ []) so_far
    (subst (λ l. FindsBy shown b l c) (sym (append-nil (f (tree x)))) now))

-- one of some things more, each with things that have faults
pub nested_more : {F X A B : Type 0} (shown : F → Fault) (tree : X → B) (g : B → List A) (f : A → List F)
    (a b c : Found)
    (xs : List X) (i : ℕ) (x : X) → i < length xs → x ≡ get_or xs i x →
    FindsBy shown a (flat_map f (flat_map g (map tree (take i xs)))) b → FindsBy shown b (flat_map f (g (tree x))) c →
    FindsBy shown a (flat_map f (flat_map g (map tree (take (i + 1) xs)))) c
nested_more shown tree g f a b c xs i x within is so_far now =
    subst (λ l. FindsBy shown a (flat_map f (flat_map g l)) c) (sym (next-is tree xs i x within is))
    (subst (λ l. FindsBy shown a (flat_map f l) c)
    (sym (flat_map-append g (map tree (take i xs)) (tree x ∷ [])
    ∙ ap (λ l. flat_map g (map tree (take i xs)) ++ l) (append-nil (g (tree x)))))
    (finds_row shown f a b c (flat_map g (map tree (take i xs))) (g (tree x)) so_far now))
