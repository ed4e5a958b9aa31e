-- What is found in an assignment and its parts.
use Rattle.std.proofs.Common.{List, [], ◌∷◌, ◌++◌, flat_map, sym, subst, append-nil}
use Rattle.fault_mean.specs.Faults.{TypeFault}
use Rattle.file_expressions.specs.Found.{Finds, type_shown}
use Rattle.file_scope.proofs.Finds.{finds_both}
use Rattle.file_scope.specs.declared.found.Found.{Found}

last : {A : Type 0} (f : A → List TypeFault) (a b : Found) (x : A) → Finds a (f x) b → Finds a (flat_map f (x ∷ [])) b
last f a b x finds = subst (λ l. Finds a l b) (sym (append-nil (f x))) finds

pub of_one : {A : Type 0} (f : A → List TypeFault) (a b c : Found) (head : List TypeFault) (x : A) →
    Finds a head b → Finds b (f x) c → Finds a (head ++ flat_map f (x ∷ [])) c
of_one f a b c head x before one = finds_both type_shown a b c head (flat_map f (x ∷ [])) before (last f b c x one)

pub of_two : {A : Type 0} (f : A → List TypeFault) (a b c d : Found) (head : List TypeFault) (x y : A) →
    Finds a head b → Finds b (f x) c → Finds c (f y) d → Finds a (head ++ flat_map f (x ∷ y ∷ [])) d
of_two f a b c d head x y before one two =
    finds_both type_shown a b d head (flat_map f (x ∷ y ∷ [])) before
    (finds_both type_shown b c d (f x) (flat_map f (y ∷ [])) one (last f c d y two))

pub of_three : {A : Type 0} (f : A → List TypeFault) (a b c d e : Found) (head : List TypeFault) (x y z : A) →
    Finds a head b → Finds b (f x) c → Finds c (f y) d → Finds d (f z) e →
    Finds a (head ++ flat_map f (x ∷ y ∷ z ∷ [])) e
of_three f a b c d e head x y z before one two three =
    finds_both type_shown a b e head (flat_map f (x ∷ y ∷ z ∷ [])) before
    (finds_both type_shown b c e (f x) (flat_map f (y ∷ z ∷ [])) one
    (finds_both type_shown c d e (f y) (flat_map f (z ∷ [])) two (last f d e z three)))
