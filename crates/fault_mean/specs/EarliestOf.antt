-- What the first fault of a list is.
use Rattle.std.specs.Prelude.{◌≡◌, ℕ, false, List, [], ◌++◌, Contains, Option, Some, None}
use Rattle.std.specs.List.{AllByRecursion}
use Rattle.fault_mean.specs.Earliest.{earlier, earliest, precedes}

-- Whatever was found before, the first fault of one list and then that of another yield the same as the first fault of
-- both in a row, so a file may be judged part by part.
abbrev pub IsInOrder : {F : Type 0} → (F → List ℕ) → Type 0
IsInOrder {F} key =
    (found : Option F) (xs ys : List F) →
    earlier key (earlier key found (earliest key xs)) (earliest key ys) ≡ earlier key found (earliest key (xs ++ ys))

-- The first fault of a list is one of the list, and none of the list comes before it.
abbrev pub IsFirst : {F : Type 0} → (F → List ℕ) → Type 0
IsFirst {F} key =
    (xs : List F) (f : F) → earliest key xs ≡ Some f → Contains xs f × AllByRecursion (λ g. precedes key g f ≡ false) xs

-- Only a list without faults has no first.
abbrev pub IsThere : {F : Type 0} → (F → List ℕ) → Type 0
IsThere {F} key = (xs : List F) → earliest key xs ≡ None → xs ≡ []
