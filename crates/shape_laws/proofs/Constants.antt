-- A constant expression is worth its number everywhere.
use Rattle.std.proofs.Common.{◌≡◌, ℕ, Option, Some, None, refl, ap, ◌∙◌}
use Rattle.std.specs.Prelude.{if◌then◌else◌, option_map}
use Rattle.std.specs.Option.{option_and_then}
use Rattle.layer_mean.specs.Tree.{number, me, count, ltime, local, element, square, rows, item, size, binary, apply}
use Rattle.layer_mean.specs.Tree.{pick}
use Rattle.layer_mean.specs.Value.{is_true, applied, function_of, val}
use Rattle.stack_mean.specs.Drawn.{of_both, constant_of}
use Rattle.shape_laws.specs.Constants.{ConstantsAreValues}

-- a number that may be known is this one
abbrev Is : Option ℕ → ℕ → Type 0
Is x v = (k : ℕ) → x ≡ Some k → v ≡ k

some_once : (i j : ℕ) → Some i ≡ Some j → i ≡ j
some_once i j h = cc

one_value : (f : ℕ → ℕ) (x : Option ℕ) (v : ℕ) → Is x v → Is (option_map f x) (f v)
one_value f (Some i) v is n h = ap f (is i refl) ∙ some_once _ _ h
one_value f None v is n h = absurd (cc h)

both_values : (f : ℕ → ℕ → ℕ) (x y : Option ℕ) (v w : ℕ) → Is x v → Is y w → Is (of_both f x y) (f v w)
both_values f (Some i) (Some j) v w is js n h = (λ t. f (is i refl t) (js j refl t)) ∙ some_once _ _ h
both_values f (Some i) None v w is js n h = absurd (cc h)
both_values f None y v w is js n h = absurd (cc h)

chosen_value : (c x y : Option ℕ) (u v w : ℕ) → Is c u → Is x v → Is y w →
    Is (option_and_then (λ b. of_both (λ i j. if is_true b then i else j) x y) c) (if is_true u then v else w)
chosen_value (Some b) x y u v w bs is js n h =
    (λ t. if is_true (bs b refl t) then v else w) ∙ both_values (λ i j. if is_true b then i else j) x y v w is js n h
chosen_value None x y u v w bs is js n h = absurd (cc h)

pub constants_are_values : ConstantsAreValues
constants_are_values (number k) n s l h = some_once k n h
constants_are_values (binary operator a b) n s l h =
    both_values (applied operator) (constant_of a) (constant_of b) (val a s l) (val b s l)
    (λ k. constants_are_values a k s l) (λ k. constants_are_values b k s l) n h
constants_are_values (apply function a) n s l h =
    one_value (function_of function) (constant_of a) (val a s l) (λ k. constants_are_values a k s l) n h
constants_are_values (pick c a b) n s l h =
    chosen_value (constant_of c) (constant_of a) (constant_of b) (val c s l) (val a s l) (val b s l)
    (λ k. constants_are_values c k s l) (λ k. constants_are_values a k s l) (λ k. constants_are_values b k s l) n h
constants_are_values me n s l h = absurd (cc h)
constants_are_values count n s l h = absurd (cc h)
constants_are_values ltime n s l h = absurd (cc h)
constants_are_values (local k) n s l h = absurd (cc h)
constants_are_values (element c i) n s l h = absurd (cc h)
constants_are_values (square c row column) n s l h = absurd (cc h)
constants_are_values (rows c i) n s l h = absurd (cc h)
constants_are_values (item c i row k) n s l h = absurd (cc h)
constants_are_values (size m) n s l h = absurd (cc h)
