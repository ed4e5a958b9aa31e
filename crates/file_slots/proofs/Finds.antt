-- What searches find.
use Rattle.std.proofs.Common.{◌≡◌, ℕ, suc, ◌+◌, ◌<◌, Bool, true, false, not, nat_lt, cond, List, [], ◌∷◌, map, length}
use Rattle.std.proofs.Common.{find, bytes_eq, Option, Some, None, option_map, option_and_then, unwrap_or, refl, sym, ap}
use Rattle.std.proofs.Common.{◌∙◌, subst, arith}
use Rattle.std.proofs.Math.Dec.{leb-suc-suc, leb-zero}
use Rattle.std.specs.List.{AllByRecursion, position, prefix_len}
use Rattle.layer_ast.specs.Tree.{DeclarationTree, LayerTree}
use Rattle.layer_ast.specs.View.{given_tree}
use Rattle.fault_mean.specs.Declared.{declaration_of}
use Rattle.fault_mean.specs.Places.{declared_value, given_value, param_value}
use Rattle.layer_ast.specs.declared.syntax.Given.{Given}

-- what is found of what is made of each
pub find_map : {X A : Type 0} (tree : X → A) (test : A → Bool) (xs : List X) →
    find test (map tree xs) ≡ option_map tree (find (λ x. test (tree x)) xs)
find_map tree test [] = refl
find_map tree test (x ∷ xs) = go (test (tree x)) (find_map tree test xs) where
  go : (b : Bool) → find test (map tree xs) ≡ option_map tree (find (λ y. test (tree y)) xs) →
      cond b (Some (tree x)) (find test (map tree xs)) ≡
      option_map tree (cond b (Some x) (find (λ y. test (tree y)) xs))
  go true e = refl
  go false e = e

-- the value that is given to a param
pub given_map : (word : List ℕ) (given : List Given) →
    option_map (λ (g : Given). g.value) (find (λ g. bytes_eq g.name.word word) given) ≡
    option_map (λ g. g.value) (find (λ g. bytes_eq g.name.word word) (map given_tree given))
given_map word given =
    go (find (λ (g : Given). bytes_eq g.name.word word) given)
    ∙ sym (ap (option_map (λ g. g.value)) (find_map given_tree (λ g. bytes_eq g.name.word word) given))
  where
    go : (o : Option Given) → option_map (λ (g : Given). g.value) o ≡
        option_map (λ g. g.value) (option_map given_tree o)
    go None = refl
    go (Some g) = refl

-- the value of a param
pub param_is : (layer : LayerTree) (given : List Given) (word : List ℕ) (d : DeclarationTree) (value : ℕ)
    (o : Option ℕ) →
    Some d ≡ declaration_of layer word → Some value ≡ declared_value d →
    o ≡ option_map (λ (g : Given). g.value) (find (λ g. bytes_eq g.name.word word) given) →
    Some (unwrap_or o value) ≡ param_value layer (map given_tree given) word
param_is layer given word d value o is declares gives =
    ap (λ v. Some (unwrap_or v value)) (gives ∙ given_map word given)
    ∙ (ap (option_map (λ v. unwrap_or (given_value (map given_tree given) word) v)) declares
    ∙ ap (λ x. option_map (λ v. unwrap_or (given_value (map given_tree given) word) v)
    (option_and_then declared_value x)) is)

-- the test of an order, one further on both sides
lt-suc : (m n : ℕ) → nat_lt (suc m) (suc n) ≡ nat_lt m n
lt-suc m n = leb-suc-suc (suc m) n

-- where a test passes first
abbrev pub place_where : {X : Type 0} → (X → Bool) → List X → Option ℕ
place_where p [] = None
place_where p (x ∷ xs) = cond (p x) (Some 0) (option_map (λ k. suc k) (place_where p xs))

pub place_is : {X : Type 0} (p : X → Bool) (xs : List X) → position p xs ≡ place_where p xs
place_is p [] = refl
place_is p (x ∷ xs) = go (p x) (prefix_len (λ y. not (p y)) xs) (length xs) (place_where p xs) (place_is p xs) where
  go : (b : Bool) (m n : ℕ) (o : Option ℕ) → cond (nat_lt m n) (Some m) None ≡ o →
      cond (nat_lt (cond (not b) (1 + m) 0) (suc n)) (Some (cond (not b) (1 + m) 0)) None ≡
      cond b (Some 0) (option_map (λ k. suc k) o)
  go true m n o e = ap (λ c. cond c (Some 0) None) (leb-suc-suc 0 n ∙ leb-zero n)
  go false m n o e =
      let one : 1 + m ≡ suc m = omega arith in
      ap (λ z. cond (nat_lt z (suc n)) (Some z) None) one
      ∙ (ap (λ c. cond c (Some (suc m)) None) (lt-suc m n) ∙ step (nat_lt m n) e)
    where
      step : (c : Bool) → cond c (Some m) None ≡ o → cond c (Some (suc m)) None ≡ option_map (λ k. suc k) o
      step true e = ap (option_map (λ k. suc k)) e
      step false e = ap (option_map (λ k. suc k)) e

-- a place is within its list
pub place_within : {X : Type 0} (p : X → Bool) (xs : List X) (k : ℕ) → place_where p xs ≡ Some k → k < length xs
place_within p [] k e = absurd (cc e)
place_within p (x ∷ xs) k e = go (p x) (place_where p xs) k e (place_within p xs) where
  go : (b : Bool) (o : Option ℕ) (k : ℕ) → cond b (Some 0) (option_map (λ j. suc j) o) ≡ Some k →
      ((j : ℕ) → o ≡ Some j → j < length xs) → k < suc (length xs)
  go true o k e rest = let z : 0 ≡ k = cc e in omega (arith, z)
  go false None k e rest = absurd (cc e)
  go false (Some j) k e rest = let z : suc j ≡ k = cc e in let b = rest j refl in omega (arith, z, b)

-- what holds of each holds of what is found
pub found_holds : {X : Type 0} (P : X → Type 0) (test : X → Bool) (xs : List X) (x : X) → AllByRecursion P xs →
    find test xs ≡ Some x → P x
found_holds P test [] x all e = absurd (cc e)
found_holds P test (y ∷ xs) x all e = go (test y) e (found_holds P test xs x all.1) where
  go : (b : Bool) → cond b (Some y) (find test xs) ≡ Some x → (find test xs ≡ Some x → P x) → P x
  go true e rest = let same : y ≡ x = cc e in subst P same all.0
  go false e rest = rest e

pub position_within : {X : Type 0} (p : X → Bool) (xs : List X) (k : ℕ) → Some k ≡ position p xs → k < length xs
position_within p xs k e = place_within p xs k (sym (e ∙ place_is p xs))

-- the place of an element after another
pub position_after : {X : Type 0} (p : X → Bool) (x : X) (xs : List X) → p x ≡ false →
    position p (x ∷ xs) ≡ option_map (λ k. suc k) (position p xs)
position_after p x xs fails =
    place_is p (x ∷ xs)
    ∙ (ap (λ b. cond b (Some 0) (option_map (λ k. suc k) (place_where p xs))) fails
    ∙ ap (option_map (λ k. suc k)) (sym (place_is p xs)))

pub position_first : {X : Type 0} (p : X → Bool) (x : X) (xs : List X) → p x ≡ true → position p (x ∷ xs) ≡ Some 0
position_first p x xs passes =
    place_is p (x ∷ xs) ∙ ap (λ b. cond b (Some 0) (option_map (λ k. suc k) (place_where p xs))) passes

-- a place among what is made of each
pub position_map : {X A : Type 0} (tree : X → A) (test : A → Bool) (xs : List X) →
    position test (map tree xs) ≡ position (λ x. test (tree x)) xs
position_map {X = X} tree test xs = place_is test (map tree xs) ∙ (go xs ∙ sym (place_is (λ x. test (tree x)) xs)) where
  go : (ys : List X) → place_where test (map tree ys) ≡ place_where (λ x. test (tree x)) ys
  go [] = refl
  go (y ∷ ys) = ap (λ o. cond (test (tree y)) (Some 0) (option_map (λ k. suc k) o)) (go ys)
