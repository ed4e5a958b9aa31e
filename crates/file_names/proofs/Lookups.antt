-- What a table of words tells of the things that have them.
use Rattle.std.proofs.Common.{◌≡◌, ℕ, ◌+◌, ◌<◌, Bool, true, false, ◌&&◌, List, map, take, length, get_or, Some, None}
use Rattle.std.proofs.Common.{option_map, sym, ap, ◌∙◌, arith}
use Rattle.std.specs.List.{list_all}
use Rattle.std.proofs.lemmas.List.{length-map}
use Rattle.std.proofs.lemmas.List.Folds.{list_all_at, list_all_more}
use Rattle.std.proofs.lemmas.Option.{slice_get-map}
use Rattle.layer_ast.specs.View.{given_tree}
use Rattle.layer_ast.specs.Tree.{GivenTree}
use Rattle.layer_ast.specs.declared.syntax.Given.{Given}
use Rattle.fault_mean.specs.Places.{given_value}
use Rattle.file_scope.proofs.Lists.{there}
use Rattle.file_scope.proofs.Lookups.{first_at, first_nowhere, place_within}
use Rattle.file_scope.specs.Words.{place_of}

-- what a place gives
pub given_within : (given : List Given) (names : List (List ℕ)) (word : List ℕ) (k : ℕ) →
    names ≡ map (λ (g : GivenTree). g.name.word) (map given_tree given) → Some k ≡ place_of word names →
    k < length given
given_within given names word k are at =
    let e : length names ≡ length given =
    ap length are ∙ (length-map (map given_tree given) (λ (g : GivenTree). g.name.word) ∙ length-map given given_tree)
    in
    let r = place_within word names k (sym at) in omega (arith, e, r)

pub given_at : (given : List Given) (names : List (List ℕ)) (word : List ℕ) (k : ℕ) (g : Given) →
    names ≡ map (λ (g : GivenTree). g.name.word) (map given_tree given) → Some k ≡ place_of word names →
    k < length given → g ≡ get_or given k g →
    Some g.value ≡ given_value (map given_tree given) word
given_at given names word k g are at within is =
    ap (λ o. option_map (λ (x : GivenTree). x.value) (option_map given_tree o)) (there given k g within is)
    ∙ (ap (option_map (λ (x : GivenTree). x.value)) (sym (slice_get-map given_tree given k))
    ∙ ap (option_map (λ (x : GivenTree). x.value))
    (first_at (λ (x : GivenTree). x.name.word) word (map given_tree given) k (ap (place_of word) (sym are) ∙ sym at)))

pub given_nowhere : (given : List Given) (names : List (List ℕ)) (word : List ℕ) →
    names ≡ map (λ (g : GivenTree). g.name.word) (map given_tree given) → None ≡ place_of word names →
    None ≡ given_value (map given_tree given) word
given_nowhere given names word are at =
    ap (option_map (λ (x : GivenTree). x.value))
    (sym (first_nowhere (λ (x : GivenTree). x.name.word) word (map given_tree given)
    (ap (place_of word) (sym are) ∙ sym at)))

-- a test of all of some things
pub all_more : {X : Type 0} (p : X → Bool) (xs : List X) (i : ℕ) (x : X) → i < length xs → x ≡ get_or xs i x →
    list_all p (take i xs) ≡ true → p x ≡ true → list_all p (take (i + 1) xs) ≡ true
all_more p xs i x within is so_far now =
    list_all_more p xs i x within ∙ (ap (λ b. b && p (get_or xs i x)) so_far ∙ (ap p (sym is) ∙ now))

pub one_fails : {X : Type 0} (p : X → Bool) (xs : List X) (i : ℕ) (x : X) → i < length xs → x ≡ get_or xs i x →
    p x ≡ false → false ≡ list_all p xs
one_fails p xs i x within is fails = sym (list_all_at p xs i x within (ap p (sym is) ∙ fails))
