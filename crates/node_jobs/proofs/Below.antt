-- A node's own members are below a number.
use Rattle.std.proofs.Common.{◌≡◌, sym, ◌∙◌, subst, ℕ, ◌<◌, ◌≤◌, Bool, true, List, [], ◌∷◌, arith}
use Rattle.std.specs.Prelude.{nat_lt}
use Rattle.std.specs.List.{AllByRecursion, list_all}
use Rattle.std.proofs.lemmas.Bool.{and_parts, ltb-true}

below : (count most : ℕ) (ids : List ℕ) → count ≤ most → list_all (λ id. nat_lt id count) ids ≡ true →
    AllByRecursion (λ id. id < most) ids
below count most [] few all = tt
below count most (id ∷ ids) few all =
    let parts = and_parts (nat_lt id count) (list_all (λ id. nat_lt id count) ids) all in
    let lt = ltb-true id count parts.0 in
    (omega (arith, lt, few), below count most ids few parts.1)

-- some ids that were tested, and others that are the same
pub each_below : (count most : ℕ) (ids all other : List ℕ) → ids ≡ all → other ≡ all → count ≤ most → (b : Bool) →
    b ≡ list_all (λ id. nat_lt id count) ids → b ≡ true → AllByRecursion (λ id. id < most) other
each_below count most ids all other ids_are same few b is own =
    subst (AllByRecursion (λ id. id < most)) (ids_are ∙ sym same)
    (below count most ids few (sym is ∙ own))
