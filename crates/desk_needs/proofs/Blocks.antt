-- The most messages in hand, statement by statement.
use Rattle.std.proofs.Common.{◌≡◌, ℕ, ◌+◌, ◌<◌, max, length, take, get_or, add-one, take-suc, List, [], ◌∷◌, ◌++◌, map}
use Rattle.std.proofs.Common.{sym, ap, ◌∙◌, arith}
use Rattle.std.proofs.lemmas.List.{map-append}
use Rattle.layer_mean.specs.Tree.{StatementTree}
use Rattle.stack_mean.specs.Acceptance.{held_at_most}
use Rattle.typed_layer.specs.View.{trees, statement_tree}
use Rattle.typed_layer.specs.declared.tree.Statement.{Statement}
use Rattle.layer_desk.specs.Need.{in_hand, block_in_hand}

in_hand_more : (xs : List StatementTree) (x : StatementTree) → block_in_hand (trees (xs ++ x ∷ [])) ≡
    max (block_in_hand (trees xs)) (in_hand x)
in_hand_more [] x = omega arith
in_hand_more (y ∷ xs) x = omega (arith, in_hand_more xs x)

-- the trees of the first of some statements, and of one more
one_more_tree : (xs : List Statement) (i : ℕ) (x : Statement) → i < length xs → x ≡ get_or xs i x →
    map statement_tree (take (i + 1) xs) ≡ map statement_tree (take i xs) ++ statement_tree x ∷ []
one_more_tree xs i x within is =
    ap (λ n. map statement_tree (take n xs)) (add-one i)
    ∙ ap (map statement_tree) (take-suc xs i x within ∙ ap (λ y. take i xs ++ y ∷ []) (sym is))
    ∙ map-append statement_tree (take i xs) (x ∷ [])

pub in_hand_step : (xs : List Statement) (i : ℕ) (x : Statement) (most own next : ℕ) → i < length xs →
    x ≡ get_or xs i x →
    most ≡ held_at_most (block_in_hand (trees (map statement_tree (take i xs)))) →
    own ≡ held_at_most (in_hand (statement_tree x)) →
    next ≡ max own most → next ≡ held_at_most (block_in_hand (trees (map statement_tree (take (i + 1) xs))))
in_hand_step xs i x most own next within is so_far its larger =
    let all = ap (λ ts. block_in_hand (trees ts)) (one_more_tree xs i x within is) ∙
    in_hand_more (map statement_tree (take i xs)) (statement_tree x) in
    omega (arith, so_far, its, larger, all)
