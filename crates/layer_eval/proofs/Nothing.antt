-- A row that is looked for in vain.
use Rattle.std.proofs.Common.{◌≡◌, ℕ, true, false, List, [], ◌∷◌, append-nil, length, map, slice_get, refl, sym, ap}
use Rattle.std.proofs.Common.{◌∙◌, subst, arith}
use Rattle.std.specs.Prelude.{◌==◌}
use Rattle.std.specs.Vec.{vec_len}
use Rattle.std.proofs.lemmas.Bool.{eqb-true}
use Rattle.layer_mean.specs.State.{State, rows_at, without_front}
use Rattle.layer_mean.specs.Tree.{ExpressionTree, StatementTree, StatementTrees, TakenTree}
use Rattle.layer_mean.specs.Tree as tree
use Rattle.layer_mean.specs.Effect.{Outcome, unusual, taking, decides, in_order, acts, with_taken}
use Rattle.layer_mean.specs.declared.run.Row.{Row}
use Rattle.typed_layer.specs.View.{trees, statement_tree, block_tree}
use Rattle.typed_layer.specs.declared.tree.StatementBlock.{StatementBlock}
use Rattle.typed_layer.specs.declared.tree.Statement.{Statement}
use Rattle.layer_desk.specs.Laid.{Laid}
use Rattle.layer_eval.specs.Did.{Did, FindsNothing, statement_does}
use Rattle.layer_eval.specs.Worth.{number_of}
use Rattle.layer_eval.specs.declared.predicted.Predicted.{Predicted}

pub in_vain : (cell : ℕ) (index : ExpressionTree) (taken : TakenTree) (block otherwise : StatementTrees)
    (t : StatementTree) (p : Laid) →
    t ≡ tree.take cell index taken block otherwise → otherwise ≡ tree.none → rows_at p.state cell (number_of index p) ≡
    [] → FindsNothing true t p
in_vain cell index taken block otherwise t p same empty none = λ place.
    let i = number_of index p in
    let found : Row → Outcome = λ row. in_order (acts place block) (without_front p.state cell i)
    (with_taken taken row p.scope) in
    ap (λ x. statement_does place x p) same
    ∙ ap (λ rows. taking (slice_get rows 0) found (in_order (acts place otherwise) p.state p.scope)) none
    ∙ ap (λ o. decides unusual (in_order (acts place o) p.state p.scope)) empty

pub did_nothing : (o : Outcome) (p : Laid) (b q : Predicted) →
    o ≡ record { state = p.state; scope = p.scope; sent = []; decided = unusual ∷ [] } →
    q ≡ record { first = false; second = false } → Did o p p b q
did_nothing o p b q is never = subst (λ r. Did o p p b r) (sym never)
    (subst (λ z. Did z p p b (record { first = false; second = false })) (sym is) (record {
      state = refl;
      scope = refl;
      arrived = refl;
      hand = refl;
      sent = sym (append-nil p.sent);
      predicted = refl;
    }))

pub no_row : (s : State) (cell i k n : ℕ) → k ≡ i → n ≡ length (rows_at s cell k) → (n == 0) ≡ true →
    rows_at s cell i ≡ []
no_row s cell i k n same many none = ap (rows_at s cell) (sym same) ∙
    go (rows_at s cell k) (sym many ∙ eqb-true n 0 none) where
      go : (rows : List Row) → length rows ≡ 0 → rows ≡ []
      go [] none = refl
      go (row ∷ rows) none = absurd (omega (arith, none))

pub no_statements : (block : StatementBlock) → true ≡ (vec_len block.statements == 0) → block_tree block ≡ tree.none
no_statements block empty =
    let none : vec_len block.statements ≡ 0 = eqb-true (vec_len block.statements) 0 (sym empty) in
    go block.statements.items (omega (arith, none, block.statements.ok.0)) where
      go : (xs : List Statement) → length xs ≡ 0 → trees (map statement_tree xs) ≡ tree.none
      go [] none = refl
      go (x ∷ xs) none = absurd (omega (arith, none))
