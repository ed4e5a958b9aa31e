-- The trees that branches and loops of a program are.
use Rattle.std.proofs.Common.{◌≡◌, ℕ, sym, ap, ap₂, ◌∙◌}
use Rattle.layer_words.specs.declared.sorts.Likely.{Likely}
use Rattle.layer_mean.specs.Tree.{StatementTree, StatementTrees, branch, each}
use Rattle.layer_mean.specs.Tree as tree
use Rattle.typed_layer.specs.declared.tree.StatementBlock.{StatementBlock}
use Rattle.typed_layer.specs.declared.tree.Expression.{Expression}
use Rattle.typed_layer.specs.declared.tree.Statement.TheFolds.{fold-StatementBlock, fold-roll-Statement}
use Rattle.typed_layer.specs.declared.tree.Statement.TheFolds.{fold_out-StatementBlock}
use Rattle.typed_layer.specs.declared.tree.Statement.TheOpen as layer
use Rattle.typed_layer.specs.declared.tree.Statement.TheVariants as rust
use Rattle.typed_layer.specs.declared.tree.Taken.{Taken}
use Rattle.typed_layer.specs.View.{expression_tree, taken_tree, statement_of, block_of, statement_tree, block_tree}

-- a block is the statements that it has
block_is : (block : StatementBlock) →
    fold-StatementBlock StatementTree StatementTrees statement_of block_of block ≡ block_tree block
block_is block = fold_out-StatementBlock StatementTree StatementTrees statement_of block_of block

pub branch_tree : (x : Likely) (condition : Expression) (block otherwise : StatementBlock) →
    statement_tree (rust.Branch x condition block otherwise) ≡ branch x (expression_tree condition) (block_tree block)
    (block_tree otherwise)
branch_tree x condition block otherwise =
    ap statement_tree (sym (rust.rolls-Branch x condition block otherwise))
    ∙ (fold-roll-Statement StatementTree StatementTrees statement_of block_of (layer.Branch x condition block otherwise)
    ∙ ap₂ (branch x (expression_tree condition)) (block_is block) (block_is otherwise))

pub each_tree : (slot : ℕ) (below : Expression) (most : ℕ) (block : StatementBlock) →
    statement_tree (rust.Each slot below most block) ≡ each slot (expression_tree below) most (block_tree block)
each_tree slot below most block =
    ap statement_tree (sym (rust.rolls-Each slot below most block))
    ∙ (fold-roll-Statement StatementTree StatementTrees statement_of block_of (layer.Each slot below most block)
    ∙ ap (each slot (expression_tree below) most) (block_is block))

pub take_tree : (cell : ℕ) (index : Expression) (taken : Taken) (block otherwise : StatementBlock) →
    statement_tree (rust.Take cell index taken block otherwise)
    ≡ tree.take cell (expression_tree index) (taken_tree taken) (block_tree block) (block_tree otherwise)
take_tree cell index taken block otherwise =
    ap statement_tree (sym (rust.rolls-Take cell index taken block otherwise))
    ∙ (fold-roll-Statement StatementTree StatementTrees statement_of block_of
    (layer.Take cell index taken block otherwise)
    ∙ ap₂ (tree.take cell (expression_tree index) (taken_tree taken)) (block_is block) (block_is otherwise))
