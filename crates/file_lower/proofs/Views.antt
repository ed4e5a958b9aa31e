-- The trees that the statements of a typed layer are, form by form.
use Rattle.std.proofs.Common.{◌≡◌, ℕ, sym, ap, ap₂, ◌∙◌}
use Rattle.layer_words.specs.declared.sorts.Likely.{Likely}
use Rattle.layer_mean.specs.Tree as tree
use Rattle.layer_mean.specs.Tree.{StatementTree, StatementTrees}
use Rattle.typed_layer.specs.View.{expression_tree, row_tree, taken_tree, emission_tree, statement_of, block_of}
use Rattle.typed_layer.specs.View.{statement_tree, block_tree}
use Rattle.typed_layer.specs.declared.tree.StatementBlock.{StatementBlock}
use Rattle.typed_layer.specs.declared.tree.Emission.{Emission}
use Rattle.typed_layer.specs.declared.tree.Expression.{Expression}
use Rattle.typed_layer.specs.declared.tree.RowExpression.{RowExpression}
use Rattle.typed_layer.specs.declared.tree.Taken.{Taken}
use Rattle.typed_layer.specs.declared.tree.Statement.TheFolds.{fold-StatementBlock, fold-roll-Statement}
use Rattle.typed_layer.specs.declared.tree.Statement.TheFolds.{fold_out-StatementBlock}
use Rattle.typed_layer.specs.declared.tree.Statement.TheOpen as layer
use Rattle.typed_layer.specs.declared.tree.Statement.TheVariants as rust

-- a block is the statements that it has
block_is : (block : StatementBlock) →
    fold-StatementBlock StatementTree StatementTrees statement_of block_of block ≡ block_tree block
block_is block = fold_out-StatementBlock StatementTree StatementTrees statement_of block_of block

pub bind_tree : (slot : ℕ) (value : Expression) → statement_tree (rust.Bind slot value) ≡
    tree.bind slot (expression_tree value)
bind_tree slot value =
    ap statement_tree (sym (rust.rolls-Bind slot value))
    ∙ fold-roll-Statement StatementTree StatementTrees statement_of block_of (layer.Bind slot value)

pub set_tree : (cell : ℕ) (value : Expression) →
    statement_tree (rust.Set cell value) ≡ tree.assign cell (tree.number 0) (expression_tree value)
set_tree cell value =
    ap statement_tree (sym (rust.rolls-Set cell value))
    ∙ fold-roll-Statement StatementTree StatementTrees statement_of block_of (layer.Set cell value)

pub set_element_tree : (cell : ℕ) (index value : Expression) →
    statement_tree (rust.SetElement cell index value) ≡ tree.assign cell (expression_tree index) (expression_tree value)
set_element_tree cell index value =
    ap statement_tree (sym (rust.rolls-SetElement cell index value))
    ∙ fold-roll-Statement StatementTree StatementTrees statement_of block_of (layer.SetElement cell index value)

pub set_square_tree : (cell : ℕ) (row column value : Expression) →
    statement_tree (rust.SetSquare cell row column value)
    ≡ tree.assign_square cell (expression_tree row) (expression_tree column) (expression_tree value)
set_square_tree cell row column value =
    ap statement_tree (sym (rust.rolls-SetSquare cell row column value))
    ∙ fold-roll-Statement StatementTree StatementTrees statement_of block_of (layer.SetSquare cell row column value)

pub emit_tree : (emission : Emission) → statement_tree (rust.Emit emission) ≡ tree.emit (emission_tree emission)
emit_tree emission =
    ap statement_tree (sym (rust.rolls-Emit emission))
    ∙ fold-roll-Statement StatementTree StatementTrees statement_of block_of (layer.Emit emission)

pub push_tree : (cell : ℕ) (index : Expression) (capacity : ℕ) (row : RowExpression) (otherwise : StatementBlock) →
    statement_tree (rust.Push cell index capacity row otherwise)
    ≡ tree.push cell (expression_tree index) capacity (row_tree row) (block_tree otherwise)
push_tree cell index capacity row otherwise =
    ap statement_tree (sym (rust.rolls-Push cell index capacity row otherwise))
    ∙ (fold-roll-Statement StatementTree StatementTrees statement_of block_of
    (layer.Push cell index capacity row otherwise)
    ∙ ap (tree.push cell (expression_tree index) capacity (row_tree row)) (block_is otherwise))

pub take_tree : (cell : ℕ) (index : Expression) (taken : Taken) (block otherwise : StatementBlock) →
    statement_tree (rust.Take cell index taken block otherwise)
    ≡ tree.take cell (expression_tree index) (taken_tree taken) (block_tree block) (block_tree otherwise)
take_tree cell index taken block otherwise =
    ap statement_tree (sym (rust.rolls-Take cell index taken block otherwise))
    ∙ (fold-roll-Statement StatementTree StatementTrees statement_of block_of
    (layer.Take cell index taken block otherwise)
    ∙ ap₂ (tree.take cell (expression_tree index) (taken_tree taken)) (block_is block) (block_is otherwise))

pub branch_tree : (likely : Likely) (condition : Expression) (block otherwise : StatementBlock) →
    statement_tree (rust.Branch likely condition block otherwise)
    ≡ tree.branch likely (expression_tree condition) (block_tree block) (block_tree otherwise)
branch_tree likely condition block otherwise =
    ap statement_tree (sym (rust.rolls-Branch likely condition block otherwise))
    ∙ (fold-roll-Statement StatementTree StatementTrees statement_of block_of
    (layer.Branch likely condition block otherwise)
    ∙ ap₂ (tree.branch likely (expression_tree condition)) (block_is block) (block_is otherwise))

pub each_tree : (slot : ℕ) (below : Expression) (most : ℕ) (block : StatementBlock) →
    statement_tree (rust.Each slot below most block) ≡ tree.each slot (expression_tree below) most (block_tree block)
each_tree slot below most block =
    ap statement_tree (sym (rust.rolls-Each slot below most block))
    ∙ (fold-roll-Statement StatementTree StatementTrees statement_of block_of (layer.Each slot below most block)
    ∙ ap (tree.each slot (expression_tree below) most) (block_is block))
