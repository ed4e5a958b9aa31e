-- The trees that the statements of a program are, form by form.
use Rattle.std.proofs.Common.{◌≡◌, Option, option_map, sym, ap, ap₂, ◌∙◌}
use Rattle.layer_words.specs.declared.places.At.{At}
use Rattle.layer_ast.specs.declared.names.Name.{Name}
use Rattle.layer_words.specs.declared.events.Dir.{Dir}
use Rattle.layer_words.specs.declared.events.Kind.{Kind}
use Rattle.layer_ast.specs.declared.syntax.Arguments.{Arguments}
use Rattle.layer_ast.specs.declared.syntax.Block.{Block}
use Rattle.layer_ast.specs.declared.syntax.Expression.{Expression}
use Rattle.layer_words.specs.declared.sorts.Likely.{Likely}
use Rattle.layer_ast.specs.declared.syntax.Names.{Names}
use Rattle.layer_ast.specs.declared.syntax.Pushed.{Pushed}
use Rattle.layer_ast.specs.declared.syntax.Queue.{Queue}
use Rattle.layer_ast.specs.declared.syntax.Size.{Size}
use Rattle.layer_ast.specs.declared.syntax.Statement.TheFolds.{fold-Block, fold-roll-Statement, fold_out-Block}
use Rattle.layer_ast.specs.declared.syntax.Statement.TheOpen as layer
use Rattle.layer_ast.specs.declared.syntax.Statement.TheVariants as rust
use Rattle.layer_ast.specs.Tree.{StatementTree, StatementTrees, bind, set, set_square, push, take, when, choose, each}
use Rattle.layer_ast.specs.Tree.{emit}
use Rattle.layer_ast.specs.View.{expression_tree, queue_tree, names_tree, arguments_tree, pushed_tree, size_tree}
use Rattle.layer_ast.specs.View.{statement_of, block_of, statement_tree, block_tree}

-- a block is the statements that it has
block_is : (block : Block) → fold-Block StatementTree StatementTrees statement_of block_of block ≡ block_tree block
block_is block = fold_out-Block StatementTree StatementTrees statement_of block_of block

pub bind_tree : (at : At) (name : Name) (value : Expression) →
    statement_tree (rust.Let at name value) ≡ bind at name (expression_tree value)
bind_tree at name value =
    ap statement_tree (sym (rust.rolls-Let at name value))
    ∙ fold-roll-Statement StatementTree StatementTrees statement_of block_of (layer.Let at name value)

pub set_tree : (at : At) (name : Name) (index : Option Expression) (value : Expression) →
    statement_tree (rust.Set at name index value) ≡
    set at name (option_map expression_tree index) (expression_tree value)
set_tree at name index value =
    ap statement_tree (sym (rust.rolls-Set at name index value))
    ∙ fold-roll-Statement StatementTree StatementTrees statement_of block_of (layer.Set at name index value)

pub set_square_tree : (at : At) (name : Name) (row column value : Expression) →
    statement_tree (rust.SetSquare at name row column value)
    ≡ set_square at name (expression_tree row) (expression_tree column) (expression_tree value)
set_square_tree at name row column value =
    ap statement_tree (sym (rust.rolls-SetSquare at name row column value))
    ∙ fold-roll-Statement StatementTree StatementTrees statement_of block_of (layer.SetSquare at name row column value)

pub emit_tree : (at : At) (direction : Dir) (kind : Kind) (arguments : Arguments) (pushed : Option Pushed) →
    statement_tree (rust.Emit at direction kind arguments pushed)
    ≡ emit at direction kind (arguments_tree arguments) (option_map pushed_tree pushed)
emit_tree at direction kind arguments pushed =
    ap statement_tree (sym (rust.rolls-Emit at direction kind arguments pushed))
    ∙ fold-roll-Statement StatementTree StatementTrees statement_of block_of
    (layer.Emit at direction kind arguments pushed)

pub push_tree : (at : At) (queue : Queue) (items : Arguments) (otherwise : Block) →
    statement_tree (rust.Push at queue items otherwise)
    ≡ push at (queue_tree queue) (arguments_tree items) (block_tree otherwise)
push_tree at queue items otherwise =
    ap statement_tree (sym (rust.rolls-Push at queue items otherwise))
    ∙ (fold-roll-Statement StatementTree StatementTrees statement_of block_of (layer.Push at queue items otherwise)
    ∙ ap (push at (queue_tree queue) (arguments_tree items)) (block_is otherwise))

pub take_tree : (at : At) (queue : Queue) (names : Names) (block otherwise : Block) →
    statement_tree (rust.Take at queue names block otherwise)
    ≡ take at (queue_tree queue) (names_tree names) (block_tree block) (block_tree otherwise)
take_tree at queue names block otherwise =
    ap statement_tree (sym (rust.rolls-Take at queue names block otherwise))
    ∙ (fold-roll-Statement StatementTree StatementTrees statement_of block_of
    (layer.Take at queue names block otherwise)
    ∙ ap₂ (take at (queue_tree queue) (names_tree names)) (block_is block) (block_is otherwise))

pub when_tree : (at : At) (likely : Likely) (condition : Expression) (block : Block) →
    statement_tree (rust.When at likely condition block)
    ≡ when at likely (expression_tree condition) (block_tree block)
when_tree at likely condition block =
    ap statement_tree (sym (rust.rolls-When at likely condition block))
    ∙ (fold-roll-Statement StatementTree StatementTrees statement_of block_of (layer.When at likely condition block)
    ∙ ap (when at likely (expression_tree condition)) (block_is block))

pub choose_tree : (at : At) (likely : Likely) (condition : Expression) (block otherwise : Block) →
    statement_tree (rust.Choose at likely condition block otherwise)
    ≡ choose at likely (expression_tree condition) (block_tree block) (block_tree otherwise)
choose_tree at likely condition block otherwise =
    ap statement_tree (sym (rust.rolls-Choose at likely condition block otherwise))
    ∙ (fold-roll-Statement StatementTree StatementTrees statement_of block_of
    (layer.Choose at likely condition block otherwise)
    ∙ ap₂ (choose at likely (expression_tree condition)) (block_is block) (block_is otherwise))

pub each_tree : (at : At) (name : Name) (below : Expression) (most : Size) (block : Block) →
    statement_tree (rust.Each at name below most block)
    ≡ each at name (expression_tree below) (size_tree most) (block_tree block)
each_tree at name below most block =
    ap statement_tree (sym (rust.rolls-Each at name below most block))
    ∙ (fold-roll-Statement StatementTree StatementTrees statement_of block_of (layer.Each at name below most block)
    ∙ ap (each at name (expression_tree below) (size_tree most)) (block_is block))
