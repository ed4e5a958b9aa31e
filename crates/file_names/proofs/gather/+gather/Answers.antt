use Rattle.std.proofs.Common.{sym, ap, ◌∙◌, subst}
use Rattle.layer_ast.specs.Tree.{StatementTree}
use Rattle.layer_ast.specs.View.{block_tree, statement_tree}
use Rattle.file_names.specs.Gathered.{Gathers, statements_in, statements_inside}
use Rattle.file_names.proofs.Gathered.{gathers_both, gathers_none}
use Rattle.layer_ast.proofs.StatementViews.{bind_tree, choose_tree, emit_tree, set_square_tree, set_tree, take_tree}
use Rattle.file_names.proofs.gather.+gather.Goals as goal

pub inside-returns-in-Let : goal.inside-returns-in-Let
inside-returns-in-Let t c =
    subst (λ (x : StatementTree). Gathers c.args.names.now.items c.args.maxima.now (statements_inside x)
    c.args.names.now.items c.args.maxima.now)
    (sym (ap statement_tree c.in-Let.is ∙ bind_tree _ _ _)) (gathers_none c.args.names.now.items c.args.maxima.now)

pub inside-returns-in-Set : goal.inside-returns-in-Set
inside-returns-in-Set t c =
    subst (λ (x : StatementTree). Gathers c.args.names.now.items c.args.maxima.now (statements_inside x)
    c.args.names.now.items c.args.maxima.now)
    (sym (ap statement_tree c.in-Set.is ∙ set_tree _ _ _ _)) (gathers_none c.args.names.now.items c.args.maxima.now)

pub inside-returns-in-SetSquare : goal.inside-returns-in-SetSquare
inside-returns-in-SetSquare t c =
    subst (λ (x : StatementTree). Gathers c.args.names.now.items c.args.maxima.now (statements_inside x)
    c.args.names.now.items c.args.maxima.now)
    (sym (ap statement_tree c.in-SetSquare.is ∙ set_square_tree _ _ _ _ _))
    (gathers_none c.args.names.now.items c.args.maxima.now)

pub inside-returns-in-Emit : goal.inside-returns-in-Emit
inside-returns-in-Emit t c =
    subst (λ (x : StatementTree). Gathers c.args.names.now.items c.args.maxima.now (statements_inside x)
    c.args.names.now.items c.args.maxima.now)
    (sym (ap statement_tree c.in-Emit.is ∙ emit_tree _ _ _ _ _)) (gathers_none c.args.names.now.items c.args.maxima.now)

pub inside-returns-in_ok-block-in-Choose-2 : goal.inside-returns-in_ok-block-in-Choose-2
inside-returns-in_ok-block-in-Choose-2 t c =
    let first = c.block-in-Choose.new in
    let second = c.block-in-Choose-2.new in
    subst (λ (x : StatementTree). Gathers c.args.names.now.items c.args.maxima.now (statements_inside x)
    second.names.items second.maxima)
    (sym (ap statement_tree c.in-Choose.is ∙ choose_tree _ _ _ _ _))
    (gathers_both c.args.names.now.items first.names.items second.names.items c.args.maxima.now first.maxima
    second.maxima
    (statements_in (block_tree c.in-Choose.first)) (statements_in (block_tree c.in-Choose.otherwise))
    c.in_ok-block-in-Choose.ensures c.in_ok-block-in-Choose-2.ensures)

pub inside-returns-in_ok-block-in-Take-2 : goal.inside-returns-in_ok-block-in-Take-2
inside-returns-in_ok-block-in-Take-2 t c =
    let first = c.block-in-Take.new in
    let second = c.block-in-Take-2.new in
    subst (λ (x : StatementTree). Gathers c.args.names.now.items c.args.maxima.now (statements_inside x)
    second.names.items second.maxima)
    (sym (ap statement_tree c.in-Take.is ∙ take_tree _ _ _ _ _))
    (gathers_both c.args.names.now.items first.names.items second.names.items c.args.maxima.now first.maxima
    second.maxima
    (statements_in (block_tree c.in-Take.first)) (statements_in (block_tree c.in-Take.otherwise))
    c.in_ok-block-in-Take.ensures c.in_ok-block-in-Take-2.ensures)
