use Rattle.std.proofs.Common.{◌≡◌, List, map, refl, sym, ap, ◌∙◌, subst}
use Rattle.layer_ast.specs.Tree.{StatementTree}
use Rattle.layer_ast.specs.View.{block_tree, expression_tree, names_tree, queue_tree, size_tree, statement_tree}
use Rattle.layer_ast.specs.View.{statement_trees}
use Rattle.layer_ast.specs.declared.syntax.Statement.{Statement}
use Rattle.fault_mean.specs.Scope as spec
use Rattle.file_names.specs.Blocks.{block_faults, inner_faults}
use Rattle.file_names.specs.Found.{Finds, name_shown}
use Rattle.file_names.specs.Scope.{Declares}
use Rattle.file_scope.specs.Scope.{locals_of, scope_of}
use Rattle.file_scope.specs.declared.scope.Local.{Local}
use Rattle.file_scope.proofs.Standing.{block_left}
use Rattle.file_names.proofs.Blocks.{block_more, choose_inner, each_inner, statement_parts, take_inner, with_inner}
use Rattle.file_scope.proofs.Finds.{finds_none}
use Rattle.layer_ast.proofs.StatementViews.{choose_tree, each_tree, emit_tree, set_square_tree, set_tree, take_tree}
use Rattle.file_names.proofs.block.+blocks.Goals as goal

pub block-returns : goal.block-returns
block-returns t c = (
  subst (λ (l : List Statement). Finds c.args.found.now (block_faults (scope_of c.args.scope.now) (statement_trees l))
      c.statements.new.found)
      c.deref.ensures.value c.in_ok-statements.ensures.0,
  block_left (scope_of c.args.scope.now) (scope_of c.statements.new.scope) (scope_of c.leave.new.self)
      (map statement_tree c.deref.result.now) c.len-outer.result c.len-outer.ensures c.in_ok-statements.ensures.1
      c.leave.ensures,
)

pub inside-returns-in_ok-block-in-Choose-2 : goal.inside-returns-in_ok-block-in-Choose-2
inside-returns-in_ok-block-in-Choose-2 t c =
    let i = c.in-Choose in
    let s = scope_of c.args.scope.now in
    let one = c.in_ok-block-in-Choose.ensures in
    let two = c.in_ok-block-in-Choose-2.ensures in
    subst (λ (x : StatementTree). Finds c.args.found.now (inner_faults s x) c.block-in-Choose-2.new.found
    × (scope_of c.block-in-Choose-2.new.scope ≡ spec.scope_after s x))
    (sym (ap statement_tree i.is ∙ choose_tree i.at i.likely i.condition i.first i.otherwise))
    (choose_inner s (scope_of c.block-in-Choose.new.scope) (scope_of c.block-in-Choose-2.new.scope) i.at i.likely
    (expression_tree i.condition) (block_tree i.first) (block_tree i.otherwise)
    c.args.found.now c.block-in-Choose.new.found c.block-in-Choose-2.new.found one.0 one.1 two.0 two.1)

pub inside-returns-in_ok-block-in-Take : goal.inside-returns-in_ok-block-in-Take
inside-returns-in_ok-block-in-Take t c =
    let i = c.in-Take in
    let s = scope_of c.args.scope.now in
    let one = c.in_ok-with_locals-in-Take.ensures in
    let two = c.in_ok-block-in-Take.ensures in
    subst (λ (x : StatementTree). Finds c.args.found.now (inner_faults s x) c.block-in-Take.new.found
    × (scope_of c.block-in-Take.new.scope ≡ spec.scope_after s x))
    (sym (ap statement_tree i.is ∙ take_tree i.at i.queue i.names i.first i.otherwise))
    (take_inner s (scope_of c.with_locals.new.scope) (scope_of c.block-in-Take.new.scope) i.at (queue_tree i.queue)
    (names_tree i.names) (block_tree i.first) (block_tree i.otherwise) (locals_of c.in_ok-locals-in-Take.locals.items)
    c.args.found.now c.with_locals.new.found c.block-in-Take.new.found c.in_ok-locals-in-Take.ensures one.0 one.1 two.0
    two.1)

pub inside-returns-in_ok-block-in-Each : goal.inside-returns-in_ok-block-in-Each
inside-returns-in_ok-block-in-Each t c =
    let i = c.in-Each in
    let s = scope_of c.args.scope.now in
    let brought = c.in_ok-bring-in-Each.ensures in
    let inner = c.in_ok-block-in-Each.ensures in
    subst (λ (x : StatementTree). Finds c.args.found.now (inner_faults s x) c.block-in-Each.new.found
    × (scope_of c.leave.new.self ≡ spec.scope_after s x))
    (sym (ap statement_tree i.is ∙ each_tree i.at i.name i.below i.most i.first))
    (each_inner s (scope_of c.bring-in-Each.new.scope) (scope_of c.block-in-Each.new.scope) (scope_of c.leave.new.self)
    i.at i.name
    (expression_tree i.below) (size_tree i.most) (block_tree i.first) c.len-outer.result
    c.args.found.now c.bring-in-Each.new.found c.size.new.found c.block-in-Each.new.found
    c.len-outer.ensures brought c.size.ensures inner.0 inner.1 c.leave.ensures)

pub inside-returns-in-Set : goal.inside-returns-in-Set
inside-returns-in-Set t c =
    let s = scope_of c.args.scope.now in
    subst (λ (x : StatementTree). Finds c.args.found.now (inner_faults s x) c.args.found.now ×
    (s ≡ spec.scope_after s x))
    (sym (ap statement_tree c.in-Set.is ∙ set_tree _ _ _ _)) (finds_none name_shown c.args.found.now, refl)

pub inside-returns-in-SetSquare : goal.inside-returns-in-SetSquare
inside-returns-in-SetSquare t c =
    let s = scope_of c.args.scope.now in
    subst (λ (x : StatementTree). Finds c.args.found.now (inner_faults s x) c.args.found.now ×
    (s ≡ spec.scope_after s x))
    (sym (ap statement_tree c.in-SetSquare.is ∙ set_square_tree _ _ _ _ _))
    (finds_none name_shown c.args.found.now, refl)

pub inside-returns-in-Emit : goal.inside-returns-in-Emit
inside-returns-in-Emit t c =
    let s = scope_of c.args.scope.now in
    subst (λ (x : StatementTree). Finds c.args.found.now (inner_faults s x) c.args.found.now ×
    (s ≡ spec.scope_after s x))
    (sym (ap statement_tree c.in-Emit.is ∙ emit_tree _ _ _ _ _)) (finds_none name_shown c.args.found.now, refl)

pub statement-returns : goal.statement-returns
statement-returns t c =
    let inner = c.in_ok-inside.ensures in (
      statement_parts (scope_of c.args.scope.now) (statement_tree c.args.s.now) c.args.found.now c.statement.new.found
          c.inside.new.found
          c.statement.ensures inner.0,
      inner.1,
    )

pub statements-loop-s-init : goal.statements-loop-s-init
statements-loop-s-init t c = (finds_none name_shown c.args.found.now, refl)

pub statements-loop-s-preserved : goal.statements-loop-s-preserved
statements-loop-s-preserved t c =
    let one = c.in_ok-statement.ensures in
    block_more (scope_of c.args.scope.now) (scope_of c.loop-s.scope) (scope_of c.statement.new.scope) c.args.found.now
    c.loop-s.found
    c.statement.new.found c.args.all.now c.loop-s.s-index c.s-item.result c.loop-s-test.true c.s-item.is
    c.loop-s.invariant.0 c.loop-s.invariant.1 one.0 one.1

pub with_locals-returns : goal.with_locals-returns
with_locals-returns t c =
    let s = scope_of c.args.scope.now in
    let declares : Declares s c.args.found.now (locals_of c.args.locals.now.items) c.declare.new.found
    (scope_of c.declare.new.scope) =
    subst (λ (l : List Local). Declares s c.args.found.now (locals_of l) c.declare.new.found
    (scope_of c.declare.new.scope))
    c.deref.ensures.value c.in_ok-declare.ensures in
    let inner = c.in_ok-block.ensures in
    with_inner s (scope_of c.declare.new.scope) (scope_of c.block.new.scope) (scope_of c.leave.new.self)
    (locals_of c.args.locals.now.items) c.len-outer.result (block_tree c.args.b.now)
    c.args.found.now c.declare.new.found c.block.new.found c.len-outer.ensures declares inner.0 inner.1 c.leave.ensures
