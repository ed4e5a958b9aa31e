use Rattle.std.proofs.Common.{ap, ◌∙◌, sym, subst, List}
use Rattle.layer_ast.specs.View as written
use Rattle.layer_ast.specs.declared.syntax.Statement as rust
use Rattle.file_mean.specs.Names.{Names}
use Rattle.file_mean.specs.Statements as spec
use Rattle.file_slots.specs.Scope.{names_of}
use Rattle.file_lower.proofs.After.{Extends, extends_all, left}
use Rattle.file_lower.proofs.Blocks.{statements_next}
use Rattle.file_lower.proofs.statement.+blocks.Goals as goal

pub block-returns-clause-names : goal.block-returns-clause-names
block-returns-clause-names t c =
    let names = names_of c.args.names.now in
    let inner = names_of c.statements.new.names in
    let is = c.in_ok-statements.ensures.names
    ∙ ap (λ (l : List rust.Statement). spec.after_all (written.statement_trees l) names) c.deref.ensures.value in
    left names inner (names_of c.leave.new.self) _ _
    (subst (λ (n : Names). Extends names n) (sym is) (extends_all (written.block_tree c.args.b.now) names))
    c.outer-outer.ensures.numbers c.outer-outer.ensures.messages c.leave.ensures
    ∙ ap (spec.after_block names) is

pub statements-loop-s-preserved : goal.statements-loop-s-preserved
statements-loop-s-preserved t c =
    statements_next c.args.all.now c.loop-s.s-index c.s-item.result (names_of c.args.names.now)
    (names_of c.loop-s.names)
    (names_of c.statement.new.names) c.loop-s.made.items _ c.in_ok-statement.field-0 c.loop-s-test.true c.s-item.is
    c.loop-s.invariant.0 c.loop-s.invariant.1 c.loop-s.invariant.2 c.in_ok-statement.ensures.is
    c.in_ok-statement.ensures.names
    c.in_ok-push.ensures.items
