use Rattle.std.proofs.Common.{◌≡◌, ℕ, suc, length, rules, Some, ap, ◌∙◌, subst}
use Rattle.layer_ast.specs.View.{argument_tree, arguments_tree, queue_tree}
use Rattle.fault_mean.specs.ExpressionFaults.{arguments_faults}
use Rattle.fault_mean.specs.TypeFaults.{row_sorts, row_type_faults}
use Rattle.fault_mean.specs.Uses.{arguments_in}
use Rattle.file_expressions.specs.Found.{Finds, type_shown}
use Rattle.file_scope.proofs.Finds.{finds_both}
use Rattle.file_scope.specs.Scope.{scope_of}
use Rattle.file_types.proofs.Counts.{trees_count}
use Rattle.file_types.proofs.statement.push.Goals as goal

pub returns : goal.returns
returns c =
    let scope = scope_of c.args.scope.now in
    let q = queue_tree c.args.q.now in
    let items = c.args.items.now in
    finds_both type_shown c.args.found.now c.row.new.found c.row_arguments.new.found _
    (arguments_faults scope (row_sorts scope.layer q) (arguments_in (Some (arguments_tree items))))
    (subst (λ (n : ℕ). Finds c.args.found.now (row_type_faults scope c.args.at q n) c.row.new.found)
    (ap suc (let e : c.len.result ≡ length items.rest.items = search rules in e) ∙
    trees_count argument_tree (argument_tree items.first) items.rest.items)
    c.row.ensures)
    c.row_arguments.ensures
