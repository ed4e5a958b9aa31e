use Rattle.std.proofs.Common.{◌++◌, [], Some, option_map, sym, ap, ◌∙◌, subst, flat_map}
use Rattle.std.specs.Option.{option_map_or}
use Rattle.layer_ast.specs.Tree.{StatementTree, emit}
use Rattle.layer_ast.specs.View.{arguments_tree, expression_tree, pushed_tree, queue_tree, size_tree, statement_tree}
use Rattle.fault_mean.specs.NameFaults.{use_faults}
use Rattle.fault_mean.specs.Uses.{arguments_uses, of_name, pushed_uses, queue_uses, size_uses, statement_uses, uses}
use Rattle.file_names.specs.Found.{Finds, name_shown}
use Rattle.file_scope.specs.Scope.{scope_of}
use Rattle.file_scope.proofs.Finds.{finds_both, finds_row, finds_three}
use Rattle.layer_ast.proofs.StatementViews.{each_tree, emit_tree, push_tree, set_square_tree, set_tree}
use Rattle.file_names.proofs.uses.statement.Goals as goal

pub returns-in-Set : goal.returns-in-Set
returns-in-Set c =
    let f = use_faults (scope_of c.args.scope.now) in
    let i = c.in-Set in
    subst (λ (t : StatementTree). Finds c.args.found.now (flat_map f (statement_uses t)) c.expression-in-Set.new.found)
    (sym (ap statement_tree i.is ∙ set_tree i.at i.cell i.index i.value))
    (finds_both name_shown c.args.found.now c.name.new.found c.expression-in-Set.new.found (f (of_name i.cell))
    (flat_map f (option_map_or uses (option_map expression_tree i.index) [] ++ uses (expression_tree i.value)))
    c.name.ensures
    (finds_row name_shown f c.name.new.found c.optional.new.found c.expression-in-Set.new.found
    (option_map_or uses (option_map expression_tree i.index) []) (uses (expression_tree i.value))
    c.optional.ensures c.expression-in-Set.ensures))

pub returns-in-SetSquare : goal.returns-in-SetSquare
returns-in-SetSquare c =
    let f = use_faults (scope_of c.args.scope.now) in
    let i = c.in-SetSquare in
    let end = c.expression-in-SetSquare-3.new.found in
    subst (λ (t : StatementTree). Finds c.args.found.now (flat_map f (statement_uses t)) end)
    (sym (ap statement_tree i.is ∙ set_square_tree i.at i.cell i.row i.column i.value))
    (finds_both name_shown c.args.found.now c.name-in-SetSquare.new.found end (f (of_name i.cell))
    (flat_map f (uses (expression_tree i.row) ++ uses (expression_tree i.column) ++ uses (expression_tree i.value)))
    c.name-in-SetSquare.ensures
    (finds_three name_shown f c.name-in-SetSquare.new.found c.expression-in-SetSquare.new.found
    c.expression-in-SetSquare-2.new.found end
    (uses (expression_tree i.row)) (uses (expression_tree i.column)) (uses (expression_tree i.value))
    c.expression-in-SetSquare.ensures c.expression-in-SetSquare-2.ensures c.expression-in-SetSquare-3.ensures))

pub returns-in-Push : goal.returns-in-Push
returns-in-Push c =
    let f = use_faults (scope_of c.args.scope.now) in
    let i = c.in-Push in
    subst (λ (t : StatementTree). Finds c.args.found.now (flat_map f (statement_uses t)) c.arguments.new.found)
    (sym (ap statement_tree i.is ∙ push_tree i.at i.held i.items i.otherwise))
    (finds_row name_shown f c.args.found.now c.queue.new.found c.arguments.new.found
    (queue_uses (queue_tree i.held)) (arguments_uses (Some (arguments_tree i.items))) c.queue.ensures
    c.arguments.ensures)

pub returns-in-Each : goal.returns-in-Each
returns-in-Each c =
    let f = use_faults (scope_of c.args.scope.now) in
    let i = c.in-Each in
    subst (λ (t : StatementTree). Finds c.args.found.now (flat_map f (statement_uses t)) c.size.new.found)
    (sym (ap statement_tree i.is ∙ each_tree i.at i.name i.below i.most i.block))
    (finds_row name_shown f c.args.found.now c.expression-in-Each.new.found c.size.new.found
    (uses (expression_tree i.below)) (size_uses (size_tree i.most)) c.expression-in-Each.ensures c.size.ensures)

pub returns-in-Some : goal.returns-in-Some
returns-in-Some c =
    let f = use_faults (scope_of c.args.scope.now) in
    let i = c.in-Emit in
    subst (λ (t : StatementTree). Finds c.args.found.now (flat_map f (statement_uses t)) c.pushed.new.found)
    (sym (ap statement_tree i.is ∙ (emit_tree i.at i.direction i.kind i.all i.header
    ∙ ap (λ h. emit i.at i.direction i.kind (arguments_tree i.all) (option_map pushed_tree h)) c.in-Some.is)))
    (finds_row name_shown f c.args.found.now c.arguments-in-Emit.new.found c.pushed.new.found
    (arguments_uses (Some (arguments_tree i.all))) (pushed_uses (pushed_tree c.in-Some.header))
    c.arguments-in-Emit.ensures c.pushed.ensures)
