use Rattle.std.proofs.Common.{List, subst}
use Rattle.layer_ast.specs.View.{handler_tree}
use Rattle.file_scope.specs.Scope.{locals_of, scope_of}
use Rattle.file_scope.specs.declared.scope.Local.{Local}
use Rattle.file_names.specs.Scope.{Declares}
use Rattle.file_names.proofs.Heads.{head_declares}
use Rattle.file_names.proofs.handler.head.Goals as goal

pub returns : goal.returns
returns c =
    let s = scope_of c.args.scope.now in
    let inner = scope_of c.declare.new.scope in
    head_declares s inner (handler_tree c.args.handler.now) (locals_of c.in_ok-locals.locals.items)
    c.args.found.now c.popped.new.found c.declare.new.found c.requires c.in_ok-locals.ensures c.popped.ensures
    (subst (λ (l : List Local). Declares s c.popped.new.found (locals_of l) c.declare.new.found inner)
    c.deref.ensures.value c.in_ok-declare.ensures)
