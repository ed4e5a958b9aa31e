use Rattle.layer_ast.specs.View.{handler_tree, layer_tree}
use Rattle.file_scope.specs.Scope.{scope_of}
use Rattle.file_names.proofs.Handlers.{inside_is}
use Rattle.file_names.proofs.handler.inside.Goals as goal

pub returns : goal.returns
returns c =
    let inner = c.in_ok-head.ensures in
    inside_is (layer_tree c.args.worded.now.layer.now) (scope_of c.of-scope.result) (scope_of c.head.new.scope)
    (handler_tree c.args.handler.now)
    c.args.found.now c.head.new.found c.expected.new.found c.block.new.found c.of-scope.ensures inner.0 inner.1
    c.expected.ensures
    c.in_ok-block.ensures.0
