use Rattle.layer_ast.specs.View.{handler_tree, layer_tree}
use Rattle.file_types.proofs.Handlers.{handler_parts}
use Rattle.file_types.proofs.handler.handler.Goals as goal

pub returns : goal.returns
returns c = handler_parts (layer_tree c.args.layer.now) (handler_tree c.args.handler.now) _ c.args.found.now
    c.arity.new.found
    c.popped.new.found c.expected.new.found c.block.new.found c.in_ok-scope.ensures c.arity.ensures c.popped.ensures
    c.expected.ensures c.in_ok-block.ensures.0
