use Rattle.std.proofs.Common.{List, subst}
use Rattle.layer_ast.specs.View.{block_tree, handler_tree, layer_tree}
use Rattle.layer_ast.specs.declared.names.Name.{Name}
use Rattle.fault_mean.specs.NameFaults.{too_many_of}
use Rattle.file_names.specs.Found.{Finds}
use Rattle.file_names.specs.Gathered.{Gathers, statements_in}
use Rattle.file_names.proofs.Handlers.{gathered}
use Rattle.file_names.proofs.handler.handler.Goals as goal

pub returns : goal.returns
returns c =
    gathered (layer_tree c.args.worded.now.layer.now) (handler_tree c.args.handler.now) c.block.new.names.items
    c.args.maxima.now
    c.block.new.maxima
    c.args.found.now c.inside.new.found c.too_many.new.found c.in_ok-inside.ensures
    (subst (λ (l : List Name). Gathers l c.args.maxima.now (statements_in (block_tree c.args.handler.now.block))
    c.block.new.names.items c.block.new.maxima)
    c.in_ok-names.ensures c.in_ok-block.ensures)
    (subst (λ (l : List Name). Finds c.inside.new.found (too_many_of 64 l) c.too_many.new.found) c.deref.ensures.value
    c.too_many.ensures)
