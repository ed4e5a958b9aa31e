use Rattle.layer_ast.specs.View.{file_tree}
use Rattle.file_types.proofs.Files.{first_typed}
use Rattle.file_types.proofs.file.first_fault.Goals as goal

pub returns : goal.returns
returns c = first_typed (file_tree c.args.file.now) c.new-found.result c.all.new.found c.new-found.ensures.first
    c.new-found.ensures.moved
    c.in_ok-all.ensures
