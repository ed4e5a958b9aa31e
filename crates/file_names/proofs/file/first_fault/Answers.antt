use Rattle.layer_ast.specs.View.{file_tree}
use Rattle.file_names.proofs.Files.{first_named}
use Rattle.file_names.proofs.file.first_fault.Goals as goal

pub returns : goal.returns
returns c =
    first_named (file_tree c.args.file.now) c.new-found.result c.all.new.found c.new-found.ensures.first
    c.new-found.ensures.moved
    c.in_ok-all.ensures
