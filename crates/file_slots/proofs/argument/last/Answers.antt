use Rattle.std.proofs.Common.{rules}
use Rattle.layer_ast.specs.View as written
use Rattle.file_slots.proofs.Lists.{last_there}
use Rattle.file_slots.proofs.argument.last.Goals as goal

pub returns-in-Some : goal.returns-in-Some
returns-in-Some c =
    last_there written.argument_tree c.args.arguments.now.first c.args.arguments.now.rest.items c.in-Some.argument.now
    (search rules)
