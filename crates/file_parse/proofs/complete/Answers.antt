use Rattle.layer_ast.specs.View.{file_tree}
use Rattle.file_parse.proofs.Whole.{read_bad, file_spelled}
use Rattle.file_parse.proofs.complete.Goals as goal

pub returns-in-Some : goal.returns-in-Some
returns-in-Some c = (
  c.requires.small,
  read_bad c.args.text.now c.args.tokens.now.tokens.items c.args.tokens.now.bad_at c.requires.cut c.in-Some.at
      (file_tree c.args.file) c.in-Some.is c.requires.read,
)

pub brought-requires-clause-spelled : goal.brought-requires-clause-spelled
brought-requires-clause-spelled c =
    file_spelled c.args.text.now c.args.tokens.now.tokens.items c.args.tokens.now.bad_at c.requires.cut _
    c.in_default.is
    c.requires.read
