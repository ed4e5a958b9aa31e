use Rattle.layer_ast.specs.View.{layer_tree}
use Rattle.file_parse.proofs.Whole.{layer_spelled}
use Rattle.file_parse.proofs.library.spelled.Goals as goal

pub returns-in-Ok : goal.returns-in-Ok
returns-in-Ok c =
    layer_spelled c.args.text.now c.in_ok-tokens.tokens.tokens.items c.in_ok-tokens.tokens.bad_at c.in_ok-tokens.ensures
    (layer_tree c.in-Ok.layer) c.in-Ok.field-0-1.now c.requires (rw c.deref.ensures.value at c.in-Ok.ensures.read)
