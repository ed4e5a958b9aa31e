use Rattle.layer_ast.specs.View.{file_tree}
use Rattle.file_names.specs.Answer.{resolved_tree}
use Rattle.file_types.proofs.Bounds.{held}
use Rattle.file_types.proofs.checked.check.Goals as goal

pub numbered-requires : goal.numbered-requires
numbered-requires c = held (file_tree c.file.result.now) (resolved_tree c.args.resolved) c.file.ensures.same c.requires
    c.file.ensures.faultless c.in_ok-judge.ensures
