use Rattle.layer_ast.specs.View.{layer_tree}
use Rattle.file_names.proofs.JudgedOnce.{judged_once}
use Rattle.file_names.proofs.library.judge.Goals as goal

pub returns : goal.returns
returns c =
    judged_once (layer_tree c.args.of_library.now.layer.now) c.moved-found.result c.layer.new.found c.in_ok-sizes.sizes
    c.rank.result
    c.moved-found.ensures.first c.moved-found.ensures.moved c.in_ok-sizes.ensures.finds c.in_ok-sizes.ensures.sizes
    c.rank.ensures
