use Rattle.layer_ast.specs.View.{layer_tree}
use Rattle.file_types.proofs.Calls.{rank_once}
use Rattle.file_types.proofs.library.rank.Goals as goal

pub returns : goal.returns
returns c = rank_once (layer_tree c.args.of_library.now) c.moved-found.result c.layer.new.found c.rank.result
    c.moved-found.ensures.first c.moved-found.ensures.moved c.in_ok-layer.ensures c.rank.ensures
