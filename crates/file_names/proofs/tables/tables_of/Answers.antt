use Rattle.std.proofs.Common.{rules}
use Rattle.layer_ast.specs.View.{layer_tree}
use Rattle.file_scope.specs.Words.{own_words}
use Rattle.file_names.proofs.Lists.{made_more}
use Rattle.file_names.proofs.tables.tables_of.Goals as goal

pub loop-layer-preserved : goal.loop-layer-preserved
loop-layer-preserved c =
    made_more layer_tree own_words c.args.layers.now c.loop-layer.layer-index c.layer-item.result
    c.loop-layer.tables.items _
    c.in_ok-words.words c.loop-layer-test.true c.layer-item.is (search rules) c.loop-layer.invariant
    c.in_ok-push.ensures.items
