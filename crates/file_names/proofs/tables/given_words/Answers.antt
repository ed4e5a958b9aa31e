use Rattle.std.proofs.Common.{refl}
use Rattle.layer_ast.specs.Tree.{GivenTree}
use Rattle.layer_ast.specs.View.{given_tree}
use Rattle.file_names.proofs.Lists.{made_more}
use Rattle.file_names.proofs.tables.given_words.Goals as goal

pub loop-one-preserved : goal.loop-one-preserved
loop-one-preserved c =
    made_more given_tree (λ (g : GivenTree). g.name.word) c.args.given.now c.loop-one.one-index c.one-item.result
    c.loop-one.words _ _
    c.loop-one-test.true c.one-item.is refl c.loop-one.invariant c.in_ok-push.ensures.pushed
