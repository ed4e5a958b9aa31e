use Rattle.std.proofs.Common.{[]}
use Rattle.layer_ast.specs.View.{declaration_tree}
use Rattle.file_names.specs.Gathered.{capacity_words}
use Rattle.file_names.proofs.Gathered.{words_more}
use Rattle.file_names.proofs.sizes.capacities.Goals as goal

pub loop-declaration-preserved : goal.loop-declaration-preserved
loop-declaration-preserved c =
    words_more declaration_tree capacity_words [] c.loop-declaration.words c.note_capacity.new.words
    c.args.declarations.now
    c.loop-declaration.declaration-index c.declaration-item.result c.loop-declaration-test.true c.declaration-item.is
    c.loop-declaration.invariant c.in_ok-note_capacity.ensures
