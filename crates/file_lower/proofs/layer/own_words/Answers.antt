use Rattle.std.proofs.Common.{◌++◌, ◌∷◌, [], ap, ◌∙◌}
use Rattle.layer_ast.specs.declared.names.Name.{Name}
use Rattle.file_slots.proofs.Places.{word_next}
use Rattle.file_lower.proofs.layer.own_words.Goals as goal

pub loop-declaration-preserved : goal.loop-declaration-preserved
loop-declaration-preserved c =
    word_next c.args.declarations.now c.loop-declaration.declaration-index c.declaration-item.result
    c.loop-declaration.words _
    c.loop-declaration-test.true c.declaration-item.is c.loop-declaration.invariant
    (c.in_ok-push.ensures.pushed ∙ ap (λ (n : Name). c.loop-declaration.words ++ n.word ∷ []) c.declared_name.ensures)
