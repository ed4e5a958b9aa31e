use Rattle.std.proofs.Common.{ℕ, ◌++◌, ◌∷◌, [], List, ap, map, sym, take, ◌∙◌}
use Rattle.std.proofs.lemmas.List.{map-append}
use Rattle.layer_ast.specs.Tree.{ItemTree}
use Rattle.layer_ast.specs.View as written
use Rattle.file_slots.proofs.Lists.{trees_more}
use Rattle.file_lower.proofs.cell.words.Goals as goal

pub loop-item-preserved : goal.loop-item-preserved
loop-item-preserved c =
    let items = c.args.items.now in
    let k = c.loop-item.item-index in
    let item = c.item-item.result in
    let word : ItemTree → List ℕ = λ i. i.name.word in
    c.in_ok-push.ensures.items
    ∙ (ap (λ l. l ++ item.name.word ∷ []) c.loop-item.invariant
    ∙ (sym (map-append word (map written.item_tree (take k items)) (written.item_tree item ∷ []))
    ∙ ap (map word) (sym (trees_more written.item_tree items k item c.loop-item-test.true c.item-item.is))))
