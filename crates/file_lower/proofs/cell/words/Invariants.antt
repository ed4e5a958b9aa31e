use Rattle.std.proofs.Common.{◌≡◌, map, take}
use Rattle.layer_ast.specs.View as written
use Rattle.file_lower.proofs.cell.words.Given as goal

abbrev pub invariant-loop-item : goal.invariant-loop-item
invariant-loop-item l = l.words.items ≡ map (λ i. i.name.word) (map written.item_tree (take l.item-index l.items))
