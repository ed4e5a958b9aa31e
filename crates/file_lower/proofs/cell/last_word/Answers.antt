use Rattle.std.proofs.Common.{rules, ap, ◌∙◌, None, ◌∷◌, map, option_map}
use Rattle.layer_ast.specs.Tree.{ItemTree}
use Rattle.layer_ast.specs.View as written
use Rattle.file_slots.proofs.Lists.{last_map, last_there}
use Rattle.file_lower.proofs.cell.last_word.Goals as goal

pub returns-in-Some : goal.returns-in-Some
returns-in-Some c =
    ap (option_map (λ (i : ItemTree). i.name.word))
    (last_there written.item_tree c.args.row.now.first c.args.row.now.rest.items c.in-Some.item.now (search rules))
    ∙ last_map (λ (i : ItemTree). i.name.word) None
    (written.item_tree c.args.row.now.first ∷ map written.item_tree c.args.row.now.rest.items)
