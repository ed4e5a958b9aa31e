use Rattle.std.proofs.Common.{rules, ap, ◌∙◌, is_some, map, Option}
use Rattle.std.specs.Option.{option_zip}
use Rattle.layer_ast.specs.Tree.{ItemTree}
use Rattle.layer_ast.specs.View as written
use Rattle.layer_mean.specs.Tree.{Carried}
use Rattle.fault_mean.specs.Declared.{items_in}
use Rattle.file_mean.specs.Names.{message_among}
use Rattle.typed_layer.specs.View.{carried_tree}
use Rattle.file_lower.proofs.Rows.{some_map, words_are}
use Rattle.file_lower.proofs.cell.row_items.Goals as goal

pub returns : goal.returns
returns c =
    let items = items_in (written.items_tree c.args.row.now) in
    let carried = c.carried_in-carried.result in
    let has = c.is_some.ensures ∙ (some_map carried_tree carried ∙ ap is_some c.carried_in-carried.ensures) in
    let numbers = words_are c.in_ok-all.all.items _ items c.in_ok-numbers.numbers.items c.numbers_of-count.result
    c.len.result
    c.is_some.result _ c.in_ok-all.ensures (search rules) c.numbers_of-count.ensures has (search rules)
    c.in_ok-numbers.ensures in
    let message = c.item_message.ensures
    ∙ ap (λ (o : Option Carried). option_zip (message_among (is_some o) (map (λ (i : ItemTree). i.name.word) items)) o)
    c.carried_in-carried.ensures in
    λ i. record { numbers = numbers i; message = message i }
