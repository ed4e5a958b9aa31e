use Rattle.std.proofs.Common.{rules}
use Rattle.file_slots.proofs.Places.{item_nowhere, item_there}
use Rattle.file_slots.proofs.declared.item_number.Goals as goal

pub returns-in-None : goal.returns-in-None
returns-in-None c =
    item_nowhere c.args.items.now.first c.args.items.now.rest.items c.args.label.now (search rules) (search rules)

pub returns-in-Some : goal.returns-in-Some
returns-in-Some c =
    item_there c.args.items.now.first c.args.items.now.rest.items c.args.label.now c.in-Some.k (search rules)
    (search rules)
