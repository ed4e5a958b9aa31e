use Rattle.std.proofs.Common.{rules, sym, ◌∙◌}
use Rattle.file_expressions.proofs.Trees.{label_after}
use Rattle.file_expressions.proofs.items.label_in.Goals as goal

pub returns-else-is_same : goal.returns-else-is_same
returns-else-is_same c = label_after c.args.label.now c.args.items.now.first c.args.items.now.rest.items
    c.label_among.result
    (sym c.is_same.ensures ∙ c.if-is_same.false) (search rules)
