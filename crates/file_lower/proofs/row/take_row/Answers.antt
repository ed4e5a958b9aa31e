use Rattle.std.proofs.Common.{rules, ◌∙◌}
use Rattle.layer_ast.specs.View as written
use Rattle.file_mean.specs.Values as values
use Rattle.file_slots.specs.Scope.{names_of}
use Rattle.file_lower.proofs.Rows.{message_row_fits, numbers_row_fits, row_fits}
use Rattle.file_lower.proofs.row.take_row.Goals as goal

pub taken_row-requires-clause-numbers : goal.taken_row-requires-clause-numbers
taken_row-requires-clause-numbers c =
    row_fits c.args.names.now.numbers.taken c.taken.result c.numbers_of-count.result c.len.result
    c.has_message-has_message.result _
    c.in_ok-new.new.items _ c.requires.numbers c.taken.ensures.is c.taken.ensures.few c.has_message-has_message.ensures
    c.in_ok-new.ensures (search rules)
    c.numbers_of-count.ensures

pub bring_row-requires-clause-numbers : goal.bring_row-requires-clause-numbers
bring_row-requires-clause-numbers c =
    numbers_row_fits c.args.names.now.numbers.taken c.taken.result c.has_message-has_message.result _ c.deref.result.now
    _
    c.requires.numbers c.taken.ensures.is c.taken.ensures.few c.has_message-has_message.ensures
    (c.deref.ensures.value ∙ c.in_ok-new.ensures)

pub bring_row-requires-clause-message : goal.bring_row-requires-clause-message
bring_row-requires-clause-message c =
    message_row_fits c.args.names.now.messages.taken c.taken-2.result
    (values.queue_carries (names_of c.args.names.now) (written.queue_tree c.args.queue.now))
    c.has_message-has_message.result c.deref.result.now c.requires.message c.taken-2.ensures.is c.taken-2.ensures.few
    c.has_message-has_message.ensures
