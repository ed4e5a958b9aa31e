use Rattle.std.proofs.Common.{rules, sym, ◌∙◌}
use Rattle.pack_words.specs.Reading.{left}
use Rattle.pack_read.specs.Inside.{inner}
use Rattle.pack_read.proofs.Arms.{choice_read, cut_read, held_read, item_read, join_read, operation_read}
use Rattle.pack_read.proofs.Arms.{tail_read}
use Rattle.pack_read.proofs.Cells.{both_read}
use Rattle.pack_read.proofs.Opened.{message_opened, no_cell, number_opened, operation_opened}
use Rattle.pack_words.specs.Names.{words_in}
use Rattle.pack_read.proofs.expressions.+expressions.Goals as goal

pub choice-returns : goal.choice-returns
choice-returns t c = choice_read (inner c.args.scope.now c.args.room) (left c.args.text.now) _ _ _ _ _ _ _ _ _ _ _ _ _
    _ _ _ c.in_ok-the.ensures c.in_ok-condition.ensures c.in_ok-the-2.ensures c.in_ok-first.ensures
    c.in_ok-the-3.ensures c.in_ok-second.ensures c.in_ok-the-4.ensures c.in_ok-number.ensures

pub cut-returns : goal.cut-returns
cut-returns t c = cut_read (inner c.args.scope.now c.args.room) (left c.args.text.now) _ _ _ _ _ _ _ _ _ _ _ _ _ _ _ _
    c.in_ok-the.ensures c.in_ok-whole.ensures c.in_ok-the-2.ensures c.in_ok-from.ensures c.in_ok-the-3.ensures
    c.in_ok-length.ensures c.in_ok-the-4.ensures c.in_ok-message.ensures

pub held-returns : goal.held-returns
held-returns t c = held_read _ (inner c.args.scope.now c.args.room) (left c.args.text.now) _ _ _ _ _ _ _ _ _ _ _ _ _
    c.in_ok-the.ensures c.in_ok-queue.ensures c.in_ok-the-2.ensures c.in_ok-row.ensures c.in_ok-the-3.ensures
    c.in-Some.ensures c.in_ok-message.ensures

pub item-returns : goal.item-returns
item-returns t c = item_read _ (inner c.args.scope.now c.args.room) (left c.args.text.now) _ _ _ _ _ _ _ _ _ _ _ _ _ _
    _ c.in_ok-the.ensures c.in_ok-queue.ensures c.in_ok-the-2.ensures c.in_ok-row.ensures c.in_ok-the-3.ensures
    c.name-name.ensures (sym c.in-Some.is ∙ c.in_ok-item.ensures) c.in_ok-number.ensures

pub join-returns : goal.join-returns
join-returns t c = join_read (inner c.args.scope.now c.args.room) (left c.args.text.now) _ _ _ _ _ _ _ _ _ _ _ _
    c.in_ok-the.ensures c.in_ok-first.ensures c.in_ok-the-2.ensures c.in_ok-second.ensures c.in_ok-the-3.ensures
    c.in_ok-message.ensures

pub operation-returns : goal.operation-returns
operation-returns t c = operation_read (inner c.args.scope.now c.args.room) _ _ _ _ _ _ _ _ _ _ _ _ _ _ _ _
    c.in_ok-left.ensures c.in_ok-the.ensures c.word.ensures c.in-Some.ensures c.in_ok-the-2.ensures
    c.in_ok-right.ensures c.in_ok-the-3.ensures c.in_ok-number.ensures

pub tail-returns : goal.tail-returns
tail-returns t c = tail_read (inner c.args.scope.now c.args.room) (left c.args.text.now) _ _ _ _ _ _ _ _ _ _ _ _
    c.in_ok-the.ensures c.in_ok-whole.ensures c.in_ok-the-2.ensures c.in_ok-from.ensures c.in_ok-the-3.ensures
    c.in_ok-message.ensures

pub target_at-returns-in_ok-column-in-Some-Square : goal.target_at-returns-in_ok-column-in-Some-Square
target_at-returns-in_ok-column-in-Some-Square t c = both_read (inner c.args.scope.now c.args.room) _ c.args.cell.sort _
    _ _ _ _ _ _ _ (search rules) c.in_ok-row-in-Some-Square.ensures c.in_ok-column-in-Some-Square.ensures

pub message-returns : goal.message-returns
message-returns t c = message_opened c.args.scope.now (left c.args.text.now) _ _ _ _ _ _ _ c.message_named.result
    c.in_ok-inside.ensures c.name-name.ensures c.message_named.ensures

pub number-returns : goal.number-returns
number-returns t c = number_opened c.args.scope.now (left c.args.text.now) _ _ _ _ _ _ _ c.number_named.result
    c.in_ok-inside.ensures (sym c.if-is_next.ensures) c.name-name.ensures c.number_named.ensures

pub number-returns-then-is_next : goal.number-returns-then-is_next
number-returns-then-is_next t c = operation_opened c.args.scope.now (left c.args.text.now) _ _ _ _ _ _
    c.operation.result c.in_ok-inside.ensures (sym c.if-is_next.ensures) c.in_ok-the.ensures c.operation.ensures

pub queue-returns-in_default : goal.queue-returns-in_default
queue-returns-in_default t c = no_cell c.args.scope.now (left c.args.text.now) (words_in c.name-name.result)
    (left c.name-name.new.self) _ _ c.in_ok-inside.ensures c.name-name.ensures (search rules)
