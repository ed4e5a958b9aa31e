use Rattle.std.proofs.Common.{rules}
use Rattle.pack_words.specs.Reading.{left}
use Rattle.pack_words.specs.View.{items_shown, layers_in, named_in}
use Rattle.pack_read.specs.Inside.{in_row}
use Rattle.pack_read.proofs.Writing.{push_read}
use Rattle.pack_read.proofs.queues.pushed_row.Goals as goal

pub returns : goal.returns
returns c = push_read (layers_in c.args.scope.now) (named_in c.args.scope.now) (in_row c.args.scope.now)
    (left c.args.text.now)
    (left c.the.new.self) (left c.queue.new.text)
    (left c.the-2.new.self) (left c.row_numbers.new.text) (left c.row_message.new.text) (left c.the-3.new.self)
    c.args.store.now
    (record { nodes = c.row_numbers.new.nodes; links = c.row_message.new.links }) c.queue.new.nodes c.in_ok-queue.queue
    c.in_ok-numbers.numbers
    c.in_ok-message.message (items_shown c.items_named-items.result) (search rules) (search rules)
    (search rules) c.items_named-items.ensures
    (search rules)
    (search rules) (search rules)
