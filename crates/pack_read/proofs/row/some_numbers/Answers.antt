use Rattle.std.proofs.Common.{rules}
use Rattle.pack_words.specs.Reading.{left}
use Rattle.pack_read.specs.Inside.{in_row}
use Rattle.pack_read.proofs.Numbering.{first_read}
use Rattle.pack_read.proofs.row.some_numbers.Goals as goal

pub returns : goal.returns
returns c = first_read (in_row c.args.scope.now) c.args.names.now
    c.args.nodes.now c.row_number.new.nodes c.more_numbers.new.nodes (left c.args.text.now) (left c.row_number.new.text)
    (left c.more_numbers.new.text) c.in_ok-numbers.numbers c.in_ok-node.node c.more_numbers.result
    c.in-len1-up.len_at_least (search rules) (search rules) c.more_numbers.ensures
