use Rattle.std.proofs.Common.{rules}
use Rattle.pack_mean.specs.Operation as operation
use Rattle.pack_words.specs.Reading.{left}
use Rattle.pack_words.specs.View.{named_in}
use Rattle.pack_read.proofs.Fields.{field_more}
use Rattle.pack_read.proofs.header.+more_fields.Goals as goal

pub returns : goal.returns
returns t c = field_more (operation.an_atom (named_in c.args.scope.now)) c.args.most c.args._place
    (left c.args.text.now) (left c.the.new.self) (left c.atom.new.text) (left c.more_fields.new.text)
    c.in_ok-field.field c.args.fields c.in_ok-fields.fields c.more_fields.result
    c.if-most-eq0.false (search rules) (search rules) (search rules) c.more_fields.ensures
