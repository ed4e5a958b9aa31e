use Rattle.std.proofs.Common.{rules}
use Rattle.pack_read.proofs.Fields.{fields_after}
use Rattle.pack_read.proofs.header.fields.Goals as goal

pub returns : goal.returns
returns c = fields_after _ c.args.count c.args.place _ _ _ c.in_ok-first.first c.in_ok-fields.fields
    c.more_fields.result
    c.if-count-eq0.false (search rules) (search rules) c.more_fields.ensures
