use Rattle.std.proofs.Common.{rules, ◌++◌, codes}
use Rattle.std.specs.Fmt.{decimal}
use Rattle.pack_mean.specs.File as file
use Rattle.pack_words.specs.Reading.{left}
use Rattle.pack_read.proofs.Headings.{heading_fails, heading_told}
use Rattle.pack_read.proofs.heading.heading.Goals as goal

pub returns-in_err-named_entry : goal.returns-in_err-named_entry
returns-in_err-named_entry c = heading_fails (codes "entry " ++ file.entry_name c.args.due.now.entry) (codes " case ")
    (decimal (file.case_number c.args.due.now.case)) (left c.args.text.now) (left c.named_entry.new.text)
    (left c.named_entry.new.text)
    c.named_entry.result c.from_residual.result c.in_err-named_entry.field-0.0 (search rules) (search rules)
    (search rules)

pub returns : goal.returns
returns c = heading_told (codes "entry " ++ file.entry_name c.args.due.now.entry) (codes " case ")
    (decimal (file.case_number c.args.due.now.case)) (left c.args.text.now) (left c.named_entry.new.text)
    (left c.the_numbered.new.self)
    c.the_numbered.result (search rules) (search rules)
