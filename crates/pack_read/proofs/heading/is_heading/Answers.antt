use Rattle.std.proofs.Common.{rules, sym, ◌∙◌}
use Rattle.pack_mean.specs.File as file
use Rattle.pack_words.specs.Reading.{left}
use Rattle.pack_read.proofs.Headings.{whole_told}
use Rattle.pack_read.proofs.heading.is_heading.Goals as goal

pub returns-in-Ok : goal.returns-in-Ok
returns-in-Ok c = c.is_empty.ensures
    ∙ sym (whole_told (file.heading c.args.due.now.entry c.args.due.now.case) c.args.line.now (left c.heading.new.text)
    (search rules))
