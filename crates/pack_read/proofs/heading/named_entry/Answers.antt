use Rattle.std.proofs.Common.{rules}
use Rattle.pack_mean.specs.File as file
use Rattle.pack_words.specs.Reading.{left}
use Rattle.pack_words.proofs.Fronts.{both_texts}
use Rattle.pack_read.proofs.heading.named_entry.Goals as goal

pub returns : goal.returns
returns c = both_texts c.args.front.now (file.entry_name c.args.entry) (left c.args.text.now) (left c.the.new.self)
    (left c.entry_name.new.text)
    c.entry_name.result (search rules) c.entry_name.ensures
