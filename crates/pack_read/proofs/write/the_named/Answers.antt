use Rattle.std.proofs.Common.{rules, ◌++◌, codes}
use Rattle.std.specs.Fmt.{decimal}
use Rattle.pack_words.specs.Reading.{left}
use Rattle.pack_words.proofs.Fronts.{both_texts}
use Rattle.pack_read.proofs.write.the_named.Goals as goal

pub returns : goal.returns
returns c = both_texts (c.args.front.now ++ decimal c.args.number) (codes " = ") (left c.args.text.now)
    (left c.the_numbered.new.self)
    (left c.the.new.self)
    c.the.result (search rules) c.the.ensures
