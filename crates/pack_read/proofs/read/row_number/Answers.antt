use Rattle.pack_words.specs.Reading.{left}
use Rattle.pack_read.proofs.Opened.{row_number_whole}
use Rattle.pack_read.proofs.read.row_number.Goals as goal

pub returns : goal.returns
returns c = row_number_whole c.args.scope.now (left c.args.text.now) _ _ _ c.number.result c.number.ensures
