use Rattle.pack_words.specs.Reading.{left}
use Rattle.pack_read.proofs.Opened.{message_whole}
use Rattle.pack_read.proofs.read.message.Goals as goal

pub returns : goal.returns
returns c = message_whole c.args.scope.now (left c.args.text.now) _ _ _ c.message.result c.message.ensures
